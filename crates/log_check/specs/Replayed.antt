-- What a replay answers. This project's own.
use Rattle.std.specs.Prelude.{◌≡◌, ℕ, List}
use Rattle.geo_model.specs.Network.{NetworkOf}
use Rattle.bound_log.specs.Counted.{counts_of}
use Rattle.bound_log.specs.LogTree.{root_of, IsLog, bound_at}
use Rattle.bound_log.specs.Tree.{Tree, tree_lines}
use Rattle.log_check.specs.declared.fault.ReplayAnswer.{ReplayAnswer}
use Rattle.log_check.specs.declared.fault.ReplayAnswer.TheVariants.{Fault, NoMemory}
use Rattle.log_check.specs.declared.replaying.Replayed.{Replayed}
use Rattle.log_check.specs.FirstFault.{IsFirstFault}

-- the text is a log of the network, with this bound and these counts of its lines
pub record IsReplayed (network : NetworkOf) (text : List ℕ) (done : Replayed) : Type 0 where
  pub tree : Tree
  pub log : IsLog network text tree
  pub least : done.bound ≡ bound_at network (root_of network) tree
  pub counted : done.counts ≡ counts_of (tree_lines tree)

-- a fault is the first fault of the text; want of memory may come at any text
abbrev pub IsCause : NetworkOf → List ℕ → ReplayAnswer → Type 0
IsCause network text (Fault fault) = IsFirstFault network text fault
IsCause network text NoMemory = Unit {0}
