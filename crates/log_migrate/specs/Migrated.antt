-- What a migration of a log answers. This project's own.
use Rattle.std.specs.Prelude.{◌≡◌, ◌<◌, ◌≤◌, ℕ, List, length}
use Rattle.geo_model.specs.Network.{NetworkOf}
use Rattle.bound_log.specs.CutText.{CutTextOf}
use Rattle.bound_log.specs.LogTree.{IsLog}
use Rattle.bound_log.specs.SpellsIn.{SpellsIn}
use Rattle.bound_log.specs.Tree.{Tree, tree_lines}
use Rattle.bound_log.specs.declared.log_format.LogFormat.TheVariants.{First, Second}
use Rattle.log_migrate.specs.FirstUse.{cuts_needed, migrated_text}
use Rattle.log_migrate.specs.declared.answer.MigrateAnswer.{MigrateAnswer}
use Rattle.log_migrate.specs.declared.answer.MigrateAnswer.TheVariants.{TooManyCuts, NoMemory}

-- a text is a log of some network
pub record IsSomeLog (text : List ℕ) : Type 0 where
  pub network : NetworkOf
  pub tree : Tree
  pub log : IsLog network text tree

-- a log of the network with this tree comes to this text: a log of format 2 with the same tree, so with the same bound and
-- counts. A log of format 2 is copied; for one of format 1 each cut is named once, and at most 65536 of them are needed.
pub record IsMigrated (network : NetworkOf) (tree : Tree) (old new : List ℕ) : Type 0 where
  pub log : IsLog network new tree
  pub second : (cuts : List CutTextOf) × SpellsIn Second new cuts tree
  pub copied : (cuts : List CutTextOf) → SpellsIn Second old cuts tree → new ≡ old
  pub written : (cuts : List CutTextOf) → SpellsIn First old cuts tree → new ≡ migrated_text tree
  pub few : (cuts : List CutTextOf) → SpellsIn First old cuts tree → length (cuts_needed (tree_lines tree)) ≤ 65536

-- a log of format 1 with this tree needs more names than a log of format 2 can have
pub record NeedsTooMany (tree : Tree) (old : List ℕ) : Type 0 where
  pub cuts : List CutTextOf
  pub first : SpellsIn First old cuts tree
  pub many : 65536 < length (cuts_needed (tree_lines tree))

-- why a log with this tree comes to no text: too many cuts exactly there; want of memory may come at any log
abbrev pub IsWhy : Tree → List ℕ → MigrateAnswer → Type 0
IsWhy tree old TooManyCuts = NeedsTooMany tree old
IsWhy tree old NoMemory = Unit {0}
