use Rattle.std.proofs.Common.{List, All, length}
use Rattle.bound_log.specs.CutText.{CutTextOf}
use Rattle.bound_log.specs.UseText.{uses_of}
use Rattle.log_migrate.specs.NewLog.{HasNamed, IsShortCut, NumbersSo}
use Rattle.log_migrate.proofs.new_log.NewLog.numbers.Given as goal

-- the shares so far have their numbers
abbrev pub invariant-shares : goal.invariant-shares
invariant-shares l = record {
  numbered : (named : List CutTextOf) → HasNamed named l.initial.self → NumbersSo named l.fn.shares l.left (uses_of l.uses.items) l.initial.self l.self;
  short : All (λ share. IsShortCut share.1) l.left;
}

abbrev pub decreases-shares : goal.decreases-shares
decreases-shares l = length l.left
