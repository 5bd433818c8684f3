use Rattle.std.proofs.Common.{◌≡◌, ◌≤◌, ◌-◌, ℕ, length, Some}
use Rattle.std.specs.Prelude.{slice_get}
use Rattle.limit_stacks.specs.Kept.{IsKeptLimit}
use Rattle.limit_stacks.specs.declared.kept_limit.KeptLimit.{KeptLimit}
use Rattle.limit_stacks.proofs.search_verdicts.SearchVerdicts.new.Given as goal

abbrev pub invariant-limits : goal.invariant-limits
invariant-limits l = record {
  within : length l.limits.items ≤ length l.network.limits;
  each : (number : ℕ) (kept : KeptLimit) → slice_get l.limits.items number ≡ Some kept → IsKeptLimit l.network number kept;
}

abbrev pub decreases-limits : goal.decreases-limits
decreases-limits l = length l.network.limits - length l.limits.items
