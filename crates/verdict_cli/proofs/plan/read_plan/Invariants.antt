use Rattle.std.proofs.Common.{◌≡◌, ℕ, ◌<◌, length, slice_get}
use Rattle.verdict_cli.specs.Answer.{plan_of}
use Rattle.verdict_cli.proofs.plan.read_plan.Given as goal

abbrev pub invariant-loop-i : goal.invariant-loop-i
invariant-loop-i l = record {
  places : length l.plan ≡ l.m;
  done : (j : ℕ) → j < l.i → slice_get l.plan j ≡ slice_get (plan_of l.line) j;
}
