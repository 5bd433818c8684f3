use Rattle.std.proofs.Common.{◌≡◌, ℕ, ◌<◌, slice_get}
use Rattle.factor_stack.specs.Stack.{IsStackOf}
use Rattle.verdict_cli.proofs.follower.Follower.follow.Given as goal

abbrev pub invariant-loop-i : goal.invariant-loop-i
invariant-loop-i l = record {
  made : IsStackOf l.network l.self.stack;
  limit : l.self.stack.limit ≡ l.fn.self.stack.limit;
  done : (j : ℕ) → j < l.i → slice_get l.self.stack.now.plan j ≡ slice_get l.plan j;
}
