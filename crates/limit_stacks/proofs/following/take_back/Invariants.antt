use Rattle.std.proofs.Common.{◌≡◌, length}
use Rattle.factor_stack.specs.Stack.{IsStackOf}
use Rattle.limit_stacks.proofs.following.take_back.Given as goal

abbrev pub invariant-changes : goal.invariant-changes
invariant-changes l = record {
  made : IsStackOf l.network l.stack;
  limit : l.stack.limit ≡ l.initial.stack.limit;
}

abbrev pub decreases-changes : goal.decreases-changes
decreases-changes l = length l.stack.before
