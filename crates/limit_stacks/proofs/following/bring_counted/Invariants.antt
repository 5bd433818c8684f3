use Rattle.std.proofs.Common.{◌≡◌, ◌≤◌, ◌+◌, length}
use Rattle.factor_stack.specs.Stack.{IsStackOf}
use Rattle.limit_stacks.proofs.Brought.{Agree}
use Rattle.limit_stacks.proofs.following.bring_counted.Given as goal

abbrev pub invariant-loop-i : goal.invariant-loop-i
invariant-loop-i g l = record {
  made : IsStackOf l.network l.stack;
  limit : l.stack.limit ≡ l.initial.stack.limit;
  few : length l.stack.before ≤ 256 + l.i;
  agrees : Agree l.i l.stack.now.plan l.plan;
}
