use Rattle.std.proofs.Common.{◌≡◌, ◌++◌, length}
use Rattle.lent_parts.specs.Pieces.{lines_of}
use Rattle.pivot_chain.specs.Room.{IsRoomOf}
use Rattle.verdict_cli.specs.Answer.{are_plans, lines_for, plans_lines}
use Rattle.verdict_cli.proofs.answer.put_plans_over.Given as goal

abbrev pub invariant-loop-line : goal.invariant-loop-line
invariant-loop-line l = record {
  room : IsRoomOf l.network l.room;
  lines : l.out.items ++ lines_for l.network l.line-iterator ≡ l.fn.out.items ++ plans_lines l.network l.plans;
  plans : are_plans (length l.network.candidates) l.line-iterator ≡ are_plans (length l.network.candidates) (lines_of l.plans);
}
