use Rattle.std.proofs.Common.{sym, ◌∙◌}
use Rattle.limit_stacks.proofs.kept_limit.KeptLimit.stack_verdict.Goals as goal

pub begun_stack-requires-clause-kept : goal.begun_stack-requires-clause-kept
begun_stack-requires-clause-kept c = λ stack is. c.requires.kept.stack stack (sym c.take.ensures.value ∙ is)
