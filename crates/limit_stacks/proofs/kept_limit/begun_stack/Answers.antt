use Rattle.limit_stacks.proofs.kept_limit.begun_stack.Goals as goal

pub returns-in-Some : goal.returns-in-Some
returns-in-Some c = c.requires.kept c.in-Some.stack c.in-Some.is
