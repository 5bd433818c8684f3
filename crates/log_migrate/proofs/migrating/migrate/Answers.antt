use Rattle.std.proofs.Common.{◌∙◌, ap}
use Rattle.lent_parts.specs.Walks.{line_of}
use Rattle.bound_log.specs.Formats.{head_body_in}
use Rattle.log_migrate.proofs.WalkLemmas.{is_refused, is_written, some_lines_left}
use Rattle.log_migrate.proofs.migrating.migrate.Goals as goal

pub write_log-requires : goal.write_log-requires
write_log-requires c =
    some_lines_left c.requires.network c.requires.tree c.args.log.now (line_of c.in-Some.head) c.next.new.self c.lines-left.result
    c.lines-left.ensures c.in-Some.ensures.steps (c.in-Some-First.ensures.some ∙ ap head_body_in c.in-Some-First.field-0-is) c.requires.log

pub returns-in-Ok-clause-migrated : goal.returns-in-Ok-clause-migrated
returns-in-Ok-clause-migrated c = λ network tree log.
    is_written network tree c.args.log.now (line_of c.in-Some.head) c.next.new.self c.lines-left.result c.in-Ok.made
    c.lines-left.ensures c.in-Some.ensures.steps (c.in-Some-First.ensures.some ∙ ap head_body_in c.in-Some-First.field-0-is) log c.in-Ok.ensures

pub returns-in-Err-clause-cause : goal.returns-in-Err-clause-cause
returns-in-Err-clause-cause c = λ network tree log.
    is_refused network tree c.args.log.now (line_of c.in-Some.head) c.next.new.self c.lines-left.result c.in-Err.why
    c.lines-left.ensures c.in-Some.ensures.steps (c.in-Some-First.ensures.some ∙ ap head_body_in c.in-Some-First.field-0-is) log c.in-Err.ensures
