use Rattle.lent_parts.specs.Walks.{line_of}
use Rattle.log_migrate.proofs.WalkLemmas.{next_is_line, next_node, written_end, written_next, written_refused}
use Rattle.log_migrate.proofs.writing.write_log.Goals as goal

pub unreachable-requires : goal.unreachable-requires
unreachable-requires c =
    let so = c.lines.invariant c.requires.0 c.requires.1 in
    let next = next_node so.left (line_of c.in-Some.line) c.next.new.self c.lines.lines c.in-Some.ensures.steps so.walked in
    c.in-None.ensures.none next.node (next_is_line so.left (line_of c.in-Some.line) c.next.new.self next)

pub lines-preserved : goal.lines-preserved
lines-preserved c = λ nodes are.
    written_next nodes c.lines.lines c.next.new.self (line_of c.in-Some.line) c.in-Some-read_line.read c.lines.made c.add.new.self c.in-Some.ensures.steps
    (c.lines.invariant nodes are) c.in-Some-read_line.ensures.some c.in-Ok.ensures.added

pub returns : goal.returns
returns c = λ nodes are. written_end nodes c.lines.lines c.lines.made c.in_default.ensures.steps.0 (c.lines.invariant nodes are)

pub returns-in-Err : goal.returns-in-Err
returns-in-Err c = λ nodes are.
    written_refused nodes c.lines.lines c.next.new.self (line_of c.in-Some.line) c.in-Some-read_line.read c.lines.made c.in-Err.why c.in-Some.ensures.steps
    (c.lines.invariant nodes are) c.in-Some-read_line.ensures.some c.in-Err.ensures.cause
