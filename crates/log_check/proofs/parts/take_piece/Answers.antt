use Rattle.std.proofs.Common.{arith, sym, ◌∙◌}
use Rattle.lent_parts.specs.Walks.{line_of}
use Rattle.log_check.proofs.WalkLemmas.{walk_lacks, walk_long, walks_next, walks_end}
use Rattle.log_check.proofs.parts.take_piece.Goals as goal

pub take_part-requires-clause-space : goal.take_part-requires-clause-space
take_part-requires-clause-space c =
    let walks = c.loop-line.invariant in
    omega (arith, walks.space, walk_long walks.left (line_of c.in-Some.line) c.next.new.self (sym walks.walked ∙ c.in-Some.ensures.steps))

pub take_part-requires-clause-lacks : goal.take_part-requires-clause-lacks
take_part-requires-clause-lacks c =
    let walks = c.loop-line.invariant in
    walk_lacks walks.left (line_of c.in-Some.line) c.next.new.self (sym walks.walked ∙ c.in-Some.ensures.steps)

pub loop-line-preserved : goal.loop-line-preserved
loop-line-preserved c =
    walks_next c.args.network.now c.args.piece.now c.args.judged.now c.loop-line.judged c.take_part.new.judged c.args.kept.now.items c.loop-line.kept.items c.take_part.new.kept.items
    c.loop-line.walk c.next.new.self (line_of c.in-Some.line) c.loop-line.kept.len c.loop-line.kept.cap c.take_part.new.kept.len c.take_part.new.kept.cap
    c.in-Some.ensures.steps c.loop-line.invariant c.take_part.ensures.sound c.take_part.ensures.taken c.take_part.ensures.few c.take_part.ensures.kept

pub returns-clause-taken : goal.returns-clause-taken
returns-clause-taken c =
    walks_end c.args.network.now c.args.piece.now c.args.judged.now c.loop-line.judged c.args.kept.now.items c.loop-line.kept.items
    c.loop-line.walk c.loop-line.kept.len c.loop-line.kept.cap c.in_default.ensures.steps.0 c.loop-line.invariant
