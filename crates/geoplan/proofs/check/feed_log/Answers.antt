use Rattle.std.proofs.Common.{[], ◌++◌, arith, refl, ◌∙◌}
use Rattle.geoplan.proofs.PartLemmas.{countable, reads_more, reads_none, FailsRead-out}
use Rattle.geoplan.proofs.check.feed_log.Goals as goal

pub parts-init : goal.parts-init
parts-init g c = ([], c.in-Ok.ensures (g.H.Shelf.state c.args.shelf.now), c.requires, refl)

pub returns-in-Err-feed_part-clause-fault : goal.returns-in-Err-feed_part-clause-fault
returns-in-Err-feed_part-clause-fault g c =
    let (text, read, fed, same) = c.parts.invariant in
    let more = reads_more _ text _ c.parts.parts c.read_next.new.self _ _ (c.in_ok-read_next.ensures _ text _ read) c.if-branch.true in
    FailsRead-out _ _ c.read_next.new.self _ _ more.0

pub parts-smaller : goal.parts-smaller
parts-smaller g c =
    let (text, read, fed, same) = c.parts.invariant in
    let more = reads_more _ text _ c.parts.parts c.read_next.new.self _ _ (c.in_ok-read_next.ensures _ text _ read) c.if-branch.true in
    omega (arith, more.1, more.0.counted, more.0.within)

pub parts-preserved : goal.parts-preserved
parts-preserved g c =
    let (text, read, fed, same) = c.parts.invariant in
    let more = reads_more _ text _ c.parts.parts c.read_next.new.self _ _ (c.in_ok-read_next.ensures _ text _ read) c.if-branch.true in
    (text ++ c.read_next.new.self.part.items, more.0, rw c.part.ensures at (c.in-Ok-feed_part.ensures.fed text fed (countable text read.within)), c.in-Ok-feed_part.ensures.network ∙ same)

pub returns-clause-read : goal.returns-clause-read
returns-clause-read g c =
    let (text, read, fed, same) = c.parts.invariant in
    (text, reads_none _ text _ c.parts.parts c.read_next.new.self _ _ (c.in_ok-read_next.ensures _ text _ read) c.if-branch.false, fed)
