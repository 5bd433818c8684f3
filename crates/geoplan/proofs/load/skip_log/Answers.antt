use Rattle.std.proofs.Common.{[], ◌++◌, arith}
use Rattle.geoplan.proofs.PartLemmas.{reads_more, reads_none}
use Rattle.geoplan.proofs.load.skip_log.Goals as goal

pub parts-init : goal.parts-init
parts-init g c = ([], c.in-Ok.ensures (g.H.Shelf.state c.args.shelf.now))

pub parts-smaller : goal.parts-smaller
parts-smaller g c =
    let (text, read) = c.parts.invariant in
    let more = reads_more _ text _ c.parts.parts c.read_next.new.self _ _ (c.in_ok-read_next.ensures _ text _ read) c.if-branch.true in
    omega (arith, more.1, more.0.counted, more.0.within)

pub parts-preserved : goal.parts-preserved
parts-preserved g c =
    let (text, read) = c.parts.invariant in
    let more = reads_more _ text _ c.parts.parts c.read_next.new.self _ _ (c.in_ok-read_next.ensures _ text _ read) c.if-branch.true in
    (text ++ c.read_next.new.self.part.items, more.0)

pub returns-clause-read : goal.returns-clause-read
returns-clause-read g c =
    let (text, read) = c.parts.invariant in
    (text, reads_none _ text _ c.parts.parts c.read_next.new.self _ _ (c.in_ok-read_next.ensures _ text _ read) c.if-branch.false)
