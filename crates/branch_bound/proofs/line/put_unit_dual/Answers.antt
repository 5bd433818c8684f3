use Rattle.std.proofs.Common.{ap, ◌∙◌, Some, length}
use Rattle.branch_bound.specs.Cuts.{named_cuts}
use Rattle.branch_bound.proofs.DearLemmas.{unit_text_at}
use Rattle.branch_bound.proofs.PlaceLemmas.{get_inside}
use Rattle.branch_bound.proofs.PutLemmas.{puts_unit}
use Rattle.branch_bound.proofs.line.put_unit_dual.Goals as goal

pub returns-clause-put : goal.returns-clause-put
returns-clause-put c =
    let found = get_inside c.args.cuts.now.pool c.in_ok-number.number c.in_ok-number.ensures.inside in
    let unit = c.in_ok-number.ensures.number found.0 found.1 in
    let text = unit_text_at c.args.cuts.now.pool c.in_ok-number.number (length c.args.network.now.unknowns) found.0 c.args.share found.1 unit.0 unit.1 c.requires.share.inside in
    puts_unit c.args.network.now (named_cuts c.args.cuts.now) c.name.new.self c.args.share c.in_ok-name.name c.args.out.now.items c.name.new.out.items c.put_dual2.new.out.items
    c.in_ok-name.ensures.cuts c.requires.share.divisor c.requires.share.multiplier c.in_ok-name.ensures.puts (c.in_ok-name.ensures.name ∙ ap Some text) c.in_ok-put_dual2.ensures.put
