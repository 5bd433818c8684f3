use Rattle.std.proofs.Common.{rules, ◌≡◌, [], subst}
use Rattle.branch_bound.specs.Cuts.{SearchCuts, GotCuts}
use Rattle.branch_bound.proofs.CutLemmas.{line_kept, line_taken}
use Rattle.branch_bound.proofs.run.take_line.Goals as goal

pub returns-clause-line : goal.returns-clause-line
returns-clause-line c = record {
  middle = c.take_offer.new.best;
  offered = c.in_ok-take_offer.ensures.offered;
  here = line_kept c.args.network.now c.args.node.now c.take_offer.new.best c.line_at.new.best c.line_at.new.cuts.pool c.put_line_of.new.cuts.pool c.in_ok-line.line c.put_line_of.ensures.pool c.in_ok-line.ensures.line;
}

pub returns-clause-spells : goal.returns-clause-spells
returns-clause-spells c =
    let cleared : c.clear.new.self.items ≡ [] = search rules in
    let got : GotCuts c.args.network.now c.args.findings.now.cuts c.line_at.new.cuts =
    subst (λ (cs : SearchCuts). GotCuts c.args.network.now cs c.line_at.new.cuts) c.take_offer.ensures.cuts c.in_ok-line.ensures.cuts in
    line_taken c.args.network.now c.args.findings.now.cuts c.line_at.new.cuts c.put_line_of.new.cuts c.in_ok-line.line c.clear.new.self.items c.put_line_of.new.out.items c.requires.cuts got c.put_line_of.ensures.pool cleared c.in_ok-put_line_of.ensures.put
