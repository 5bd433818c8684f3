use Rattle.std.proofs.Common.{◌≡◌, [], ◌∷◌, rules, subst, sym}
use Rattle.design_rows.specs.Bounds.{AreTerms}
use Rattle.design_rows.specs.Equations.{direction_terms}
use Rattle.design_rows.proofs.EquationFacts.{direction-terms, direction-within}
use Rattle.design_rows.proofs.equations.direction_row.Goals as goal

pub direction_parts-parts-requires-clause-least : goal.direction_parts-parts-requires-clause-least
direction_parts-parts-requires-clause-least c = (direction-within c.args.points.now c.args.candidate.now c.requires.accepted c.requires.kind).least

pub direction_parts-parts-requires-clause-most : goal.direction_parts-parts-requires-clause-most
direction_parts-parts-requires-clause-most c = (direction-within c.args.points.now c.args.candidate.now c.requires.accepted c.requires.kind).greatest

pub row_of-requires-clause-terms : goal.row_of-requires-clause-terms
row_of-requires-clause-terms c =
    let same : (c.term_of.result ∷ c.term_of-2.result ∷ c.term_of-3.result ∷ c.term_of-4.result ∷ c.term_of-5.result ∷ []) ≡ direction_terms c.args.points.now c.args.candidate.now.from c.args.candidate.now.to = search rules in
    let line = direction-within c.args.points.now c.args.candidate.now c.requires.accepted c.requires.kind in
    subst AreTerms (sym same) (direction-terms c.args.points.now c.args.candidate.now.from c.args.candidate.now.to c.requires.accepted.other line.least)
