use Rattle.std.proofs.Common.{◌≡◌, [], ◌∷◌, rules, subst, sym}
use Rattle.design_rows.specs.Bounds.{AreTerms}
use Rattle.design_rows.specs.Equations.{distance_terms}
use Rattle.design_rows.proofs.EquationFacts.{distance-terms, distance-within}
use Rattle.design_rows.proofs.equations.distance_row.Goals as goal

pub distance_parts-parts-requires-clause-least : goal.distance_parts-parts-requires-clause-least
distance_parts-parts-requires-clause-least c = (distance-within c.args.points.now c.args.candidate.now c.requires.accepted c.requires.kind).least

pub distance_parts-parts-requires-clause-most : goal.distance_parts-parts-requires-clause-most
distance_parts-parts-requires-clause-most c = (distance-within c.args.points.now c.args.candidate.now c.requires.accepted c.requires.kind).greatest

pub row_of-requires-clause-terms : goal.row_of-requires-clause-terms
row_of-requires-clause-terms c =
    let same : (c.term_of.result ∷ c.term_of-2.result ∷ c.term_of-3.result ∷ c.term_of-4.result ∷ []) ≡ distance_terms c.args.points.now c.args.candidate.now.from c.args.candidate.now.to = search rules in
    subst AreTerms (sym same) (distance-terms c.args.points.now c.args.candidate.now.from c.args.candidate.now.to c.requires.accepted.other)
