use Rattle.std.proofs.Common.{◌≡◌, [], ◌∷◌, List, rules, subst, sym}
use Rattle.std.specs.Prelude.{IfOk}
use Rattle.std.proofs.lemmas.Option.{slice_get_within}
use Rattle.design_rows.specs.declared.term.Term.{Term}
use Rattle.design_rows.specs.Bounds.{AreTerms}
use Rattle.design_rows.specs.Equations.{angle_terms, observed}
use Rattle.design_rows.specs.Rows.{row_of}
use Rattle.design_rows.proofs.EquationFacts.{angle-terms, angle-within, foresight, foresight-within}
use Rattle.design_rows.proofs.equations.angle_row.Goals as goal

pub direction_parts-fore-requires-clause-to : goal.direction_parts-fore-requires-clause-to
direction_parts-fore-requires-clause-to c =
    let third = foresight c.args.points.now c.args.candidate.now c.requires.accepted c.requires.kind in
    rw c.requires.foresight (slice_get_within c.args.points.now _ third.end.point third.end.is)

pub direction_parts-fore-requires-clause-least : goal.direction_parts-fore-requires-clause-least
direction_parts-fore-requires-clause-least c =
    rw c.requires.foresight (foresight-within c.args.points.now c.args.candidate.now c.requires.accepted c.requires.kind).least

pub direction_parts-fore-requires-clause-most : goal.direction_parts-fore-requires-clause-most
direction_parts-fore-requires-clause-most c =
    rw c.requires.foresight (foresight-within c.args.points.now c.args.candidate.now c.requires.accepted c.requires.kind).greatest

pub direction_parts-fore-requires-clause-from : goal.direction_parts-fore-requires-clause-from
direction_parts-fore-requires-clause-from c = slice_get_within c.args.points.now _ c.requires.accepted.from.point c.requires.accepted.from.is

pub direction_parts-back-requires-clause-least : goal.direction_parts-back-requires-clause-least
direction_parts-back-requires-clause-least c = (angle-within c.args.points.now c.args.candidate.now c.requires.accepted c.requires.kind).least

pub direction_parts-back-requires-clause-most : goal.direction_parts-back-requires-clause-most
direction_parts-back-requires-clause-most c = (angle-within c.args.points.now c.args.candidate.now c.requires.accepted c.requires.kind).greatest

pub row_of-requires-clause-terms : goal.row_of-requires-clause-terms
row_of-requires-clause-terms c =
    let third = foresight c.args.points.now c.args.candidate.now c.requires.accepted c.requires.kind in
    let same : (c.term_of.result ∷ c.term_of-2.result ∷ c.term_of-3.result ∷ c.term_of-4.result ∷ c.term_of-5.result ∷ c.term_of-6.result ∷ [])
    ≡ angle_terms c.args.points.now c.args.candidate.now.from c.args.candidate.now.to c.args.foresight = search rules in
    subst AreTerms (sym same) (rw c.requires.foresight (angle-terms c.args.points.now c.args.candidate.now.from c.args.candidate.now.to _
    c.requires.accepted.other third.other_from third.other_to
    (angle-within c.args.points.now c.args.candidate.now c.requires.accepted c.requires.kind).least
    (foresight-within c.args.points.now c.args.candidate.now c.requires.accepted c.requires.kind).least))

pub returns : goal.returns
returns c =
    let same : (c.term_of.result ∷ c.term_of-2.result ∷ c.term_of-3.result ∷ c.term_of-4.result ∷ c.term_of-5.result ∷ c.term_of-6.result ∷ [])
    ≡ angle_terms c.args.points.now c.args.candidate.now.from c.args.candidate.now.to c.args.foresight = search rules in
    subst (λ (terms : List Term). IfOk c.row_of.result (λ row. row ≡ row_of c.args.columns.now (observed terms c.args.candidate.now.sd))) same c.row_of.ensures
