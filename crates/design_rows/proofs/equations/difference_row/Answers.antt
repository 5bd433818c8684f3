use Rattle.std.proofs.Common.{◌≡◌, [], ◌∷◌, rules, subst, sym}
use Rattle.design_rows.specs.Bounds.{AreTerms}
use Rattle.design_rows.specs.Equations.{difference_terms}
use Rattle.design_rows.proofs.EquationFacts.{difference-terms}
use Rattle.design_rows.proofs.equations.difference_row.Goals as goal

pub row_of-requires-clause-terms : goal.row_of-requires-clause-terms
row_of-requires-clause-terms c =
    let same : (c.term_of.result ∷ c.term_of-2.result ∷ []) ≡ difference_terms c.args.component c.args.a c.args.b = search rules in
    subst AreTerms (sym same) (difference-terms c.args.component c.args.a c.args.b c.requires.other)
