use Rattle.std.proofs.Common.{◌≡◌, ◌∙◌, FitsSigned, ap, ap₂, rules, sym, w64, List, ℕ, ℤ, to_z, of_z, subst}
use Rattle.std.proofs.lemmas.Int.{to_z-of_z}
use Rattle.geo_model.specs.Row.{IsRow, RowOf}
use Rattle.geo_model.specs.declared.network.Unknown.{Unknown}
use Rattle.design_rows.specs.Equations.{observed}
use Rattle.design_rows.specs.Rows.{entries_of, row_of}
use Rattle.design_rows.proofs.BoundFacts.{row-bounded}
use Rattle.design_rows.proofs.entries.row_of.Goals as goal

-- the row, by its parts
made : (entries : List (ℕ × ℤ)) (weight : ℤ) → RowOf
made entries weight = record { entries = entries; weight = weight }

row-is : (c : goal.After-weight_of)
    → made c.in_ok-entries.entries.items (to_z w64 (of_z w64 c.weight_of.result)) ≡ row_of c.args.columns.now (observed c.args.terms.now c.args.deviation)
unfolding made
row-is c =
    let fits : FitsSigned w64 c.weight_of.result = search rules in
    ap₂ made (c.in_ok-entries.ensures ∙ ap (λ (us : List Unknown). entries_of us c.args.terms.now) c.unknowns.ensures.value)
    (to_z-of_z w64 c.weight_of.result fits ∙ c.weight_of.ensures.value)

pub new-requires : goal.new-requires
unfolding made
new-requires c =
    subst IsRow (sym (row-is c))
    (row-bounded c.args.columns.now (observed c.args.terms.now c.args.deviation) c.unknowns.ensures.bounds.apart (record { terms = c.requires.terms; deviation = c.requires.deviation }))
