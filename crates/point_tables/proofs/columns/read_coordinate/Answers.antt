use Rattle.std.proofs.Common.{◌≡◌, ◌∙◌, Some, ap, sym, subst, rules, FitsSigned, w64, false}
use Rattle.std.proofs.lemmas.Int.{to_z-of_z}
use Rattle.table_rows.specs.Faults.{first_broken}
use Rattle.table_columns.specs.Columns.{is_empty}
use Rattle.point_tables.specs.Read.{IsCoordinateOf}
use Rattle.point_tables.proofs.ColumnFacts.{coordinate-given, coordinate-none, coordinate-some}
use Rattle.point_tables.proofs.columns.read_coordinate.Goals as goal

pub returns-then-is_empty : goal.returns-then-is_empty
returns-then-is_empty c = coordinate-none c.args.text.now (sym c.is_empty.ensures ∙ c.if-is_empty.true)

pub returns-in-Ok : goal.returns-in-Ok
returns-in-Ok c =
    let given : is_empty c.args.text.now ≡ false = sym c.is_empty.ensures ∙ c.if-is_empty.false in
    let fits : FitsSigned w64 c.in-Ok.value = search rules in (
      ap first_broken (coordinate-given c.args.text.now given) ∙ c.in-Ok.ensures.0,
      subst (λ value. IsCoordinateOf c.args.text.now (Some value)) (sym (to_z-of_z w64 c.in-Ok.value fits)) (coordinate-some c.args.text.now c.in-Ok.value given c.in-Ok.ensures.1),
    )

pub returns-in-Err : goal.returns-in-Err
returns-in-Err c =
    ap first_broken (coordinate-given c.args.text.now (sym c.is_empty.ensures ∙ c.if-is_empty.false)) ∙ c.in-Err.ensures
