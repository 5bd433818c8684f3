use Rattle.std.proofs.Common.{◌≡◌, ◌∙◌, ap, sym, rules, FitsSigned, w64, true, false}
use Rattle.std.specs.Prelude.{unsigned_abs}
use Rattle.std.specs.Str.{bytes_eq}
use Rattle.std.proofs.lemmas.Int.{to_z-of_z}
use Rattle.table_rows.specs.Faults.{first_broken}
use Rattle.table_columns.specs.Columns.{is_empty}
use Rattle.point_tables.specs.PointTable.{is_fixed}
use Rattle.point_tables.proofs.ColumnFacts.{part-absent, part-fixed, part-given, part-new}
use Rattle.point_tables.proofs.columns.read_part.Goals as goal

pub returns-then-is_empty : goal.returns-then-is_empty
returns-then-is_empty c = part-absent c.args.text.now (sym c.is_empty.ensures ∙ c.if-is_empty.true)

pub returns-then-eq : goal.returns-then-eq
returns-then-eq c =
    let same : is_fixed c.args.text.now ≡ true = ap (bytes_eq c.args.text.now) (sym c.as_slice.ensures) ∙ sym c.eq.ensures ∙ c.if-eq.true in
    part-fixed c.args.text.now (sym c.is_empty.ensures ∙ c.if-is_empty.false) same

pub returns-in-Ok : goal.returns-in-Ok
returns-in-Ok c =
    let given : is_empty c.args.text.now ≡ false = sym c.is_empty.ensures ∙ c.if-is_empty.false in
    let other : is_fixed c.args.text.now ≡ false = ap (bytes_eq c.args.text.now) (sym c.as_slice.ensures) ∙ sym c.eq.ensures ∙ c.if-eq.false in
    let fits : FitsSigned w64 c.in-Ok.limit = search rules in (
      ap first_broken (part-given c.args.text.now given other) ∙ c.in-Ok.ensures.0,
      part-new c.args.text.now c.in-Ok.limit _ given other c.in-Ok.ensures.1 (ap unsigned_abs (to_z-of_z w64 c.in-Ok.limit fits)),
    )

pub returns-in-Err : goal.returns-in-Err
returns-in-Err c =
    let given : is_empty c.args.text.now ≡ false = sym c.is_empty.ensures ∙ c.if-is_empty.false in
    let other : is_fixed c.args.text.now ≡ false = ap (bytes_eq c.args.text.now) (sym c.as_slice.ensures) ∙ sym c.eq.ensures ∙ c.if-eq.false in
    ap first_broken (part-given c.args.text.now given other) ∙ c.in-Err.ensures
