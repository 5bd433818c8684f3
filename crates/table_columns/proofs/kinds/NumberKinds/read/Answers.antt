use Rattle.std.proofs.Common.{◌≡◌, ◌∙◌, Some, sym, FitsSigned, w64, subst, rules}
use Rattle.std.proofs.lemmas.Int.{to_z-of_z}
use Rattle.text_num.specs.Decimal.{decimal_of}
use Rattle.table_columns.specs.Columns.{IsNumber}
use Rattle.table_columns.proofs.NumberFacts.{le-tested, lt-tested, number-above, number-below, number-none, number-within}
use Rattle.table_columns.proofs.kinds.NumberKinds.read.Goals as goal
use Rattle.table_columns.proofs.kinds.NumberKinds.read.Goals.{then-value-least-via-then-value-least, then-value-least-via-else-value-least+then-most-value}

pub returns-in_default : goal.returns-in_default
returns-in_default g c = number-none c.args.self c.args.places c.args.least c.args.most c.args.text.now (sym c.read_decimal.ensures.value ∙ c.in_default.is)

pub returns-then-value-least : goal.returns-then-value-least
returns-then-value-least g c =
    let written : decimal_of c.args.places c.args.text.now ≡ Some c.in-Some.value = sym c.read_decimal.ensures.value ∙ c.in-Some.is in
    let fits : FitsSigned w64 c.in-Some.value = search rules in
    elim c.then-value-least.branch [
      | then-value-least-via-then-value-least w ↦
          let below = simp (to_z-of_z, fits, c.ranges.least) at w.if-value-least.true in
          number-below c.args.self c.args.places c.args.least c.args.most c.args.text.now c.in-Some.value written (lt-tested c.in-Some.value c.args.least below)
      | then-value-least-via-else-value-least+then-most-value w ↦
          let low = simp (to_z-of_z, fits, c.ranges.least) at w.if-value-least.false in
          let above = simp (to_z-of_z, fits, c.ranges.most) at w.if-most-value.true in
          number-above c.args.self c.args.places c.args.least c.args.most c.args.text.now c.in-Some.value written (le-tested c.args.least c.in-Some.value low) (lt-tested c.args.most c.in-Some.value above)
    ]

pub returns : goal.returns
returns g c =
    let written : decimal_of c.args.places c.args.text.now ≡ Some c.in-Some.value = sym c.read_decimal.ensures.value ∙ c.in-Some.is in
    let fits : FitsSigned w64 c.in-Some.value = search rules in
    let low = le-tested c.args.least c.in-Some.value (simp (to_z-of_z, fits, c.ranges.least) at c.if-value-least.false) in
    let high = le-tested c.in-Some.value c.args.most (simp (to_z-of_z, fits, c.ranges.most) at c.if-most-value.false) in
    let is : IsNumber c.args.places c.args.least c.args.most c.args.text.now c.in-Some.value = record { written = written; low = low; high = high } in (
      number-within c.args.self c.args.places c.args.least c.args.most c.args.text.now c.in-Some.value written low high,
      subst (IsNumber c.args.places c.args.least c.args.most c.args.text.now) (sym (to_z-of_z w64 c.in-Some.value fits)) is,
    )
