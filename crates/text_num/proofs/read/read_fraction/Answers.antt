use Rattle.std.proofs.Common.{◌≡◌, true, false}
use Rattle.text_num.specs.Decimal.{is_fraction}
use Rattle.text_num.proofs.Reading.{fraction_of-empty, fraction_of-no_point, fraction_of-no_form, fraction_digits, fraction_of-computed}
use Rattle.text_num.proofs.read.read_fraction.Goals as goal
use Rattle.text_num.proofs.read.read_fraction.Goals.{then-first-ne46-via-then-first-ne46, then-first-ne46-via-else-first-ne46+then-not-has_fraction_form}

pub returns-in_default : goal.returns-in_default
returns-in_default c = fraction_of-empty c.args.places c.args.text.now c.in_default.ensures.cases

pub returns-then-first-ne46 : goal.returns-then-first-ne46
returns-then-first-ne46 c = elim c.then-first-ne46.branch [
  | then-first-ne46-via-then-first-ne46 w ↦ fraction_of-no_point c.args.places c.in-Some.first.now c.args.text.now c.in-Some.digits.now c.in-Some.ensures.cases.0 w.if-first-ne46.true
  | then-first-ne46-via-else-first-ne46+then-not-has_fraction_form w ↦
      let form : is_fraction c.args.places c.in-Some.digits.now ≡ false = cc in
      fraction_of-no_form c.args.places c.in-Some.first.now c.args.text.now c.in-Some.digits.now c.in-Some.ensures.cases.0 w.if-first-ne46.false form
]

pub number-requires-clause-form : goal.number-requires-clause-form
number-requires-clause-form c =
    let form : is_fraction c.args.places c.in-Some.digits.now ≡ true = cc in
    fraction_digits c.args.places c.min-kept.result c.in-Some.digits.now form

pub returns : goal.returns
returns c =
    let form : is_fraction c.args.places c.in-Some.digits.now ≡ true = cc in
    fraction_of-computed c.args.places c.min-kept.result c.number.result c.power_of_ten.result c.in-Some.first.now c.args.text.now c.in-Some.digits.now
    c.in-Some.ensures.cases.0 c.if-first-ne46.false form c.min-kept.ensures c.number.ensures.value c.power_of_ten.ensures.value
