use Rattle.std.proofs.Common.{◌≤◌, length, take, arith, inl, inr, Some, None}
use Rattle.std.specs.Char.{is_ascii_digit}
use Rattle.std.proofs.lemmas.List.{length-take}
use Rattle.text_num.proofs.Digits.{front_passes}
use Rattle.text_num.proofs.Reading.{unsigned_of-outside, unsigned_of-computed, unsigned_of-no_fraction, whole_room, fraction_room, whole_rest}
use Rattle.text_num.proofs.read.read_unsigned.Goals as goal
use Rattle.text_num.proofs.read.read_unsigned.Goals.{then-count-lt1-via-then-count-lt1, then-count-lt1-via-else-count-lt1+then-count-gt12}

pub returns-then-count-lt1 : goal.returns-then-count-lt1
returns-then-count-lt1 c = elim c.then-count-lt1.branch [
  | then-count-lt1-via-then-count-lt1 w ↦ unsigned_of-outside c.args.places c.args.text.now (inl (omega (arith, w.if-count-lt1.true, c.leading_digits-count.ensures)))
  | then-count-lt1-via-else-count-lt1+then-count-gt12 w ↦ unsigned_of-outside c.args.places c.args.text.now (inr (omega (arith, w.if-count-gt12.true, c.leading_digits-count.ensures)))
]

pub number-requires-clause-form : goal.number-requires-clause-form
number-requires-clause-form c = rw c.leading_digits-count.ensures (front_passes is_ascii_digit c.args.text.now)

pub overflow_mul-whole : goal.overflow_mul-whole
overflow_mul-whole c =
    let few : length (take c.leading_digits-count.result c.args.text.now) ≤ 12 = omega (arith, length-take c.leading_digits-count.result c.args.text.now) in
    omega (arith, whole_room c.number.result (length (take c.leading_digits-count.result c.args.text.now)) c.power_of_ten.result c.number.ensures.size few c.power_of_ten.ensures.small)

pub overflow_add-result : goal.overflow_add-result
overflow_add-result c =
    let few : length (take c.leading_digits-count.result c.args.text.now) ≤ 12 = omega (arith, length-take c.leading_digits-count.result c.args.text.now) in
    let whole = whole_room c.number.result (length (take c.leading_digits-count.result c.args.text.now)) c.power_of_ten.result c.number.ensures.size few c.power_of_ten.ensures.small in
    omega (arith, whole, fraction_room c.args.places c.in-Some.fraction _ c.requires c.in-Some.ensures)

pub returns-in-Some : goal.returns-in-Some
returns-in-Some c =
    unsigned_of-computed c.args.places c.leading_digits-count.result c.number.result c.power_of_ten.result c.in-Some.fraction c.args.text.now
    c.leading_digits-count.ensures c.if-count-lt1.false c.if-count-gt12.false c.number.ensures.value c.power_of_ten.ensures.value (whole_rest c.args.places c.leading_digits-count.result c.args.text.now (Some c.in-Some.fraction) c.in-Some.ensures)

pub returns-in-None : goal.returns-in-None
returns-in-None c =
    unsigned_of-no_fraction c.args.places c.leading_digits-count.result c.args.text.now c.leading_digits-count.ensures c.if-count-lt1.false c.if-count-gt12.false (whole_rest c.args.places c.leading_digits-count.result c.args.text.now None c.in-None.ensures)
