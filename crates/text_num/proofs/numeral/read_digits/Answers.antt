use Rattle.std.proofs.Common.{◌≡◌, ◌∙◌, sym, true, length, arith}
use Rattle.text_num.specs.Digits.{is_digits}
use Rattle.text_num.proofs.Digits.{test-from_AllDigits}
use Rattle.text_num.proofs.Numerals.{below-power, digits_of-none, digits_of-some, numeral-from_test, test-from_numeral}
use Rattle.text_num.proofs.numeral.read_digits.Goals as goal

pub returns-then-not-is_digits-clause-value : goal.returns-then-not-is_digits-clause-value
returns-then-not-is_digits-clause-value c = digits_of-none c.args.most c.args.text.now (sym c.is_digits.ensures ∙ c.if-not-is_digits.true)

pub returns-then-not-is_digits-clause-none : goal.returns-then-not-is_digits-clause-none
returns-then-not-is_digits-clause-none c = λ is.
    let yes : is_digits c.args.most c.args.text.now ≡ true = test-from_numeral c.args.most c.args.text.now is in
    cc

pub number-requires-clause-form : goal.number-requires-clause-form
number-requires-clause-form c =
    let is = numeral-from_test c.args.most c.args.text.now (sym c.is_digits.ensures ∙ c.if-not-is_digits.false) in
    test-from_AllDigits c.args.text.now is.only_digits

pub number-requires-clause-few : goal.number-requires-clause-few
number-requires-clause-few c =
    let is = numeral-from_test c.args.most c.args.text.now (sym c.is_digits.ensures ∙ c.if-not-is_digits.false) in
    omega (arith, is.few, c.requires)

pub returns-clause-value : goal.returns-clause-value
returns-clause-value c =
    digits_of-some c.args.most c.number.result c.args.text.now (sym c.is_digits.ensures ∙ c.if-not-is_digits.false) c.number.ensures.value

pub returns-clause-read : goal.returns-clause-read
returns-clause-read c =
    (numeral-from_test c.args.most c.args.text.now (sym c.is_digits.ensures ∙ c.if-not-is_digits.false), c.number.ensures.value)

pub returns-clause-small : goal.returns-clause-small
returns-clause-small c =
    let is = numeral-from_test c.args.most c.args.text.now (sym c.is_digits.ensures ∙ c.if-not-is_digits.false) in
    below-power c.number.result (length c.args.text.now) c.args.most c.number.ensures.size is.few
