use Rattle.std.proofs.Common.{◌≡◌, ℕ, ◌+◌, ◌*◌, ◌-◌, ◌^◌, ◌<◌, ◌≤◌, List, length, take, get_or, arith, true, refl, ap, ◌∙◌}
use Rattle.std.specs.Char.{is_ascii_digit, digit_value}
use Rattle.std.specs.Int.{IsInRange}
use Rattle.std.specs.List.{list_all}
use Rattle.std.specs.Str.Parse.{digits_value}
use Rattle.std.proofs.lemmas.Int.Digits.{digits_value_more}
use Rattle.std.proofs.lemmas.Str.{digit_value_digit}
use Rattle.std.proofs.lemmas.Str.Parse.{digit_at}
use Rattle.std.proofs.Math.Nat.{pow-le-pow_right, pow-suc}
use Rattle.text_num.proofs.Digits.{AllDigits-from_test}
use Rattle.text_num.proofs.numeral.number.Goals as goal

record Steps (xs : List ℕ) (i sum digit : ℕ) : Type 0 where
  room : sum < 10 ^ 18
  digit_small : digit < 10
  value : sum * 10 + digit ≡ digits_value 10 (take (i + 1) xs)
  small : sum * 10 + digit < 10 ^ (i + 1)

step : (xs : List ℕ) (i sum digit : ℕ) → list_all is_ascii_digit xs ≡ true → length xs ≤ 19 → i < length xs → sum ≡ digits_value 10 (take i xs) → sum < 10 ^ i → digit ≡ get_or xs i 0 - 48 → Steps xs i sum digit
step xs i sum digit form few here value small is =
    let range : IsInRange 48 57 (get_or xs i 0) = digit_at xs i (AllDigits-from_test xs form) here in
    let worth : digit_value (get_or xs i 0) + 48 ≡ get_or xs i 0 = digit_value_digit (get_or xs i 0) range in
    let more = digits_value_more 10 xs i here in
    let place : i ≤ 18 = omega arith in
    let room : 10 ^ i ≤ 10 ^ 18 = pow-le-pow_right {n = 10} (omega arith) place in
    let next : 10 ^ (i + 1) ≡ 10 ^ i * 10 = ap (λ t. 10 ^ t) (omega arith) ∙ pow-suc 10 i in
    record { room = omega arith; digit_small = omega (arith, range.1); value = omega arith; small = omega (arith, range.1) }

pub overflow_mul-sum : goal.overflow_mul-sum
overflow_mul-sum c =
    let steps = step c.args.digits.now c.loop-c.c-index c.loop-c.sum (get_or c.args.digits.now c.loop-c.c-index 0 - 48) c.requires.form c.requires.few c.loop-c-test.true c.loop-c.invariant.value c.loop-c.invariant.small refl in
    omega (arith, steps.room)

pub overflow_add-sum : goal.overflow_add-sum
overflow_add-sum c =
    let steps = step c.args.digits.now c.loop-c.c-index c.loop-c.sum c.from.result c.requires.form c.requires.few c.loop-c-test.true c.loop-c.invariant.value c.loop-c.invariant.small c.from.ensures in
    omega (arith, steps.room, steps.digit_small)

pub loop-c-preserved : goal.loop-c-preserved
loop-c-preserved c =
    let steps = step c.args.digits.now c.loop-c.c-index c.loop-c.sum c.from.result c.requires.form c.requires.few c.loop-c-test.true c.loop-c.invariant.value c.loop-c.invariant.small c.from.ensures in
    record { value = steps.value; small = steps.small }
