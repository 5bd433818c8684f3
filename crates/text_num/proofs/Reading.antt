-- What the steps of reading give, as the words of the grammar.
use Rattle.std.proofs.Common.{◌≡◌, ℕ, ◌+◌, ◌-◌, ◌*◌, ◌^◌, ◌<◌, ◌≤◌, true, false, ◌&&◌, ◌==◌, nat_le, cond, List, [], ◌∷◌, length, take, drop, min, arith, ap, ap₂, sym, ◌∙◌, refl, subst, inl, inr, ◌⊎◌, Option, None, Some}
use Rattle.std.specs.Prelude.{ℤ, pos, neg_ℤ, unsigned_abs, IfSome, IfNone}
use Rattle.std.specs.Char.{is_ascii_digit}
use Rattle.std.specs.List.{list_all}
use Rattle.std.specs.Option.{option_map}
use Rattle.std.specs.Str.Parse.{digits_value}
use Rattle.std.proofs.lemmas.Bool.{cases_lt, eq-eqb, ne_eqb, lt-leb, le-leb}
use Rattle.std.proofs.lemmas.Nat.{mul-le}
use Rattle.std.proofs.Math.Nat.{pow-le-pow_right}
use Rattle.std.proofs.lemmas.List.{take_all, length-drop}
use Rattle.text_num.specs.Decimal.{IsDecimal, fraction_value, is_fraction, fraction_of, digit_count, unsigned_of, decimal_of}
use Rattle.text_num.proofs.Digits.{AllDigits-take, test-from_AllDigits}
use Rattle.text_num.proofs.Grammar.{digits_from_test, fraction_of-below, unsigned_of-below, decimal_sound, decimal_complete, decimal_of-below}

-- ---- the digits after the point

pub fraction_of-empty : (p : ℕ) (t : List ℕ) → length t ≡ 0 → Some 0 ≡ fraction_of p t
unfolding fraction_of
fraction_of-empty p [] none = refl
fraction_of-empty p (c ∷ ds) none = absurd (cc)

pub fraction_of-no_point : (p c : ℕ) (t ds : List ℕ) → t ≡ c ∷ ds → (c ≡ 46 → ⊥) → None ≡ fraction_of p t
unfolding fraction_of
fraction_of-no_point p c t ds is other =
    let head : (c == 46) ≡ false = ne_eqb c 46 other in
    sym (ap (fraction_of p) is ∙ ap (λ b. cond (b && is_fraction p ds) (Some (fraction_value p (Some ds))) None) head)

pub fraction_of-no_form : (p c : ℕ) (t ds : List ℕ) → t ≡ c ∷ ds → c ≡ 46 → is_fraction p ds ≡ false → None ≡ fraction_of p t
unfolding fraction_of
fraction_of-no_form p c t ds is point form =
    let head : (c == 46) ≡ true = eq-eqb c 46 point in
    sym (ap (fraction_of p) is ∙ ap₂ (λ a b. cond (a && b) (Some (fraction_value p (Some ds))) None) head form)

pub fraction_digits : (p kept : ℕ) (ds : List ℕ) → is_fraction p ds ≡ true → list_all is_ascii_digit (take kept ds) ≡ true
fraction_digits p kept ds form = test-from_AllDigits (take kept ds) (AllDigits-take kept ds (digits_from_test p ds form).numeral.only_digits)

kept_front : (p : ℕ) (ds : List ℕ) → take (min (length ds) p) ds ≡ take p ds
kept_front p ds = elim (cases_lt p (length ds)) [
  | inl more ↦ ap (λ k. take k ds) (omega arith)
  | inr all ↦ ap (λ k. take k ds) (omega arith) ∙ take_all (length ds) ds (omega arith) ∙ sym (take_all p ds all)
]

pub fraction_of-computed : (p kept a b c : ℕ) (t ds : List ℕ) → t ≡ c ∷ ds → c ≡ 46 → is_fraction p ds ≡ true → kept ≡ min (length ds) p → a ≡ digits_value 10 (take kept ds) → b ≡ 10 ^ (p - kept) → Some (a * b) ≡ fraction_of p t
unfolding fraction_of
fraction_of-computed p kept a b c t ds is point form front whole power =
    let head : (c == 46) ≡ true = eq-eqb c 46 point in
    let value : a ≡ digits_value 10 (take p ds) = whole ∙ ap (λ k. digits_value 10 (take k ds)) front ∙ ap (digits_value 10) (kept_front p ds) in
    let scale : b ≡ 10 ^ (p - length ds) = power ∙ ap (λ k. 10 ^ k) (omega arith) in
    let P : List ℕ → Type 0 = λ s. Some (a * b) ≡ fraction_of p s in
    subst P (sym is) (ap₂ (λ x y. Some (x * y)) value scale ∙ sym (ap₂ (λ x y. cond (x && y) (Some (fraction_value p (Some ds))) None) head form))

-- ---- a text without a sign

pub unsigned_of-outside : (p : ℕ) (t : List ℕ) → (digit_count t < 1) ⊎ (12 < digit_count t) → None ≡ unsigned_of p t
unfolding unsigned_of
unsigned_of-outside p t (inl few) =
    sym (ap (λ b. cond (b && nat_le (digit_count t) 12) (option_map (λ n. digits_value 10 (take (digit_count t) t) * 10 ^ p + n) (fraction_of p (drop (digit_count t) t))) None) (lt-leb 1 (digit_count t) few))
unsigned_of-outside p t (inr many) =
    sym (ap₂ (λ a b. cond (a && b) (option_map (λ n. digits_value 10 (take (digit_count t) t) * 10 ^ p + n) (fraction_of p (drop (digit_count t) t))) None) (le-leb 1 (digit_count t) (omega arith)) (lt-leb (digit_count t) 12 many))

pub unsigned_of-inside : (p : ℕ) (t : List ℕ) → 1 ≤ digit_count t → digit_count t ≤ 12 → unsigned_of p t ≡ option_map (λ n. digits_value 10 (take (digit_count t) t) * 10 ^ p + n) (fraction_of p (drop (digit_count t) t))
unfolding unsigned_of
unsigned_of-inside p t some few =
    ap₂ (λ a b. cond (a && b) (option_map (λ n. digits_value 10 (take (digit_count t) t) * 10 ^ p + n) (fraction_of p (drop (digit_count t) t))) None) (le-leb 1 (digit_count t) some) (le-leb (digit_count t) 12 few)

pub unsigned_of-computed : (p count a b f : ℕ) (t : List ℕ) → count ≡ digit_count t → 1 ≤ count → count ≤ 12 → a ≡ digits_value 10 (take count t) → b ≡ 10 ^ p → Some f ≡ fraction_of p (drop count t) → Some (a * b + f) ≡ unsigned_of p t
unsigned_of-computed p count a b f t is some few whole power rest =
    let value : a ≡ digits_value 10 (take (digit_count t) t) = whole ∙ ap (λ k. digits_value 10 (take k t)) is in
    let fraction : Some f ≡ fraction_of p (drop (digit_count t) t) = rest ∙ ap (λ k. fraction_of p (drop k t)) is in
    ap₂ (λ x y. Some (x * y + f)) value power
    ∙ ap (option_map (λ n. digits_value 10 (take (digit_count t) t) * 10 ^ p + n)) fraction
    ∙ sym (unsigned_of-inside p t (omega arith) (omega arith))

pub unsigned_of-no_fraction : (p count : ℕ) (t : List ℕ) → count ≡ digit_count t → 1 ≤ count → count ≤ 12 → None ≡ fraction_of p (drop count t) → None ≡ unsigned_of p t
unsigned_of-no_fraction p count t is some few rest =
    let fraction : None ≡ fraction_of p (drop (digit_count t) t) = rest ∙ ap (λ k. fraction_of p (drop k t)) is in
    ap (option_map (λ n. digits_value 10 (take (digit_count t) t) * 10 ^ p + n)) fraction
    ∙ sym (unsigned_of-inside p t (omega arith) (omega arith))

-- the numbers on the way stay small
pub whole_room : (n k b : ℕ) → n < 10 ^ k → k ≤ 12 → b ≤ 1000 → n * b ≤ 10 ^ 15
whole_room n k b small few unit =
    let most : 10 ^ k ≤ 10 ^ 12 = pow-le-pow_right {n = 10} (omega arith) few in
    let below : n ≤ 10 ^ 12 = omega arith in
    let product : n * b ≤ 10 ^ 12 * 1000 = mul-le n b (10 ^ 12) 1000 below unit in
    omega arith

pub fraction_room : (p f : ℕ) (t : List ℕ) → p ≤ 3 → Some f ≡ fraction_of p t → f ≤ 1000
fraction_room p f t few is =
    let below : f < 10 ^ p = fraction_of-below p t f (sym is) in
    let most : 10 ^ p ≤ 10 ^ 3 = pow-le-pow_right {n = 10} (omega arith) few in
    omega arith

pub unsigned_room : (p n : ℕ) (t : List ℕ) → p ≤ 3 → unsigned_of p t ≡ Some n → n < 2 ^ 63
unsigned_room p n t few is =
    let below : n < 10 ^ (12 + p) = unsigned_of-below p t n is in
    let sum : 12 + p ≤ 15 = omega arith in
    let most : 10 ^ (12 + p) ≤ 10 ^ 15 = pow-le-pow_right {n = 10} (omega arith) sum in
    omega arith

-- ---- the whole text

pub decimal_of-empty : (p : ℕ) (t : List ℕ) → length t ≡ 0 → None ≡ decimal_of p t
unfolding decimal_of
decimal_of-empty p [] none = refl
decimal_of-empty p (c ∷ ds) none = absurd (cc)

pub decimal_of-minus : (p c : ℕ) (t s : List ℕ) → t ≡ c ∷ s → c ≡ 45 → option_map (λ n. neg_ℤ (pos n)) (unsigned_of p s) ≡ decimal_of p t
unfolding decimal_of
decimal_of-minus p c t s is here =
    sym (ap (decimal_of p) is ∙ ap (λ b. cond b (option_map (λ n. neg_ℤ (pos n)) (unsigned_of p s)) (cond (c == 43) (option_map pos (unsigned_of p s)) (option_map pos (unsigned_of p (c ∷ s))))) (eq-eqb c 45 here))

pub decimal_of-plus : (p c : ℕ) (t s : List ℕ) → t ≡ c ∷ s → (c ≡ 45 → ⊥) → c ≡ 43 → option_map pos (unsigned_of p s) ≡ decimal_of p t
unfolding decimal_of
decimal_of-plus p c t s is other here =
    sym (ap (decimal_of p) is ∙ ap₂ (λ a b. cond a (option_map (λ n. neg_ℤ (pos n)) (unsigned_of p s)) (cond b (option_map pos (unsigned_of p s)) (option_map pos (unsigned_of p (c ∷ s))))) (ne_eqb c 45 other) (eq-eqb c 43 here))

pub decimal_of-unsigned : (p c : ℕ) (t s : List ℕ) → t ≡ c ∷ s → (c ≡ 45 → ⊥) → (c ≡ 43 → ⊥) → option_map pos (unsigned_of p t) ≡ decimal_of p t
unfolding decimal_of
decimal_of-unsigned p c t s is other none =
    ap (λ x. option_map pos (unsigned_of p x)) is
    ∙ sym (ap (decimal_of p) is ∙ ap₂ (λ a b. cond a (option_map (λ n. neg_ℤ (pos n)) (unsigned_of p s)) (cond b (option_map pos (unsigned_of p s)) (option_map pos (unsigned_of p (c ∷ s))))) (ne_eqb c 45 other) (ne_eqb c 43 none))

-- all of a rest is the rest
pub whole_rest : (p count : ℕ) (t : List ℕ) (r : Option ℕ) → r ≡ fraction_of p (take (length t - count) (drop count t)) → r ≡ fraction_of p (drop count t)
whole_rest p count t r is = is ∙ ap (fraction_of p) (take_all (length t - count) (drop count t) (omega (arith, length-drop count t)))

-- what the answer says of the grammar
pub answer-read : (p : ℕ) (t : List ℕ) (r : Option ℤ) → r ≡ decimal_of p t → IfSome r (λ v. IsDecimal p t v)
answer-read p t None is = tt
answer-read p t (Some v) is = decimal_sound p t v (sym is)

pub answer-none : (p : ℕ) (t : List ℕ) (r : Option ℤ) → r ≡ decimal_of p t → IfNone r ((v : ℤ) → ¬ IsDecimal p t v)
answer-none p t None is = λ v form. let other : decimal_of p t ≡ Some v = decimal_complete p t v form in cc
answer-none p t (Some v) is = tt

pub answer-size : (p : ℕ) (t : List ℕ) (r : Option ℤ) → r ≡ decimal_of p t → IfSome r (λ v. unsigned_abs v < 10 ^ (12 + p))
answer-size p t None is = tt
answer-size p t (Some v) is = decimal_of-below p t v (sym is)
