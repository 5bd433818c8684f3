-- Texts that are put on the end of a text, part by part.
use Rattle.std.proofs.Common.{◌≡◌, ℕ, zero, suc, ◌+◌, ◌-◌, ◌/◌, ◌%◌, ◌^◌, ◌<◌, ◌≤◌, List, [], ◌∷◌, ◌++◌, length, take, arith, ap, ap₂, sym, ◌∙◌, refl, append_assoc}
use Rattle.std.specs.Prelude.{Result, Ok, Err, OnOk, OnErr, ℤ, pos, negsuc, unsigned_abs, ◌<ℤ◌, ◌≤ℤ◌}
use Rattle.std.proofs.lemmas.Int.{ints}
use Rattle.std.proofs.lemmas.List.{length-append, take-take}
use Rattle.std.proofs.Math.Seq.{take-append_seam}
use Rattle.std.specs.Fmt.{decimal}
use Rattle.std.proofs.lemmas.List.{append-nil}
use Rattle.text_num.specs.DecimalText.{last_digits, minus_text, point_text, decimal_text}

-- a fact about the values follows under the same answer
pub on_ok : {T E : Type 0} (r : Result T E) (P Q : Type 0) → OnOk r P → (P → Q) → OnOk r Q
on_ok (Ok x) P Q holds next = next holds
on_ok (Err e) P Q holds next = tt

pub on_err : {T E : Type 0} (r : Result T E) (P Q : Type 0) → OnErr r P → (P → Q) → OnErr r Q
on_err (Ok x) P Q holds next = tt
on_err (Err e) P Q holds next = next holds

pub no_digits : (xs : List ℕ) (k n : ℕ) → k ≡ 0 → xs ≡ xs ++ last_digits k n
unfolding last_digits
no_digits xs k n none = sym (ap (λ t. xs ++ last_digits t n) none ∙ append-nil xs)

pub last_digits-more : (k n : ℕ) → (k ≡ 0 → ⊥) → last_digits k n ≡ (48 + n / 10 ^ (k - 1) % 10) ∷ last_digits (k - 1) n
unfolding last_digits
last_digits-more zero n some = absurd (some refl)
last_digits-more (suc k) n some =
    let less : suc k - 1 ≡ k = omega arith in
    sym (ap (λ t. (48 + n / 10 ^ t % 10) ∷ last_digits t n) less)

pub digits_joined : (old mid new : List ℕ) (u k n : ℕ) → (k ≡ 0 → ⊥) → u ≡ 10 ^ (k - 1) → mid ≡ old ++ ((48 + n / u % 10) ∷ []) → new ≡ mid ++ last_digits (k - 1) n → new ≡ old ++ last_digits k n
digits_joined old mid new u k n some unit first rest =
    rest
    ∙ ap (λ t. t ++ last_digits (k - 1) n) first
    ∙ append_assoc old ((48 + n / u % 10) ∷ []) (last_digits (k - 1) n)
    ∙ ap (λ t. old ++ ((48 + n / t % 10) ∷ last_digits (k - 1) n)) unit
    ∙ ap (λ t. old ++ t) (sym (last_digits-more k n some))

-- the point, where there are places
abbrev pub dot_text : ℕ → List ℕ
dot_text zero = []
dot_text (suc k) = 46 ∷ []

pub dot_text-none : (k : ℕ) → k ≤ 0 → dot_text k ≡ []
dot_text-none zero none = refl
dot_text-none (suc k) none = absurd (omega arith)

pub dot_text-some : (k : ℕ) → 0 < k → dot_text k ≡ 46 ∷ []
dot_text-some zero some = absurd (omega arith)
dot_text-some (suc k) some = refl

point_text-parts : (k n : ℕ) → point_text k n ≡ dot_text k ++ last_digits k n
unfolding last_digits
point_text-parts zero n = refl
point_text-parts (suc k) n = refl

pub minus_text-negative : (z : ℤ) → z <ℤ pos 0 → minus_text z ≡ 45 ∷ []
minus_text-negative (pos n) below = absurd (omega (arith, ints))
minus_text-negative (negsuc n) below = refl

pub minus_text-not_negative : (z : ℤ) → pos 0 ≤ℤ z → minus_text z ≡ []
minus_text-not_negative (pos n) low = refl
minus_text-not_negative (negsuc n) low = absurd (omega (arith, ints))

-- the four parts of a decimal, one after another
pub parts_joined : (old signed whole pointed new : List ℕ) (z : ℤ) (k : ℕ) → signed ≡ old ++ minus_text z → whole ≡ signed ++ decimal (unsigned_abs z / 10 ^ k) → pointed ≡ whole ++ dot_text k → new ≡ pointed ++ last_digits k (unsigned_abs z) → new ≡ old ++ decimal_text z k
unfolding decimal_text
parts_joined old signed whole pointed new z k first second third fourth =
    let n : ℕ = unsigned_abs z in
    let digits : List ℕ = decimal (n / 10 ^ k) in
    fourth
    ∙ ap (λ t. t ++ last_digits k n) third
    ∙ append_assoc whole (dot_text k) (last_digits k n)
    ∙ ap₂ (λ s t. s ++ t) (second ∙ ap (λ t. t ++ digits) first) (sym (point_text-parts k n))
    ∙ append_assoc (old ++ minus_text z) digits (point_text k n)
    ∙ append_assoc old (minus_text z) (digits ++ point_text k n)

-- what stood before the parts stands yet
pub parts_kept : (old signed whole pointed new a b d : List ℕ) → signed ≡ old ++ a → whole ≡ signed ++ b → pointed ≡ whole ++ d → take (length pointed) new ≡ pointed → take (length old) new ≡ old
parts_kept old signed whole pointed new a b d first second third kept =
    let all : pointed ≡ old ++ (a ++ (b ++ d)) =
    third ∙ ap (λ t. t ++ d) (second ∙ ap (λ t. t ++ b) first)
    ∙ append_assoc (old ++ a) b d ∙ append_assoc old a (b ++ d) in
    let long : length old ≤ length pointed = omega (arith, ap length all, length-append old (a ++ (b ++ d))) in
    sym (take-take (length old) (length pointed) new long)
    ∙ ap (take (length old)) (kept ∙ all)
    ∙ take-append_seam old (a ++ (b ++ d))
