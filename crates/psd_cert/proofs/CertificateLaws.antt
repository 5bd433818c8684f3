-- Certificates remainder by remainder.
use Rattle.std.proofs.Common.{◌≡◌, ℕ, zero, suc, ◌+◌, ◌-◌, ◌<◌, ◌≤◌, List, [], ◌∷◌, length, get_or, take, drop, refl, sym, ◌∙◌, ap, subst, arith, ℤ}
use Rattle.std.specs.Prelude.{All}
use Rattle.lent_parts.specs.Triangle.{IsTri}
use Rattle.lent_parts.proofs.Triangles.{length-IsTri}
use Rattle.psd_cert.specs.Sizes.{Fits}
use Rattle.psd_cert.specs.Certificate.{IsCertificate}

-- a list is its first element and the rest, as a slice's pattern gives them
pub slice_parts : {X : Type 0} (xs : List X) (x : X) → 1 ≤ length xs → x ≡ get_or xs 0 x → xs ≡ x ∷ take (length xs - 1) (drop 1 xs)
slice_parts [] x h e = absurd (omega arith)
slice_parts (y ∷ ys) x h e = ap (λ t. t ∷ ys) (sym e) ∙ ap (λ t. x ∷ t) (sym (whole ys (suc (length ys) - 1) (omega arith)))
  where
    whole : {X : Type 0} (ys : List X) (n : ℕ) → n ≡ length ys → take n ys ≡ ys
    whole [] zero e = refl
    whole [] (suc n) e = absurd (omega arith)
    whole (y ∷ ys) zero e = absurd (omega arith)
    whole (y ∷ ys) (suc n) e = ap (λ t. y ∷ t) (whole ys n (omega arith))

-- what is known of the first remainder and of the rest
pub record FirstOf (m : List (List ℤ)) (r : List (List ℤ)) (rest : List (List (List ℤ))) : Type 0 where
  pub size : length m ≡ suc (length r)
  pub rest_size : length r ≡ length rest
  pub sizes : IsCertificate (length rest) rest
  pub fits : Fits r
  pub rest_fit : All Fits rest

first_of_cons : (m r : List (List ℤ)) (rest : List (List (List ℤ)))
    → length m ≡ suc (length rest) → IsCertificate (suc (length rest)) (r ∷ rest) → All Fits (r ∷ rest) → FirstOf m r rest
first_of_cons m r rest t s f =
    let e : length r ≡ length rest = length-IsTri (length rest) r s.0 in
    record {
      size = t ∙ ap suc (sym e);
      rest_size = e;
      sizes = s.1;
      fits = f 0 [] (omega arith);
      rest_fit = λ k d lt. f (suc k) d (omega arith);
    }

pub first_of : (m r : List (List ℤ)) (rs rest : List (List (List ℤ))) → rs ≡ r ∷ rest
    → length m ≡ length rs → IsCertificate (length rs) rs → All Fits rs → FirstOf m r rest
first_of m r rs rest e t s f =
    first_of_cons m r rest (subst (λ xs. length m ≡ length xs) e t) (subst (λ xs. IsCertificate (length xs) xs) e s) (subst (λ xs. All Fits xs) e f)

remainder_shape : (n : ℕ) (rs : List (List (List ℤ))) (k : ℕ) (d : List (List ℤ)) → IsCertificate n rs → k < n → IsTri (n - (k + 1)) (get_or rs k d)
remainder_shape zero rs k d s lt = absurd (omega arith)
remainder_shape (suc n) [] k d s lt = absurd s
remainder_shape (suc n) (r ∷ rs) zero d s lt = subst (λ j. IsTri j r) (less n) s.0
  where
    less : (n : ℕ) → n ≡ suc n - (0 + 1)
    less n = omega arith
remainder_shape (suc n) (r ∷ rs) (suc k) d s lt = subst (λ j. IsTri j (get_or rs k d)) (less n k) (remainder_shape n rs k d s.1 (omega arith))
  where
    less : (n k : ℕ) → n - (k + 1) ≡ suc n - (suc k + 1)
    less n k = omega arith

-- the remainder of step t
pub remainder_of_step : (rs held : List (List (List ℤ))) (t : ℕ) (x : List (List ℤ)) → IsCertificate (length rs) rs → rs ≡ held → 1 ≤ t → t ≤ length held
    → x ≡ get_or rs (t - 1) x → IsTri (length held - t) x
remainder_of_step rs held t x s e low high f =
    let g : length rs ≡ length held = ap length e in
    let h : IsTri (length rs - ((t - 1) + 1)) (get_or rs (t - 1) x) = remainder_shape (length rs) rs (t - 1) x s (omega arith) in
    let k : length rs - ((t - 1) + 1) ≡ length held - t = omega arith in
    subst (λ m. IsTri (length held - t) m) (sym f) (subst (λ j. IsTri j (get_or rs (t - 1) x)) k h)

-- the rest is shorter
pub rest_is_shorter : {X : Type 0} (xs : List X) → 1 ≤ length xs → length (take (length xs - 1) (drop 1 xs)) < length xs
rest_is_shorter [] h = absurd (omega arith)
rest_is_shorter (x ∷ xs) h = at_most xs (suc (length xs) - 1)
  where
    at_most : {X : Type 0} (xs : List X) (n : ℕ) → length (take n xs) < suc (length xs)
    at_most [] zero = omega arith
    at_most [] (suc n) = omega arith
    at_most (x ∷ xs) zero = omega arith
    at_most (x ∷ xs) (suc n) = let h = at_most xs n in omega arith
