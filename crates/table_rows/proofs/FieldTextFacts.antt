-- What taking the spaces off a field leaves.
use Rattle.std.proofs.Common.{◌≡◌, ◌≢◌, ◌==◌, ◌<◌, ◌≤◌, ◌+◌, ◌-◌, ◌∙◌, ℕ, zero, suc, Bool, true, false, List, [], ◌∷◌, ◌++◌, drop, take, length, get_or, refl, sym, ap, arith, add-one, append_assoc, drop-cons, subst}
use Rattle.std.proofs.Math.Seq.{take-suc}
use Rattle.std.proofs.lemmas.Bool.{eqb-false, eqb-true, ne_eqb}
use Rattle.std.proofs.lemmas.List.{drop_all}
use Rattle.std.specs.Prelude.{replicate}
use Rattle.table_rows.specs.FieldText.{BeginsPlain, EndsPlain, IsTextOf, before_rest, field_text, without_back_spaces, without_front_spaces}

-- a space in front goes
pub front-space : (xs : List ℕ) (i : ℕ) → i < length xs → get_or xs i 0 ≡ 32 → without_front_spaces (drop (i + 1) xs) ≡ without_front_spaces (drop i xs)
unfolding without_front_spaces
front-space xs i h e = rw (drop-cons xs i 0 h, e, add-one) refl

-- another byte in front stays
plain-front : (b : ℕ) (rest : List ℕ) → b ≢ 32 → without_front_spaces (b ∷ rest) ≡ b ∷ rest
unfolding without_front_spaces
plain-front b rest h = rw (ne_eqb b 32 h) refl

pub front-plain : (xs : List ℕ) (i : ℕ) → i < length xs → get_or xs i 0 ≢ 32 → without_front_spaces (drop i xs) ≡ drop i xs
front-plain xs i h n = rw (drop-cons xs i 0 h) (plain-front _ _ n)

pub front-end : (xs : List ℕ) (i : ℕ) → length xs ≤ i → without_front_spaces (drop i xs) ≡ drop i xs
unfolding without_front_spaces
front-end xs i h = rw (drop_all i xs h) refl

-- a space behind goes
behind-space : (xs : List ℕ) → without_back_spaces (xs ++ 32 ∷ []) ≡ without_back_spaces xs
unfolding without_back_spaces
behind-space [] = refl
behind-space (x ∷ xs) = ap (before_rest x) (behind-space xs)

-- another byte behind stays
behind-plain : (xs : List ℕ) (b : ℕ) → b ≢ 32 → without_back_spaces (xs ++ b ∷ []) ≡ xs ++ b ∷ []
unfolding without_back_spaces
behind-plain [] b h = rw (ne_eqb b 32 h) refl
behind-plain (x ∷ xs) b h = ap (before_rest x) (behind-plain xs b h) ∙ kept xs
  where
    kept : (ys : List ℕ) → before_rest x (ys ++ b ∷ []) ≡ x ∷ (ys ++ b ∷ [])
    kept [] = refl
    kept (y ∷ ys) = refl

pub back-space : (xs : List ℕ) (n : ℕ) → 0 < n → n ≤ length xs → get_or xs (n - 1) 0 ≡ 32 → without_back_spaces (take (n - 1) xs) ≡ without_back_spaces (take n xs)
back-space xs zero p h e = absurd (omega arith)
back-space xs (suc m) p h e =
    let same : suc m - 1 ≡ m = omega arith in
    let byte : get_or xs m 0 ≡ 32 = rw same at e in
    rw (same, take-suc xs m 0 (omega arith), byte) (sym (behind-space (take m xs)))

pub back-plain : (xs : List ℕ) (n : ℕ) → 0 < n → n ≤ length xs → get_or xs (n - 1) 0 ≢ 32 → without_back_spaces (take n xs) ≡ take n xs
back-plain xs zero p h e = absurd (omega arith)
back-plain xs (suc m) p h e =
    let same : suc m - 1 ≡ m = omega arith in
    rw (take-suc xs m 0 (omega arith)) (behind-plain (take m xs) _ (rw same at e))

pub back-end : (xs : List ℕ) (n : ℕ) → n ≤ 0 → without_back_spaces (take n xs) ≡ take n xs
unfolding without_back_spaces
back-end xs zero h = refl
back-end xs (suc n) h = absurd (omega arith)

-- a field is the spaces in front and what is left
front-parts : (xs : List ℕ) → (n : ℕ) × (xs ≡ replicate n 32 ++ without_front_spaces xs)
unfolding without_front_spaces
front-parts [] = (0, refl)
front-parts (x ∷ xs) = by (x == 32) refl (front-parts xs)
  where
    by : (b : Bool) → (x == 32) ≡ b → (n : ℕ) × (xs ≡ replicate n 32 ++ without_front_spaces xs)
        → (n : ℕ) × (x ∷ xs ≡ replicate n 32 ++ without_front_spaces (x ∷ xs))
    by true e (n, h) = (suc n, rw e (ap (λ (y : ℕ). y ∷ xs) (eqb-true x 32 e) ∙ ap (λ (ys : List ℕ). 32 ∷ ys) h))
    by false e h = (0, rw e refl)

front-begins : (xs : List ℕ) → BeginsPlain (without_front_spaces xs)
unfolding without_front_spaces
front-begins [] rest h = cc h
front-begins (x ∷ xs) rest h = by (x == 32) refl (front-begins xs rest)
  where
    by : (b : Bool) → (x == 32) ≡ b → (without_front_spaces xs ≢ 32 ∷ rest) → ⊥
    by true e plain = plain (rw e at h)
    by false e plain =
        let same : x ∷ xs ≡ 32 ∷ rest = rw e at h in
        eqb-false x 32 e (cc same)

-- and the spaces behind
back-parts : (xs : List ℕ) → (n : ℕ) × (xs ≡ without_back_spaces xs ++ replicate n 32)
unfolding without_back_spaces
back-parts [] = (0, refl)
back-parts (x ∷ xs) = by (without_back_spaces xs) (x == 32) refl (back-parts xs)
  where
    by : (kept : List ℕ) (b : Bool) → (x == 32) ≡ b → (n : ℕ) × (xs ≡ kept ++ replicate n 32)
        → (n : ℕ) × (x ∷ xs ≡ before_rest x kept ++ replicate n 32)
    by [] true e (n, h) = (suc n, rw e (ap (λ (y : ℕ). y ∷ xs) (eqb-true x 32 e) ∙ ap (λ (ys : List ℕ). 32 ∷ ys) h))
    by [] false e (n, h) = (n, rw e (ap (λ (ys : List ℕ). x ∷ ys) h))
    by (y ∷ ys) b e (n, h) = (n, ap (λ (zs : List ℕ). x ∷ zs) h)

back-ends : (xs : List ℕ) → EndsPlain (without_back_spaces xs)
unfolding without_back_spaces
back-ends [] rest h = no_end rest h
  where
    no_end : (rest : List ℕ) → [] ≡ rest ++ 32 ∷ [] → ⊥
    no_end [] h = cc h
    no_end (r ∷ rest) h = cc h
back-ends (x ∷ xs) rest h = by (without_back_spaces xs) (x == 32) refl (back-ends xs) rest h
  where
    by : (kept : List ℕ) (b : Bool) → (x == 32) ≡ b → EndsPlain kept → EndsPlain (before_rest x kept)
    by [] true e plain rest h = plain rest (rw e at h)
    by [] false e plain [] h =
        let same : x ∷ [] ≡ 32 ∷ [] = rw e at h in
        eqb-false x 32 e (cc same)
    by [] false e plain (r ∷ rest) h =
        let same : x ∷ [] ≡ r ∷ (rest ++ 32 ∷ []) = rw e at h in
        plain rest (cc same)
    by (y ∷ ys) b e plain [] h = cc h
    by (y ∷ ys) b e plain (r ∷ rest) h = plain rest (cc h)

-- a front that begins plain does so without what is behind
begins-before : (text behind : List ℕ) → BeginsPlain (text ++ behind) → BeginsPlain text
begins-before text behind h rest e = h (rest ++ behind) (ap (λ (t : List ℕ). t ++ behind) e)

-- the text, by its two steps
pub text-parts : (field front text : List ℕ) → front ≡ without_front_spaces field → text ≡ without_back_spaces front → text ≡ field_text field
unfolding field_text
text-parts field front text f t = t ∙ ap without_back_spaces f

-- what the text of a field is
pub text-meaning : (field text : List ℕ) → text ≡ field_text field → IsTextOf field text
unfolding field_text
text-meaning field text e = rw e (meant (front-parts field) (back-parts (without_front_spaces field)))
  where
    left : List ℕ
    left = without_front_spaces field

    inner : List ℕ
    inner = without_back_spaces left

    meant : (n : ℕ) × (field ≡ replicate n 32 ++ left) → (m : ℕ) × (left ≡ inner ++ replicate m 32) → IsTextOf field inner
    meant (n, f) (m, b) = record {
      before = n;
      behind = m;
      whole = f ∙ ap (λ (t : List ℕ). replicate n 32 ++ t) b ∙ sym (append_assoc (replicate n 32) inner (replicate m 32));
      begins = begins-before inner (replicate m 32) (subst BeginsPlain b (front-begins field));
      ends = back-ends left;
    }
