-- The order of the unknowns, as it is written place by place.
use Rattle.std.proofs.Common.{◌≡◌, ℕ, zero, suc, ◌+◌, ◌-◌, ◌<◌, ◌≤◌, cond, Bool, true, false, List, [], ◌∷◌, ◌++◌, length, take, set, refl, sym, ◌∙◌, ap, subst, arith, add-one, add-zero, zero-add, length-append, append_assoc}
use Rattle.std.specs.List.{filter, range_with_len}
use Rattle.std.proofs.lemmas.List.{take_more_set, take_all}
use Rattle.std.proofs.lemmas.List.Elements.{filter-append}
use Rattle.std.proofs.lemmas.List.FromFn.{length-range_with_len}
use Rattle.geo_model.specs.Limit.{SquareOf}
use Rattle.limit_forms.specs.declared.order.OrderPart.TheVariants.{Loaded, Rest}
use Rattle.limit_forms.specs.Grid.{occurs, is_in_part, order_of}
use Rattle.limit_forms.proofs.Orders.{split_length}

range_more : (a n : ℕ) → range_with_len a (suc n) ≡ range_with_len a n ++ (a + n) ∷ []
range_more a zero = ap (λ t. t ∷ []) (sym (add-zero a))
range_more a (suc n) = ap (λ t. a ∷ t) (range_more (a + 1) n ∙ ap (λ t. range_with_len (a + 1) n ++ t ∷ []) (later a n))
  where
    later : (a n : ℕ) → (a + 1) + n ≡ a + suc n
    later a n = omega arith

-- one number more
filter_more : (p : ℕ → Bool) (i : ℕ) → filter p (range_with_len 0 (i + 1)) ≡ filter p (range_with_len 0 i) ++ cond (p i) (i ∷ []) []
filter_more p i =
    ap (λ n. filter p (range_with_len 0 n)) (add-one i)
    ∙ ap (filter p) (range_more 0 i)
    ∙ filter-append p (range_with_len 0 i) ((0 + i) ∷ [])
    ∙ ap (λ j. filter p (range_with_len 0 i) ++ cond (p j) (j ∷ []) []) (zero-add i)

taken_more : (p : ℕ → Bool) (i : ℕ) → p i ≡ true → filter p (range_with_len 0 (i + 1)) ≡ filter p (range_with_len 0 i) ++ i ∷ []
taken_more p i chosen = filter_more p i ∙ ap (λ b. filter p (range_with_len 0 i) ++ cond b (i ∷ []) []) chosen

append_none : (xs : List ℕ) → xs ++ [] ≡ xs
append_none [] = refl
append_none (x ∷ xs) = ap (λ t. x ∷ t) (append_none xs)

left_more : (p : ℕ → Bool) (i : ℕ) → p i ≡ false → filter p (range_with_len 0 (i + 1)) ≡ filter p (range_with_len 0 i)
left_more p i never = filter_more p i ∙ ap (λ b. filter p (range_with_len 0 i) ++ cond b (i ∷ []) []) never ∙ append_none (filter p (range_with_len 0 i))

grows : (p : ℕ → Bool) (i k : ℕ) → length (filter p (range_with_len 0 i)) ≤ length (filter p (range_with_len 0 (i + k)))
grows p i zero = let e : i + 0 ≡ i = add-zero i in rw e (omega arith)
grows p i (suc k) =
    let e : i + suc k ≡ (i + k) + 1 = omega arith in
    let so_far = grows p i k in
    let more = ap length (filter_more p (i + k)) in
    let two = length-append (filter p (range_with_len 0 (i + k))) (cond (p (i + k)) ((i + k) ∷ []) []) in
    subst (λ n. length (filter p (range_with_len 0 i)) ≤ length (filter p (range_with_len 0 n))) (sym e) (omega arith)

-- there is room for a number that is taken
pub room_for_one : (p : ℕ → Bool) (i n from places : ℕ) → i < n → p i ≡ true → from + length (filter p (range_with_len 0 n)) ≤ places → from + length (filter p (range_with_len 0 i)) < places
room_for_one p i n from places inside chosen room =
    let more = ap length (taken_more p i chosen) in
    let one = length-append (filter p (range_with_len 0 i)) (i ∷ []) in
    let rest : (i + 1) + (n - (i + 1)) ≡ n = omega arith in
    let most = subst (λ m. length (filter p (range_with_len 0 (i + 1))) ≤ length (filter p (range_with_len 0 m))) rest (grows p (i + 1) (n - (i + 1))) in
    omega arith

pub record IsFilled (p : ℕ → Bool) (from : ℕ) (old order : List ℕ) (next i : ℕ) : Type 0 where
  pub reached : next ≡ from + length (filter p (range_with_len 0 i))
  pub written : take next order ≡ take from old ++ filter p (range_with_len 0 i)

pub fill_taken : (p : ℕ → Bool) (from : ℕ) (old order : List ℕ) (next i : ℕ) → next < length order → p i ≡ true → IsFilled p from old order next i → IsFilled p from old (set order next i) (next + 1) (i + 1)
fill_taken p from old order next i room chosen filled =
    let more = ap length (taken_more p i chosen) in
    let one = length-append (filter p (range_with_len 0 i)) (i ∷ []) in
    let reached = filled.reached in
    record {
      reached = omega arith;
      written =
          take_more_set order next i room
          ∙ ap (λ t. t ++ i ∷ []) filled.written
          ∙ append_assoc (take from old) (filter p (range_with_len 0 i)) (i ∷ [])
          ∙ ap (λ t. take from old ++ t) (sym (taken_more p i chosen));
    }

pub fill_left : (p : ℕ → Bool) (from : ℕ) (old order : List ℕ) (next i : ℕ) → p i ≡ false → IsFilled p from old order next i → IsFilled p from old order next (i + 1)
fill_left p from old order next i never filled =
    let same = left_more p i never in
    record {
      reached = filled.reached ∙ ap (λ t. from + length t) (sym same);
      written = filled.written ∙ ap (λ t. take from old ++ t) (sym same);
    }

pub first_room : (n : ℕ) (squares : List SquareOf) → length (filter (is_in_part squares Loaded) (range_with_len 0 n)) ≤ n
first_room n squares =
    let both = split_length (occurs squares) (range_with_len 0 n) in
    let all = length-range_with_len 0 n in
    omega arith

pub second_room : (n : ℕ) (squares : List SquareOf) → length (filter (is_in_part squares Loaded) (range_with_len 0 n)) + length (filter (is_in_part squares Rest) (range_with_len 0 n)) ≡ n
second_room n squares = split_length (occurs squares) (range_with_len 0 n) ∙ length-range_with_len 0 n

pub both_filled : (n filled next : ℕ) (old one two : List ℕ) (squares : List SquareOf) → length two ≡ n → filled ≡ 0 + length (filter (is_in_part squares Loaded) (range_with_len 0 n))
    → next ≡ filled + length (filter (is_in_part squares Rest) (range_with_len 0 n)) → take filled one ≡ take 0 old ++ filter (is_in_part squares Loaded) (range_with_len 0 n)
    → take next two ≡ take filled one ++ filter (is_in_part squares Rest) (range_with_len 0 n) → two ≡ order_of n squares
unfolding order_of
both_filled n filled next old one two squares long first second written all =
    let total = second_room n squares in
    sym (take_all next two (omega arith)) ∙ all ∙ ap (λ t. t ++ filter (is_in_part squares Rest) (range_with_len 0 n)) (written ∙ none old (filter (is_in_part squares Loaded) (range_with_len 0 n)))
  where
    none : (old xs : List ℕ) → take 0 old ++ xs ≡ xs
    none [] xs = refl
    none (x ∷ old) xs = refl
