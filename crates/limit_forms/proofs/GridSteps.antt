-- A grid as it is made and read.
use Rattle.std.proofs.Common.{◌≡◌, ◌==◌, ℕ, suc, ◌+◌, ◌<◌, List, [], ◌∷◌, ◌++◌, length, take, drop, set, map, get_or, refl, sym, ◌∙◌, ap, ap₂, subst, arith, ℤ}
use Rattle.std.specs.Prelude.{All, count_by}
use Rattle.std.specs.List.{range_with_len}
use Rattle.std.proofs.lemmas.List.{take_more_set}
use Rattle.std.proofs.lemmas.List.FromFn.{length-map-range_with_len, map-range_with_len_more}
use Rattle.geo_model.specs.Limit.{SquareOf}
use Rattle.geo_model.specs.Network.{NetworkOf, IsNetwork}
use Rattle.normal_matrix.specs.Entries.{HasEachOnce}
use Rattle.limit_forms.specs.Grid.{order_of, exponent_at, GridOf, grid_of, IsGrid}
use Rattle.limit_forms.proofs.Orders.{order_of-each_once, length-order_of, order_of-below, count-cons, tick-other}

front : {X : Type 0} (xs ys : List X) → take (length xs) (xs ++ ys) ≡ xs
front [] ys = refl
front (x ∷ xs) ys = ap (λ t. x ∷ t) (front xs ys)

-- a list that was written over one of its length
pub written_whole : {X : Type 0} (xs ys : List X) (n : ℕ) → length xs ≡ n → take n (xs ++ drop (length xs) ys) ≡ xs
written_whole xs ys n e = ap (λ k. take k (xs ++ drop (length xs) ys)) (sym e) ∙ front xs (drop (length xs) ys)

pub made_grid : (network : NetworkOf) (alpha : ℤ) (squares : List SquareOf) (order : List ℕ) (exponents : List ℤ) (m n : ℕ) → m ≡ length network.unknowns → n ≡ length network.unknowns
    → order ≡ order_of m squares → exponents ≡ map (exponent_at network.candidates alpha) (range_with_len 0 n)
    → let grid : GridOf = record { order = order; exponents = exponents } in grid ≡ grid_of network alpha squares
unfolding grid_of
made_grid network alpha squares order exponents m n e f same taken =
    ap₂ (λ (o : List ℕ) (x : List ℤ). let grid : GridOf = record { order = o; exponents = x } in grid)
    (same ∙ ap (λ k. order_of k squares) e) (taken ∙ ap (λ k. map (exponent_at network.candidates alpha) (range_with_len 0 k)) f)

pub IsGrid-grid_of : (network : NetworkOf) (alpha : ℤ) (squares : List SquareOf) → IsNetwork network → IsGrid (grid_of network alpha squares)
unfolding grid_of
IsGrid-grid_of network alpha squares bounds =
    let n = length network.unknowns in
    let long = length-order_of n squares in
    let few = bounds.unknowns in record {
      few = omega arith;
      exponents = length-map-range_with_len (exponent_at network.candidates alpha) 0 n ∙ sym long;
      below = subst (λ m. All (λ u. u < m) (order_of n squares)) (sym long) (order_of-below n squares);
      once = subst (λ m. HasEachOnce m (order_of n squares)) (sym long) (order_of-each_once n squares);
    }

-- a number that stands nowhere in a list
none_counted : (i : ℕ) (us : List ℕ) → ((k : ℕ) → k < length us → get_or us k 0 ≡ i → ⊥) → count_by (λ u. i == u) us ≡ 0
none_counted i [] none = refl
none_counted i (u ∷ us) none =
    let one = count-cons (λ v. i == v) u us in
    let apart = tick-other i u (λ e. none 0 (omega arith) (sym e)) in
    let later = none_counted i us (λ k lt e. none (suc k) (omega arith) e) in
    omega arith

pub found_somewhere : (i : ℕ) (grid : GridOf) (us : List ℕ) → IsGrid grid → us ≡ grid.order → i < length grid.order → ((k : ℕ) → k < length us → get_or us k 0 ≡ i → ⊥) → ⊥
found_somewhere i grid us is same inside none =
    let once = is.once i inside in
    let nowhere = none_counted i us none in
    let e = ap (λ (l : List ℕ). count_by (λ u. i == u) l) same in
    omega arith

-- one more exponent
pub exponent_written : (network : NetworkOf) (alpha result : ℤ) (exponents : List ℤ) (i : ℕ) → i < length exponents → take i exponents ≡ map (exponent_at network.candidates alpha) (range_with_len 0 i)
    → result ≡ exponent_at network.candidates alpha i → take (i + 1) (set exponents i result) ≡ map (exponent_at network.candidates alpha) (range_with_len 0 (i + 1))
exponent_written network alpha result exponents i inside so_far is =
    take_more_set exponents i result inside
    ∙ ap₂ (λ s t. s ++ t ∷ []) so_far is
    ∙ sym (map-range_with_len_more (exponent_at network.candidates alpha) 0 i i (omega arith))
