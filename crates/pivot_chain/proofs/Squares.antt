-- Squares of rows, one for each number of entries.
use Rattle.std.proofs.Common.{◌≡◌, ℕ, zero, suc, ◌+◌, ◌<◌, ℤ, pos, ◌*ℤ◌, List, [], ◌∷◌, ◌++◌, Some, length, slice_get, refl, sym, ◌∙◌, ap, ap₂, subst, arith, inl, inr, length-append}
use Rattle.std.specs.Prelude.{slice_set}
use Rattle.std.proofs.lemmas.Bool.{cases_lt}
use Rattle.std.proofs.lemmas.Option.{slice_get_within}
use Rattle.geo_model.specs.Limit.{SquareOf}
use Rattle.geo_model.specs.Row.{RowOf}
use Rattle.geo_model.specs.Values.{row_square}
use Rattle.pivot_chain.specs.Room.{HasEachLength}

pub no_lengths : HasEachLength 0 []
no_lengths = record { places = refl; each = λ k square here. absurd (cc) }

before : (squares : List SquareOf) (last square : SquareOf) (k : ℕ) → k < length squares → slice_get (squares ++ last ∷ []) k ≡ Some square → slice_get squares k ≡ Some square
before [] last square k lt here = absurd (omega arith)
before (x ∷ squares) last square zero lt here = here
before (x ∷ squares) last square (suc k) lt here = before squares last square k (omega arith) here

at_end : (squares : List SquareOf) (last square : SquareOf) → slice_get (squares ++ last ∷ []) (length squares) ≡ Some square → last ≡ square
at_end [] last square here = cc
at_end (x ∷ squares) last square here = at_end squares last square here

pub one_longer : (count : ℕ) (squares : List SquareOf) (last : SquareOf) → HasEachLength count squares → length last.entries ≡ count → HasEachLength (count + 1) (squares ++ last ∷ [])
one_longer count squares last so_far long = record {
  places = let places = so_far.places in omega (arith, length-append squares (last ∷ []));
  each = λ k square here. elim (cases_lt k count) [
    | inl lt ↦ (let places = so_far.places in so_far.each k square (before squares last square k (omega arith) here))
    | inr past ↦ (
        let places = so_far.places in
        let inside = slice_get_within (squares ++ last ∷ []) k square here in
        let here_too : k ≡ length squares = omega (arith, inside, length-append squares (last ∷ [])) in
        let same = at_end squares last square (subst (λ i. slice_get (squares ++ last ∷ []) i ≡ Some square) here_too here) in
        ap (λ (s : SquareOf). length s.entries) (sym same) ∙ (long ∙ (sym places ∙ sym here_too)))
  ];
}

set_here : (squares : List SquareOf) (k : ℕ) (new : SquareOf) → k < length squares → slice_get (slice_set squares k new) k ≡ Some new
set_here [] k new lt = absurd (omega arith)
set_here (x ∷ squares) zero new lt = refl
set_here (x ∷ squares) (suc k) new lt = set_here squares k new (omega arith)

-- the square of a row stands where it was written
pub row_written : (squares : List SquareOf) (at k : ℕ) (beta : ℤ) (entries : List (ℕ × ℤ)) (row : RowOf) → at ≡ k → at < length squares
    → beta ≡ pos 1000 *ℤ row.weight → entries ≡ row.entries
    → slice_get (slice_set squares at (record { beta = beta; entries = entries })) k ≡ Some (row_square row)
row_written squares at k beta entries row same lt weighed copied =
    let written : SquareOf = record { beta = beta; entries = entries } in
    subst (λ i. slice_get (slice_set squares at written) i ≡ Some (row_square row)) same
    (set_here squares at written lt ∙ ap Some (square_is beta entries row weighed copied))
  where
    square_is : (beta : ℤ) (entries : List (ℕ × ℤ)) (row : RowOf) → beta ≡ pos 1000 *ℤ row.weight → entries ≡ row.entries → record { beta = beta; entries = entries } ≡ row_square row
    square_is beta entries row e f = ap₂ (λ (b : ℤ) (es : List (ℕ × ℤ)). let s : SquareOf = record { beta = b; entries = es } in s) e f
