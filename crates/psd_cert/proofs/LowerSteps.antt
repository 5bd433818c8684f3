-- What the first step of the lower chain leaves.
use Rattle.std.proofs.Common.{◌≡◌, ℕ, suc, ◌+◌, ◌-◌, ◌^◌, ◌<◌, ◌≤◌, false, List, [], ◌∷◌, length, sym, ap, subst, arith, ℤ, pos, ◌≤ℤ◌, unsigned_abs}
use Rattle.std.proofs.lemmas.Int.{ints}
use Rattle.whole_algebra.specs.Matrices.{at, diagonal, lower_over, IsTriangle}
use Rattle.whole_algebra.specs.Chains.{step_of, stop, is_stop, matrix_after}
use Rattle.whole_algebra.specs.Grid.{row_at}
use Rattle.whole_algebra.proofs.Places.{at-diagonal}
use Rattle.whole_algebra.proofs.DiagonalLaws.{lower_diagonals}
use Rattle.lent_parts.specs.Triangle.{IsTri, tri_row}
use Rattle.chain_step.specs.Step.{IsPivotRow}
use Rattle.chain_step.specs.declared.side.Side.TheVariants.{Lower}
use Rattle.chain_step.proofs.Matrices.{triangle_after}
use Rattle.psd_cert.specs.Sizes.{Fits}
use Rattle.psd_cert.specs.Lower.{StopsHere, Leaves}
use Rattle.psd_cert.proofs.Entries.{entry_fits}

-- the matrix that a step leaves has a row less
pub left_triangle : (m : List (List ℤ)) → IsTri (length m) m → 0 < length m → is_stop (step_of (tri_row m 0)) ≡ false → IsTriangle (length m - 1) (matrix_after lower_over 1 m)
left_triangle m t some go = triangle_after Lower 1 (length m) m t (omega arith) (λ s lt. first s (omega arith))
  where
    first : (s : ℕ) → s ≡ 0 → is_stop (step_of (row_at (matrix_after lower_over s m) 0)) ≡ false
    first s e = subst (λ j. is_stop (step_of (row_at (matrix_after lower_over j m) 0)) ≡ false) (sym e) go

pub leaves_next : (m left : List (List ℤ)) → 0 < length m → is_stop (step_of (tri_row m 0)) ≡ false → left ≡ matrix_after lower_over 1 m → Leaves m left
leaves_next [] left some go e = absurd (omega arith)
leaves_next (row ∷ rest) left some go e = (go, e)

pub stops_first : (m : List (List ℤ)) (v : ℤ) → 0 < length m → step_of (tri_row m 0) ≡ stop v → StopsHere m
stops_first [] v some e = absurd (omega arith)
stops_first (row ∷ rest) v some e = ap is_stop e

pub left_diagonal : (m left : List (List ℤ)) → Fits m → left ≡ matrix_after lower_over 1 m → (i : ℕ) → at (diagonal left) i ≤ℤ pos (2 ^ 61)
left_diagonal m left fits e i =
    subst (λ l. at (diagonal l) i ≤ℤ pos (2 ^ 61)) (sym e)
    (lower_diagonals 1 m (pos (2 ^ 61)) (λ j. within (at (diagonal m) j) (at (row_at m j) 0) (at-diagonal m j) (entry_fits m j 0 fits)) i)
  where
    within : (d c : ℤ) → d ≡ c → unsigned_abs c ≤ 2 ^ 61 → d ≤ℤ pos (2 ^ 61)
    within d c e h = omega (arith, ints)

pub small_head : (m : List (List ℤ)) (row : List ℤ) → Fits m → row ≡ tri_row m 0 → at row 0 ≤ℤ pos (2 ^ 61)
small_head m row fits e = subst (λ r. at r 0 ≤ℤ pos (2 ^ 61)) (sym e) (within (at (row_at m 0) 0) (entry_fits m 0 0 fits))
  where
    within : (c : ℤ) → unsigned_abs c ≤ 2 ^ 61 → c ≤ℤ pos (2 ^ 61)
    within c h = omega (arith, ints)
