-- The definitions at matrices that were worked by hand.
use Rattle.std.proofs.Common.{◌≡◌, ℕ, zero, suc, inl, inr, arith, List, [], ◌∷◌, refl, ℤ, pos, negsuc, ◌*ℤ◌, ◌*◌}
use Rattle.whole_algebra.specs.Chains.{pivot, stop, lower_chain, upper_chain, met, refuted, open_at, chains_outcome}
use Rattle.whole_algebra.specs.Matrices.{schur, minus_matrix}
use Rattle.whole_algebra.specs.Certificates.{IsDominant, CertificateHolds}
use Rattle.std.proofs.lemmas.Int.{ints}

-- a levelling line of four heights, the limited last one first, each level with the weight g: the last pivot is 0,
-- which neither chain can know
line : ℤ → List (List ℤ)
line g =
    ((pos 3 *ℤ g) ∷ pos 0 ∷ pos 0 ∷ (negsuc 3 *ℤ g) ∷ [])
    ∷ ((pos 8 *ℤ g) ∷ (negsuc 3 *ℤ g) ∷ pos 0 ∷ [])
    ∷ ((pos 8 *ℤ g) ∷ (negsuc 3 *ℤ g) ∷ [])
    ∷ ((pos 8 *ℤ g) ∷ [])
    ∷ []

weight : ℕ
weight = 1024 * 100_000_000_000_000

line_below : lower_chain (line (pos weight)) ≡ pivot (pos (3 * weight)) ∷ pivot (pos (8 * weight)) ∷ pivot (pos (6 * weight)) ∷ stop (negsuc 0) ∷ []
unfolding line weight
line_below = refl

line_above : upper_chain (line (pos weight)) ≡ pivot (pos (3 * weight)) ∷ pivot (pos (8 * weight)) ∷ pivot (pos (6 * weight)) ∷ pivot (pos 1) ∷ []
unfolding line weight
line_above = refl

line_open : chains_outcome (line (pos weight)) (line (pos weight)) ≡ open_at 4 (negsuc 0) (pos 1)
unfolding line weight
line_open = refl

-- an equality is met by a row of zeros
nothing_left : chains_outcome ((pos 0 ∷ []) ∷ []) ((pos 0 ∷ []) ∷ []) ≡ met
nothing_left = refl

-- 3 - 9 / 2 is negative, rounded up too
below_zero : chains_outcome ((pos 2 ∷ pos 3 ∷ []) ∷ (pos 3 ∷ []) ∷ []) ((pos 2 ∷ pos 3 ∷ []) ∷ (pos 3 ∷ []) ∷ []) ≡ refuted
below_zero = refl

above_zero : chains_outcome ((pos 2 ∷ negsuc 0 ∷ []) ∷ (pos 2 ∷ []) ∷ []) ((pos 2 ∷ negsuc 0 ∷ []) ∷ (pos 2 ∷ []) ∷ []) ≡ met
above_zero = refl

-- beside a zero pivot nothing may stand
beside_zero : lower_chain ((pos 0 ∷ pos 1 ∷ []) ∷ (pos 5 ∷ []) ∷ []) ≡ stop (pos 0) ∷ []
beside_zero = refl

-- 2 and 2^31 + 1: the square is above 2^62
too_large : upper_chain ((pos 2 ∷ pos 2147483649 ∷ []) ∷ (pos 5 ∷ []) ∷ []) ≡ stop (negsuc 2305843009213693951) ∷ []
too_large = refl

-- ---- the certificate of 2, -1; -1, 2 with the remainder 1: 2 (2 - 1) - 1 is 1
one_holds : CertificateHolds (((pos 1 ∷ []) ∷ []) ∷ [] ∷ []) ((pos 2 ∷ negsuc 0 ∷ []) ∷ (pos 2 ∷ []) ∷ [])
one_holds = (inl (omega (arith, ints), first), (inl (omega (arith, ints), second), tt))
  where
    first : IsDominant (schur (pos 2) (negsuc 0 ∷ []) (minus_matrix ((pos 2 ∷ []) ∷ []) ((pos 1 ∷ []) ∷ [])))
    first zero = omega (arith, ints)
    first (suc i) = omega (arith, ints)

    second : IsDominant (schur (pos 1) [] (minus_matrix [] []))
    second i = omega (arith, ints)

-- with the remainder 2 it is -1
two_fails : CertificateHolds (((pos 2 ∷ []) ∷ []) ∷ [] ∷ []) ((pos 2 ∷ negsuc 0 ∷ []) ∷ (pos 2 ∷ []) ∷ []) → ⊥
two_fails (inl h, rest) = let below = h.1 0 in omega (arith, ints)
two_fails (inr h, rest) = let zero_pivot = h.0 in omega (arith, ints)
