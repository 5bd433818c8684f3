-- What the verdict on two matrices says of their forms.
use Rattle.std.proofs.Common.{◌≡◌, ℕ, zero, suc, ◌*◌, ◌<◌, ◌≤◌, Bool, true, false, cond, List, [], ◌∷◌, length, refl, ap, subst, arith, ℤ, pos, ◌+ℤ◌, ◌≤ℤ◌, ◌<ℤ◌}
use Rattle.whole_algebra.specs.Matrices.{at, quad, diagonal, lower_over, upper_over, IsTriangle, padded}
use Rattle.whole_algebra.specs.Chains.{Step, free, pivot, stop, size_limit, next, chain_rows, chain_steps, lower_chain, upper_chain, stops, stop_place, stop_value, pivot_at, Outcome, met, refuted, open_at, outcome_of, chains_outcome}
use Rattle.whole_algebra.proofs.Shapes.{length-triangle, quad-padded, length-padded}
use Rattle.whole_algebra.proofs.ChainLaws.{lower_nonneg, stop_value-low, pivot_at-nonneg}
use Rattle.whole_algebra.proofs.Refutation.{upper_negative, negative_list}

pub lower_sound : (n : ℕ) (m : List (List ℤ)) (x : List ℤ) → IsTriangle n m → stops (lower_chain m) ≡ false → pos 0 ≤ℤ quad m x
lower_sound n m x t e =
    subst (λ q. pos 0 ≤ℤ q) (quad-padded n m x t)
    (lower_nonneg n m (padded n x) (omega (arith, length-padded n x)) (subst (λ k. stops (chain_steps lower_over k m) ≡ false) (length-triangle n m t) e))

pub upper_refutes : (n : ℕ) (m : List (List ℤ)) (h : ℤ) → IsTriangle n m → n ≤ 64 → ((i : ℕ) → at (diagonal m) i ≤ℤ h)
    → (h +ℤ pos (64 * n)) ≤ℤ size_limit → stops (upper_chain m) ≡ true → (x : List ℤ) × (length x ≡ n) × (quad m x <ℤ pos 0)
upper_refutes n m h t le high room e =
    negative_list n m t
    (upper_negative n m h t le high room (subst (λ k. stops (chain_steps upper_over k m) ≡ true) (length-triangle n m t) e))

-- ---- the three outcomes
met_by : (s t : Bool) (o p : Outcome) → (p ≡ met → ⊥) → (o ≡ met → ⊥) → cond s (cond t o p) met ≡ met → s ≡ false
met_by true true o p h k e = absurd (k e)
met_by true false o p h k e = absurd (h e)
met_by false t o p h k e = refl

refuted_is_not_met : refuted ≡ met → ⊥
refuted_is_not_met e = cc

open_is_not_met : (k : ℕ) (lo hi : ℤ) → open_at k lo hi ≡ met → ⊥
open_is_not_met k lo hi e = cc

pub met-out : (low high : List Step) → outcome_of low high ≡ met → stops low ≡ false
met-out low high e =
    met_by (stops low) (stops high) refuted (open_at (stop_place low) (stop_value low) (pivot_at high (stop_place low)))
    (λ f. open_is_not_met (stop_place low) (stop_value low) (pivot_at high (stop_place low)) f) (λ f. refuted_is_not_met f) e

refuted_by : (s t : Bool) (k : ℕ) (lo hi : ℤ) → cond s (cond t refuted (open_at k lo hi)) met ≡ refuted → (s ≡ true) × (t ≡ true)
refuted_by true true k lo hi e = (refl, refl)
refuted_by true false k lo hi e = absurd (apart e)
  where
    apart : open_at k lo hi ≡ refuted → ⊥
    apart e = cc
refuted_by false t k lo hi e = absurd (apart e)
  where
    apart : met ≡ refuted → ⊥
    apart e = cc

pub refuted-out : (low high : List Step) → outcome_of low high ≡ refuted → (stops low ≡ true) × (stops high ≡ true)
refuted-out low high e = refuted_by (stops low) (stops high) (stop_place low) (stop_value low) (pivot_at high (stop_place low)) e

-- the parts of an open outcome
abbrev place_of : Outcome → ℕ
place_of met = 0
place_of refuted = 0
place_of (open_at k lo hi) = k

abbrev low_of : Outcome → ℤ
low_of met = pos 0
low_of refuted = pos 0
low_of (open_at k lo hi) = lo

abbrev high_of : Outcome → ℤ
high_of met = pos 0
high_of refuted = pos 0
high_of (open_at k lo hi) = hi

open_by : (s t : Bool) (k : ℕ) (lo hi : ℤ) (k' : ℕ) (lo' hi' : ℤ) → cond s (cond t refuted (open_at k lo hi)) met ≡ open_at k' lo' hi'
    → (s ≡ true) × (t ≡ false) × (k ≡ k') × (lo ≡ lo') × (hi ≡ hi')
open_by true true k lo hi k' lo' hi' e = absurd (apart e)
  where
    apart : refuted ≡ open_at k' lo' hi' → ⊥
    apart e = cc
open_by true false k lo hi k' lo' hi' e = (refl, refl, ap place_of e, ap low_of e, ap high_of e)
open_by false t k lo hi k' lo' hi' e = absurd (apart e)
  where
    apart : met ≡ open_at k' lo' hi' → ⊥
    apart e = cc

pub open-out : (low high : List Step) (k : ℕ) (lo hi : ℤ) → outcome_of low high ≡ open_at k lo hi
    → (stops low ≡ true) × (stops high ≡ false) × (stop_place low ≡ k) × (stop_value low ≡ lo) × (pivot_at high (stop_place low) ≡ hi)
open-out low high k lo hi e = open_by (stops low) (stops high) (stop_place low) (stop_value low) (pivot_at high (stop_place low)) k lo hi e

-- ---- where a chain stops
pub length-chain : (over : ℤ → List (List ℤ) → List (List ℤ)) (n : ℕ) (m : List (List ℤ)) → length (chain_steps over n m) ≤ n
length-chain over zero m = omega arith
length-chain over (suc n) [] = omega arith
length-chain over (suc n) (row ∷ rest) = let more = length-chain over n (next over row rest) in omega arith

place_by : (t : Bool) (p k : ℕ) → (t ≡ true → (0 < p) × (p ≤ k)) → t ≡ true → (0 < cond t (suc p) 0) × (cond t (suc p) 0 ≤ suc k)
place_by true p k h e = let r = h refl in (omega arith, omega arith)
place_by false p k h e = absurd (apart e)
  where
    apart : false ≡ true → ⊥
    apart e = cc

pub stop_place-range : (s : List Step) → stops s ≡ true → (0 < stop_place s) × (stop_place s ≤ length s)
stop_place-range [] e = absurd (apart e)
  where
    apart : false ≡ true → ⊥
    apart e = cc
stop_place-range (free ∷ s) e = place_by (stops s) (stop_place s) (length s) (λ h. stop_place-range s h) e
stop_place-range (pivot a ∷ s) e = place_by (stops s) (stop_place s) (length s) (λ h. stop_place-range s h) e
stop_place-range (stop v ∷ s) e = (omega arith, omega arith)

-- ---- the verdict
pub verdict-met : (n : ℕ) (lower upper : List (List ℤ)) (x : List ℤ) → IsTriangle n lower → chains_outcome lower upper ≡ met → pos 0 ≤ℤ quad lower x
verdict-met n lower upper x t e = lower_sound n lower x t (met-out (lower_chain lower) (upper_chain upper) e)

pub verdict-refuted : (n : ℕ) (lower upper : List (List ℤ)) (h : ℤ) → IsTriangle n upper → n ≤ 64 → ((i : ℕ) → at (diagonal upper) i ≤ℤ h)
    → (h +ℤ pos (64 * n)) ≤ℤ size_limit → chains_outcome lower upper ≡ refuted → (x : List ℤ) × (length x ≡ n) × (quad upper x <ℤ pos 0)
verdict-refuted n lower upper h t le high room e =
    upper_refutes n upper h t le high room (refuted-out (lower_chain lower) (upper_chain upper) e).1

pub verdict-open : (n : ℕ) (lower upper : List (List ℤ)) (k : ℕ) (lo hi : ℤ) → IsTriangle n lower → chains_outcome lower upper ≡ open_at k lo hi
    → (lo ≤ℤ pos 0) × (pos 0 ≤ℤ hi) × (0 < k) × (k ≤ n)
verdict-open n lower upper k lo hi t e =
    let p = open-out (lower_chain lower) (upper_chain upper) k lo hi e in
    let range = stop_place-range (lower_chain lower) p.0 in
    let count = length-chain lower_over (length lower) lower in
    let size = length-triangle n lower t in (
      subst (λ z. z ≤ℤ pos 0) p.3 (stop_value-low (chain_rows lower_over (length lower) lower)),
      subst (λ z. pos 0 ≤ℤ z) p.4 (pivot_at-nonneg (chain_rows upper_over (length upper) upper) (stop_place (lower_chain lower))),
      subst (λ z. 0 < z) p.2 range.0,
      subst (λ z. z ≤ n) p.2 (omega arith),
    )

-- for an answer that wants one of them
pub ruleset verdict_laws = (lower_sound, upper_refutes, verdict-met, verdict-refuted, verdict-open)
