-- The counts of the rows of a chain, beside them.
use Rattle.std.proofs.Common.{◌≡◌, ℕ, ◌≤◌, Bool, true, false, if◌then◌else◌, List, [], ◌∷◌, refl, sym, subst, arith, ℤ}
use Rattle.std.specs.Prelude.{Option, Some, None, is_some, nat_le}
use Rattle.std.proofs.lemmas.Bool.Decides.{nat_tests}
use Rattle.pivot_chain.specs.Chain.{HasGaps}
use Rattle.pivot_chain.specs.declared.chain.Stop.{Stop}
use Rattle.pivot_chain.proofs.ChainRun.{none_counted}
use Rattle.factor_stack.specs.declared.chain.Chain.{Chain}
use Rattle.factor_stack.specs.declared.factors.Factors.{Factors}
use Rattle.factor_stack.specs.declared.held.Held.{Held}
use Rattle.factor_stack.specs.declared.held.Saved.{Saved}
use Rattle.factor_stack.specs.Stored.{count_of, stop_within, cut_at, taken_back, HaveCounted, AreCounted}

-- a chain that hasn't stopped counted all rows so far
pub counted_open : (chain : Chain) (gaps : List (List ℤ)) (k : ℕ) → false ≡ is_some chain.stop → HasGaps chain.rows gaps (count_of k chain.stop) → HasGaps chain.rows gaps k
counted_open chain gaps k e h = by chain.stop e h
  where
    by : (stop : Option Stop) → false ≡ is_some stop → HasGaps chain.rows gaps (count_of k stop) → HasGaps chain.rows gaps k
    by None e h = h
    by (Some stop) e h = absurd (cc)

pub open_counted : (rows gaps : List (List ℤ)) (k : ℕ) (stop : Option Stop) → false ≡ is_some stop → HasGaps rows gaps k → HasGaps rows gaps (count_of k stop)
open_counted rows gaps k None e h = h
open_counted rows gaps k (Some stop) e h = absurd (cc)

-- nothing is counted of chains that aren't begun
pub none_counted_yet : (factors : Factors) → factors.lower.stop ≡ None → factors.upper.stop ≡ None → HaveCounted 0 (cut_at 0 factors)
none_counted_yet factors e f = record { lower = none factors.lower.rows factors.lower_gaps factors.lower.stop e; upper = none factors.upper.rows factors.upper_gaps factors.upper.stop f }
  where
    none : (rows gaps : List (List ℤ)) (stop : Option Stop) → stop ≡ None → HasGaps rows gaps (count_of 0 (stop_within 0 stop))
    none rows gaps stop e = subst (λ s. HasGaps rows gaps (count_of 0 (stop_within 0 s))) (sym e) (none_counted rows gaps)

fewer : (rows gaps : List (List ℤ)) (k j : ℕ) → j ≤ k → HasGaps rows gaps k → HasGaps rows gaps j
fewer rows gaps k j le h = λ i m lt one inside. h i m (omega arith) one inside

-- rows that stay keep their counts
cut_counted : (rows gaps : List (List ℤ)) (n first : ℕ) (stop : Option Stop) → first ≤ n → HasGaps rows gaps (count_of n stop) → HasGaps rows gaps (count_of first (stop_within first stop))
cut_counted rows gaps n first None le h = fewer rows gaps n first le h
cut_counted rows gaps n first (Some stop) le h = by (nat_le stop.step first) refl
  where
    by : (b : Bool) → nat_le stop.step first ≡ b → HasGaps rows gaps (count_of first (if b then Some stop else None))
    by true e = h
    by false e = fewer rows gaps stop.step first (grind (arith, nat_tests)) h

pub still_counted : (factors : Factors) (n first : ℕ) → first ≤ n → HaveCounted n factors → HaveCounted first (cut_at first factors)
still_counted factors n first le h = record {
  lower = cut_counted factors.lower.rows factors.lower_gaps n first factors.lower.stop le h.lower;
  upper = cut_counted factors.upper.rows factors.upper_gaps n first factors.upper.stop le h.upper;
}

-- ---- with the changes that can be taken back
pub counted_now : (n : ℕ) (held : Held) (saves : List Saved) → AreCounted n held saves → HaveCounted n held.factors
counted_now n held [] h = h
counted_now n held (saved ∷ rest) h = h.0

pub counted_more : (n : ℕ) (held new : Held) (saves : List Saved) (saved : Saved) → taken_back new saved ≡ held → AreCounted n held saves → HaveCounted n new.factors
    → AreCounted n new (saved ∷ saves)
counted_more n held new saves saved e h now = (now, subst (λ (x : Held). AreCounted n x saves) (sym e) h)
