-- What the verdict on a limit says of the limit.
use Rattle.std.proofs.Common.{◌≡◌, ℕ, ◌≤◌, List, Bool, Some, slice_get, length, refl, sym, ◌∙◌, subst, arith, ℤ, pos, ◌*ℤ◌, ◌≤ℤ◌, ◌<ℤ◌}
use Rattle.std.proofs.lemmas.Int.{ints}
use Rattle.std.proofs.lemmas.Option.{slice_get_within, get_or_from_slice_get}
use Rattle.whole_algebra.specs.Chains.{Outcome, met, refuted, open_at, chains_outcome as outcome_on}
use Rattle.whole_algebra.proofs.VerdictLaws.{verdict-open}
use Rattle.geo_model.specs.Row.{Displaced}
use Rattle.geo_model.specs.Energy.{energy, IsWithin}
use Rattle.geo_model.specs.Limit.{LimitOf, load}
use Rattle.geo_model.specs.Network.{NetworkOf, IsNetwork, IsLimit}
use Rattle.geo_model.specs.Meeting.{MeetsLimit, MeetsLimits, Breaks}
use Rattle.geo_model.specs.Verdicts.{IsCertifiedBy}
use Rattle.geo_model.specs.declared.verdict.Verdict.{Verdict}
use Rattle.geo_model.specs.declared.verdict.Verdict.TheVariants.{Met, Refuted, Open}
use Rattle.geo_model.proofs.EnergyLemmas.{MeetsLimit-grows}
use Rattle.limit_forms.specs.Grid.{lower_grid, upper_grid}
use Rattle.limit_forms.proofs.GridEntries.{lower_triangle}
use Rattle.limit_forms.proofs.GridVerdicts.{met_everywhere, refuted_somewhere}
use Rattle.pivot_chain.specs.Verdict.{verdict_from, verdict_of, verdict_on}

-- ---- a verdict comes from one outcome
pub from_met : (o : Outcome) → verdict_from o ≡ Met → o ≡ met
from_met met e = refl
from_met refuted e = absurd (apart e)
  where
    apart : Refuted ≡ Met → ⊥
    apart e = cc
from_met (open_at step lo hi) e = absurd (apart e)
  where
    apart : Open step lo hi ≡ Met → ⊥
    apart e = cc

pub from_refuted : (o : Outcome) → verdict_from o ≡ Refuted → o ≡ refuted
from_refuted met e = absurd (apart e)
  where
    apart : Met ≡ Refuted → ⊥
    apart e = cc
from_refuted refuted e = refl
from_refuted (open_at step lo hi) e = absurd (apart e)
  where
    apart : Open step lo hi ≡ Refuted → ⊥
    apart e = cc

pub from_open : (o : Outcome) (step : ℕ) (lo hi : ℤ) → verdict_from o ≡ Open step lo hi → o ≡ open_at step lo hi
from_open met step lo hi e = absurd (apart e)
  where
    apart : Met ≡ Open step lo hi → ⊥
    apart e = cc
from_open refuted step lo hi e = absurd (apart e)
  where
    apart : Refuted ≡ Open step lo hi → ⊥
    apart e = cc
from_open (open_at s l h) step lo hi e = same
  where
    same : open_at s l h ≡ open_at step lo hi
    same = cc

-- ---- the laws
pub met_sound : (network : NetworkOf) (plan : List Bool) (limit : LimitOf) → IsNetwork network → IsLimit network limit
    → verdict_of network plan limit ≡ Met → MeetsLimit network plan limit
unfolding verdict_of verdict_on
met_sound network plan limit bounds is_limit e x =
    met_everywhere network plan limit.alpha limit.squares x bounds is_limit.bounded
    (from_met (outcome_on (lower_grid network plan limit.alpha limit.squares) (upper_grid network plan limit.alpha limit.squares)) e)

pub refuted_sound : (network : NetworkOf) (plan : List Bool) (limit : LimitOf) → IsNetwork network → IsLimit network limit
    → verdict_of network plan limit ≡ Refuted → (x : Displaced) × Breaks network plan limit x
unfolding verdict_of verdict_on
refuted_sound network plan limit bounds is_limit e =
    refuted_somewhere network plan limit.alpha limit.squares bounds is_limit.bounded
    (from_refuted (outcome_on (lower_grid network plan limit.alpha limit.squares) (upper_grid network plan limit.alpha limit.squares)) e)

open_sound : (network : NetworkOf) (plan : List Bool) (limit : LimitOf) (step : ℕ) (lo hi : ℤ) → verdict_of network plan limit ≡ Open step lo hi
    → (lo ≤ℤ pos 0) × (pos 0 ≤ℤ hi) × (1 ≤ step) × (step ≤ length network.unknowns)
unfolding verdict_of verdict_on
open_sound network plan limit step lo hi e =
    let lower = lower_grid network plan limit.alpha limit.squares in
    let upper = upper_grid network plan limit.alpha limit.squares in
    let p = verdict-open (length network.unknowns) lower upper step lo hi (lower_triangle network plan limit.alpha limit.squares) (from_open (outcome_on lower upper) step lo hi e) in
    (p.0, p.1, omega (arith, p.2), p.3)

pub open_interval : (network : NetworkOf) (plan : List Bool) (limit : LimitOf) (step : ℕ) (lo hi : ℤ) → verdict_of network plan limit ≡ Open step lo hi
    → (lo ≤ℤ pos 0) × (pos 0 ≤ℤ hi)
open_interval network plan limit step lo hi e = let p = open_sound network plan limit step lo hi e in (p.0, p.1)

pub open_step : (network : NetworkOf) (plan : List Bool) (limit : LimitOf) (step : ℕ) (lo hi : ℤ) → verdict_of network plan limit ≡ Open step lo hi
    → (1 ≤ step) × (step ≤ length network.unknowns)
open_step network plan limit step lo hi e = let p = open_sound network plan limit step lo hi e in (p.2, p.3)

pub certified_meets : (network : NetworkOf) (plan : List Bool) → IsNetwork network → IsCertifiedBy (verdict_of network) network plan → MeetsLimits network plan
certified_meets network plan bounds certified k d inside in_force =
    met_sound network plan _ bounds (bounds.each_limit k d inside) (certified k d inside in_force)

pub refuted_fails : (network : NetworkOf) (plan upper : List Bool) (limit : LimitOf) → IsNetwork network → IsLimit network limit → IsWithin plan upper
    → verdict_of network upper limit ≡ Refuted → MeetsLimit network plan limit → ⊥
refuted_fails network plan upper limit bounds is_limit within e meets =
    let broken = refuted_sound network upper limit bounds is_limit e in
    clash (limit.alpha *ℤ energy network.candidates upper broken.0) (load limit.squares broken.0) broken.1
    (MeetsLimit-grows network limit plan upper bounds.each_candidate is_limit.bounded.alpha_low within meets broken.0)
  where
    clash : (p q : ℤ) → p <ℤ q → q ≤ℤ p → ⊥
    clash p q h g = omega (arith, ints)

-- ---- a verdict that is the one of a limit with a number
limit_is : (network : NetworkOf) (number : ℕ) (limit : LimitOf) → IsNetwork network → slice_get network.limits number ≡ Some limit → IsLimit network limit
limit_is network number limit bounds found =
    subst (IsLimit network) (get_or_from_slice_get network.limits number limit limit found) (bounds.each_limit number limit (slice_get_within network.limits number limit found))

pub met_holds : (network : NetworkOf) (plan : List Bool) (number : ℕ) (limit : LimitOf) (verdict : Verdict) → IsNetwork network → slice_get network.limits number ≡ Some limit
    → verdict ≡ verdict_of network plan limit → verdict ≡ Met → MeetsLimit network plan limit
met_holds network plan number limit verdict bounds found exact e = met_sound network plan limit bounds (limit_is network number limit bounds found) (sym exact ∙ e)

pub refuted_breaks : (network : NetworkOf) (plan : List Bool) (number : ℕ) (limit : LimitOf) (verdict : Verdict) → IsNetwork network → slice_get network.limits number ≡ Some limit
    → verdict ≡ verdict_of network plan limit → verdict ≡ Refuted → (x : Displaced) × Breaks network plan limit x
refuted_breaks network plan number limit verdict bounds found exact e = refuted_sound network plan limit bounds (limit_is network number limit bounds found) (sym exact ∙ e)

pub met_grows : (network : NetworkOf) (plan large : List Bool) (number : ℕ) (limit : LimitOf) (verdict : Verdict) → IsNetwork network → slice_get network.limits number ≡ Some limit
    → verdict ≡ verdict_of network plan limit → verdict ≡ Met → IsWithin plan large → MeetsLimit network large limit
met_grows network plan large number limit verdict bounds found exact e within =
    let is_limit = limit_is network number limit bounds found in
    MeetsLimit-grows network limit plan large bounds.each_candidate is_limit.bounded.alpha_low within (met_sound network plan limit bounds is_limit (sym exact ∙ e))
