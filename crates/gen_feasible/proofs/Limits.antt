-- The limits of a network that the plan of all candidates meets: those of redundancy where each row is borne, and those of
-- points whose motions the vectors bear.
use Rattle.std.proofs.Common.{◌≡◌, ◌≤◌, ◌*◌, ◌∙◌, ℕ, Bool, List, [], ◌∷◌, length, arith, ℤ, pos, ◌+ℤ◌, ◌-ℤ◌, ◌*ℤ◌, ◌≤ℤ◌}
use Rattle.std.specs.Prelude.{All}
use Rattle.std.proofs.lemmas.Int.{ints}
use Rattle.whole_algebra.proofs.Ring.{mul_assoc}
use Rattle.geo_model.specs.declared.network.Component.{Component}
use Rattle.geo_model.specs.declared.network.Component.TheVariants as component
use Rattle.geo_model.specs.declared.network.Unknown.{Unknown}
use Rattle.geo_model.specs.Row.{Displaced, RowOf, form_at, row_energy}
use Rattle.geo_model.specs.Energy.{energy}
use Rattle.geo_model.specs.Meeting.{MeetsLimit}
use Rattle.geo_model.specs.Network.{NetworkOf}
use Rattle.design_rows.specs.Equations.{observed, term}
use Rattle.design_rows.specs.Rows.{entries_of}
use Rattle.net_build.specs.Build.{axis_limit, height_limit, limits_of_candidate, redundancy_limit, redundancy_limits, square_on}
use Rattle.net_build.proofs.ListFacts.{All-numbered, All-parts}
use Rattle.gen_law.proofs.RowSums.{rows_are_sums}
use Rattle.gen_feasible.proofs.Motions.{height-some, height_square, heights, motion, plane_square, planes}
use Rattle.gen_feasible.proofs.Shares.{IsBorne, IsWhole, axis_met, height_met}

-- ---- redundancy

fifth : (w square whole : ℤ) → (pos 5 *ℤ (w *ℤ square)) ≤ℤ (pos 4 *ℤ whole) → ((pos 1000 *ℤ w) *ℤ square +ℤ pos 0) ≤ℤ ((pos 1000 -ℤ pos 200) *ℤ whole)
fifth w square whole borne = omega (arith, ints, mul_assoc (pos 1000) w square)

-- the row is borne at each displacement
abbrev pub IsBorneBy : NetworkOf → List Bool → RowOf → Type 0
IsBorneBy network plan row = (x : Displaced) → IsBorne (row_energy row x) (energy network.candidates plan x)

row-met : (network : NetworkOf) (plan : List Bool) (owner place : ℕ) (row : RowOf) → IsBorneBy network plan row → MeetsLimit network plan (redundancy_limit 200 owner (place, row))
unfolding redundancy_limit
row-met network plan owner place row borne x = fifth row.weight (form_at row.entries x *ℤ form_at row.entries x) (energy network.candidates plan x) (borne x)

pub redundancies-met : (network : NetworkOf) (plan : List Bool) → All (λ candidate. All (IsBorneBy network plan) candidate.rows) network.candidates
    → All (MeetsLimit network plan) (redundancy_limits 200 network.candidates)
unfolding redundancy_limits limits_of_candidate
redundancies-met network plan all =
    All-parts (MeetsLimit network plan) (λ candidate. All (IsBorneBy network plan) candidate.rows) (limits_of_candidate 200) (length network.candidates) 0 network.candidates
    (λ owner candidate inside rows. All-numbered (MeetsLimit network plan) (IsBorneBy network plan) (redundancy_limit 200 owner) 0 candidate.rows
    (λ place row is. row-met network plan owner place row is) rows)
    (omega arith) all

-- ---- points

plain : (m : ℤ) → pos 1 *ℤ m +ℤ pos 0 ≡ m
plain m = omega (arith, ints)

-- the form of a point's limit is the point's motion
motion-form : (unknowns : List Unknown) (place : ℕ) (part : Component) (x : Displaced)
    → form_at (entries_of unknowns (term (pos 1) part place ∷ [])) x ≡ motion unknowns x place part
motion-form unknowns place part x = rows_are_sums unknowns (observed (term (pos 1) part place ∷ []) 0) x ∙ plain (motion unknowns x place part)

two_squares : (f g p q most : ℤ) → f ≡ p → g ≡ q → (pos 100000000000000 *ℤ (p *ℤ p +ℤ q *ℤ q)) ≤ℤ most
    → (pos 100000000000000 *ℤ (f *ℤ f) +ℤ (pos 100000000000000 *ℤ (g *ℤ g) +ℤ pos 0)) ≤ℤ most
two_squares f g p q most h k met = rw (h, k) (sum (p *ℤ p) (q *ℤ q) most met)
  where
    sum : (s t most : ℤ) → (pos 100000000000000 *ℤ (s +ℤ t)) ≤ℤ most → (pos 100000000000000 *ℤ s +ℤ (pos 100000000000000 *ℤ t +ℤ pos 0)) ≤ℤ most
    sum s t most met = omega (arith, ints)

one_square : (f p most : ℤ) → f ≡ p → (pos 100000000000000 *ℤ (p *ℤ p)) ≤ℤ most → (pos 100000000000000 *ℤ (f *ℤ f) +ℤ pos 0) ≤ℤ most
one_square f p most h met = rw h (sum (p *ℤ p) most met)
  where
    sum : (s most : ℤ) → (pos 100000000000000 *ℤ s) ≤ℤ most → (pos 100000000000000 *ℤ s +ℤ pos 0) ≤ℤ most
    sum s most met = omega (arith, ints)

-- the whole energy at each displacement bears the vectors and some others
pub record BearsVectors (network : NetworkOf) (plan : List Bool) (unknowns : List Unknown) (x : Displaced) : Type 0 where
  pub others : ℤ
  pub is : IsWhole (planes unknowns x) (heights unknowns x) others (energy network.candidates plan x)

pub axis-met : (network : NetworkOf) (plan : List Bool) (unknowns : List Unknown) (place s : ℕ) → ((x : Displaced) → BearsVectors network plan unknowns x) → 75 ≤ s
    → ((x : Displaced) → plane_square unknowns x place ≤ℤ planes unknowns x) → MeetsLimit network plan (axis_limit unknowns place s)
unfolding axis_limit square_on
axis-met network plan unknowns place s bears least within x =
    two_squares (form_at (entries_of unknowns (term (pos 1) component.X place ∷ [])) x) (form_at (entries_of unknowns (term (pos 1) component.Y place ∷ [])) x)
    (motion unknowns x place component.X) (motion unknowns x place component.Y) (pos (s * s) *ℤ energy network.candidates plan x)
    (motion-form unknowns place component.X x) (motion-form unknowns place component.Y x)
    (axis_met s (plane_square unknowns x place) (planes unknowns x) (heights unknowns x) (bears x).others (energy network.candidates plan x) (bears x).is least (within x))

pub height-met : (network : NetworkOf) (plan : List Bool) (unknowns : List Unknown) (place s : ℕ) → ((x : Displaced) → BearsVectors network plan unknowns x) → 110 ≤ s
    → ((x : Displaced) → height_square unknowns x place ≤ℤ heights unknowns x) → MeetsLimit network plan (height_limit unknowns place s)
unfolding height_limit square_on
height-met network plan unknowns place s bears least within x =
    one_square (form_at (entries_of unknowns (term (pos 1) component.Z place ∷ [])) x) (motion unknowns x place component.Z) (pos (s * s) *ℤ energy network.candidates plan x)
    (motion-form unknowns place component.Z x)
    (height_met s (height_square unknowns x place) (planes unknowns x) (heights unknowns x) (bears x).others (energy network.candidates plan x) (bears x).is least (within x) (height-some unknowns x place))
