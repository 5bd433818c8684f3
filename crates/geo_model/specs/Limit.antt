use Rattle.std.specs.Prelude.{◌≡◌, ◌*◌, ◌^◌, ℕ, ◌<◌, ℤ, pos, ◌*ℤ◌, ◌≤ℤ◌, List, All, sum_by, unsigned_abs, Option, Some, slice_get, Bool, true, false}
use Rattle.std.specs.Option.{ForSome}
use Rattle.std.specs.Int.{int_max}
use Rattle.whole_algebra.specs.Sums.{int_sum_by}
use Rattle.geo_model.specs.Row.{Displaced, IsSparse, form_squared, total_size, unit_at}
use Rattle.geo_model.specs.Candidate.{CandidateOf}
use Rattle.geo_model.specs.Energy.{full_energy}
use Rattle.geo_model.specs.declared.limit.LimitKind.{LimitKind}
use Rattle.geo_model.specs.declared.limit.LimitKind.TheVariants.{Axis, Height, Redundancy, Added}

-- a weighted square of a linear form
pub record SquareOf : Type 0 where
  pub beta : ℤ
  pub entries : List (ℕ × ℤ)

-- a limit: what it bounds, the candidate that owns it if any, its factor, and its weighted squares
pub record LimitOf : Type 0 where
  pub kind : LimitKind
  pub owner : Option ℕ
  pub alpha : ℤ
  pub squares : List SquareOf

-- the load of weighted squares at a displacement: their sum
abbrev pub load : List SquareOf → Displaced → ℤ
load squares x = int_sum_by (λ square. square.beta *ℤ form_squared square.entries x) squares

-- a limit is in force for a plan where it has no owner or its owner is chosen
abbrev pub IsInForce : LimitOf → List Bool → Type 0
IsInForce limit plan = ForSome limit.owner (λ owner. slice_get plan owner ≡ Some true)

-- whether a limit is one of a new point's axis or height
abbrev pub is_point_limit : LimitKind → Bool
is_point_limit (Axis point) = true
is_point_limit (Height point) = true
is_point_limit (Redundancy candidate row) = false
is_point_limit (Added number) = false

-- The bounds of a limit's factor and squares in a network of these candidates and so many unknowns.
-- The last one says that no diagonal entry of the load is large beside the normal matrix.
-- (this project's own)
pub record IsLoad (unknowns : ℕ) (candidates : List CandidateOf) (alpha : ℤ) (squares : List SquareOf) : Type 0 where
  pub alpha_low : pos 1 ≤ℤ alpha
  pub alpha_high : alpha ≤ℤ pos 1000000
  pub beta_low : All (λ square. pos 1 ≤ℤ square.beta) squares
  pub beta_high : All (λ square. square.beta ≤ℤ pos (10 ^ 14)) squares
  pub sparse : All (λ square. IsSparse square.entries) squares
  pub columns : All (λ square. All (λ entry. entry.0 < unknowns) square.entries) squares
  pub total : sum_by (λ square. unsigned_abs square.beta * total_size square.entries ^ 2) squares < 2 ^ 90
  pub diagonal : (i : ℕ) → i < unknowns → load squares (unit_at i) ≤ℤ int_max (pos (2 ^ 50)) (pos (2 ^ 12) *ℤ (alpha *ℤ full_energy candidates (unit_at i)))
