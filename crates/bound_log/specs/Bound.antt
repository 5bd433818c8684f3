-- Bounds and prices. This project's own.
use Rattle.std.specs.Prelude.{ℕ, ◌≤◌, min}
use Rattle.bound_log.specs.declared.bound.Bound.{Bound}
use Rattle.bound_log.specs.declared.bound.Bound.TheVariants.{NoPlan, AtLeast}

-- the lesser of two bounds, where `NoPlan` is above every price
abbrev pub lesser : Bound → Bound → Bound
lesser NoPlan other = other
lesser (AtLeast a) NoPlan = AtLeast a
lesser (AtLeast a) (AtLeast b) = AtLeast (min a b)

-- a bound is at most a price
abbrev pub IsAtMost : Bound → ℕ → Type 0
IsAtMost NoPlan price = ⊥
IsAtMost (AtLeast a) price = a ≤ price
