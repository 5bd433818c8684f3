-- The place of an unknown among unknowns that differ.
use Rattle.std.proofs.Common.{◌≡◌, ◌≢◌, ℕ, true, List, Some, None, refl, ap₂, arith, slice_get, eqb}
use Rattle.std.specs.List.{IsDistinct}
use Rattle.std.proofs.lemmas.Bool.{and_parts, eqb-true}
use Rattle.std.proofs.lemmas.Bool.Decides.{nat_tests}
use Rattle.geo_model.specs.declared.network.Component.{Component}
use Rattle.geo_model.specs.declared.network.Component.TheVariants as component
use Rattle.geo_model.specs.declared.network.Unknown.{Unknown}
use Rattle.table_columns.proofs.Places.{Tells, found-at, found-none, place-is}
use Rattle.design_rows.specs.Unknowns.{is_same, is_same_component, number_of}

-- ---- the tests decide

component-is : (a b : Component) → is_same_component a b ≡ true → a ≡ b
component-is component.X component.X e = refl
component-is component.Y component.Y e = refl
component-is component.Z component.Z e = refl
component-is component.Turn component.Turn e = refl
component-is a b e = cc e

component-same : (a : Component) → is_same_component a a ≡ true
component-same component.X = refl
component-same component.Y = refl
component-same component.Z = refl
component-same component.Turn = refl

number-same : (a : ℕ) → eqb a a ≡ true
number-same a = grind (arith, nat_tests)

pub same-is : (u v : Unknown) → is_same u v ≡ true → u ≡ v
same-is u v e =
    let (part, point) = and_parts (is_same_component u.component v.component) (eqb u.point v.point) e in
    ap₂ (λ (p : ℕ) (c : Component). record { point = p; component = c }) (eqb-true u.point v.point point) (component-is u.component v.component part)

pub same-refl : (u : Unknown) → is_same u u ≡ true
same-refl u = rw (component-same u.component, number-same u.point) refl

unknowns-tell : Tells is_same
unknowns-tell = record { is = same-is; again = same-refl }

-- ---- the place that is found

-- the unknown at a place that was found
pub number-at : (u : Unknown) (unknowns : List Unknown) (k : ℕ) → number_of unknowns u ≡ Some k → slice_get unknowns k ≡ Some u
unfolding number_of
number-at u unknowns k e = found-at is_same unknowns-tell unknowns k u e

pub number-none : (u : Unknown) (unknowns : List Unknown) → number_of unknowns u ≡ None → (k : ℕ) → slice_get unknowns k ≢ Some u
unfolding number_of
number-none u unknowns e = found-none is_same unknowns-tell unknowns u e

-- the place where an unknown stands is the one that is found
pub number-of-at : (unknowns : List Unknown) → IsDistinct is_same unknowns → (k : ℕ) (u : Unknown) → slice_get unknowns k ≡ Some u → number_of unknowns u ≡ Some k
unfolding number_of
number-of-at unknowns apart k u at = place-is is_same unknowns-tell unknowns apart k u at
