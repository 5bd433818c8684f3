-- How the points of a generated network are moved: the fixed ones not at all.
use Rattle.std.proofs.Common.{◌≡◌, ◌≢◌, ◌<◌, ℕ, zero, suc, Bool, true, List, [], ◌∷◌, Some, ap, arith, ℤ, pos, ◌+ℤ◌, ◌*ℤ◌, ◌≤ℤ◌, slice_get}
use Rattle.std.specs.Prelude.{nat_le}
use Rattle.std.specs.List.{list_all}
use Rattle.std.proofs.lemmas.Int.{ints}
use Rattle.std.proofs.lemmas.Bool.{and_parts}
use Rattle.std.proofs.lemmas.Bool.Decides.{nat_tests}
use Rattle.whole_algebra.proofs.Order.{square_nonneg}
use Rattle.geo_model.specs.declared.network.Component.{Component}
use Rattle.geo_model.specs.declared.network.Component.TheVariants as component
use Rattle.geo_model.specs.declared.network.Unknown.{Unknown}
use Rattle.geo_model.specs.Row.{Displaced}
use Rattle.design_rows.specs.Unknowns.{unknown}
use Rattle.gen_law.specs.RowSums.{moved}
use Rattle.gen_law.proofs.RowSums.{others_stay}

-- whether an unknown is of a point from number 4 on
abbrev pub is_of_new : Unknown → Bool
is_of_new u = nat_le 4 u.point

-- no unknown of such a list is of one of the first four points
absent : (unknowns : List Unknown) → list_all is_of_new unknowns ≡ true → (u : Unknown) → u.point < 4 → (k : ℕ) → slice_get unknowns k ≢ Some u
absent [] all u low k at = apart at
  where
    apart : slice_get [] k ≡ Some u → ⊥
    apart at = cc at
absent (v ∷ unknowns) all u low zero at =
    clash v.point u.point (and_parts (is_of_new v) (list_all is_of_new unknowns) all).0 (ap (λ (w : Unknown). w.point) (first_same v u at)) low
  where
    first_same : (v u : Unknown) → Some v ≡ Some u → v ≡ u
    first_same v u e = cc e

    clash : (m n : ℕ) → nat_le 4 m ≡ true → m ≡ n → n < 4 → ⊥
    clash m n e same low = grind (arith, nat_tests)
absent (v ∷ unknowns) all u low (suc k) at = absent unknowns (and_parts (is_of_new v) (list_all is_of_new unknowns) all).1 u low k at

-- the motion of a point in one component
abbrev pub motion : List Unknown → Displaced → ℕ → Component → ℤ
motion unknowns x place part = moved unknowns x (unknown place part)

-- the squares of a point's motions in the plane and in height
abbrev pub plane_square : List Unknown → Displaced → ℕ → ℤ
plane_square unknowns x place =
    motion unknowns x place component.X *ℤ motion unknowns x place component.X +ℤ motion unknowns x place component.Y *ℤ motion unknowns x place component.Y

abbrev pub height_square : List Unknown → Displaced → ℕ → ℤ
height_square unknowns x place = motion unknowns x place component.Z *ℤ motion unknowns x place component.Z

-- the point stays where it is
pub record IsStill (unknowns : List Unknown) (x : Displaced) (place : ℕ) : Type 0 where
  pub in_x : motion unknowns x place component.X ≡ pos 0
  pub in_y : motion unknowns x place component.Y ≡ pos 0
  pub in_z : motion unknowns x place component.Z ≡ pos 0

pub first-still : (unknowns : List Unknown) → list_all is_of_new unknowns ≡ true → (x : Displaced) (place : ℕ) → place < 4 → IsStill unknowns x place
first-still unknowns all x place low = record {
  in_x = others_stay unknowns x (unknown place component.X) (absent unknowns all (unknown place component.X) low);
  in_y = others_stay unknowns x (unknown place component.Y) (absent unknowns all (unknown place component.Y) low);
  in_z = others_stay unknowns x (unknown place component.Z) (absent unknowns all (unknown place component.Z) low);
}

-- ---- the squares of all new points

abbrev pub planes : List Unknown → Displaced → ℤ
planes unknowns x = plane_square unknowns x 4 +ℤ (plane_square unknowns x 5 +ℤ (plane_square unknowns x 6 +ℤ (plane_square unknowns x 7 +ℤ plane_square unknowns x 8)))

abbrev pub heights : List Unknown → Displaced → ℤ
heights unknowns x = height_square unknowns x 4 +ℤ (height_square unknowns x 5 +ℤ (height_square unknowns x 6 +ℤ (height_square unknowns x 7 +ℤ height_square unknowns x 8)))

sum_some : (a b : ℤ) → pos 0 ≤ℤ a → pos 0 ≤ℤ b → pos 0 ≤ℤ (a +ℤ b)
sum_some a b h k = omega (arith, ints)

pub plane-some : (unknowns : List Unknown) (x : Displaced) (place : ℕ) → pos 0 ≤ℤ plane_square unknowns x place
plane-some unknowns x place =
    sum_some (motion unknowns x place component.X *ℤ motion unknowns x place component.X) (motion unknowns x place component.Y *ℤ motion unknowns x place component.Y)
    (square_nonneg (motion unknowns x place component.X)) (square_nonneg (motion unknowns x place component.Y))

pub height-some : (unknowns : List Unknown) (x : Displaced) (place : ℕ) → pos 0 ≤ℤ height_square unknowns x place
height-some unknowns x place = square_nonneg (motion unknowns x place component.Z)

-- five numbers that aren't negative
pub record AreFive (a b c d e : ℤ) : Type 0 where
  pub first : pos 0 ≤ℤ a
  pub second : pos 0 ≤ℤ b
  pub third : pos 0 ≤ℤ c
  pub fourth : pos 0 ≤ℤ d
  pub fifth : pos 0 ≤ℤ e

-- each of them, and each two of them that are needed, are at most their sum
pub record AreWithinSum (a b c d e sum : ℤ) : Type 0 where
  pub some : pos 0 ≤ℤ sum
  pub first : a ≤ℤ sum
  pub second : b ≤ℤ sum
  pub third : c ≤ℤ sum
  pub fourth : d ≤ℤ sum
  pub fifth : e ≤ℤ sum
  pub first_second : (a +ℤ b) ≤ℤ sum
  pub second_third : (b +ℤ c) ≤ℤ sum
  pub first_third : (a +ℤ c) ≤ℤ sum

within-sum : (a b c d e : ℤ) → AreFive a b c d e → AreWithinSum a b c d e (a +ℤ (b +ℤ (c +ℤ (d +ℤ e))))
within-sum a b c d e are = record {
  some = omega (arith, ints);
  first = omega (arith, ints);
  second = omega (arith, ints);
  third = omega (arith, ints);
  fourth = omega (arith, ints);
  fifth = omega (arith, ints);
  first_second = omega (arith, ints);
  second_third = omega (arith, ints);
  first_third = omega (arith, ints);
}

pub planes-parts : (unknowns : List Unknown) (x : Displaced)
    → AreWithinSum (plane_square unknowns x 4) (plane_square unknowns x 5) (plane_square unknowns x 6) (plane_square unknowns x 7) (plane_square unknowns x 8) (planes unknowns x)
planes-parts unknowns x =
    within-sum (plane_square unknowns x 4) (plane_square unknowns x 5) (plane_square unknowns x 6) (plane_square unknowns x 7) (plane_square unknowns x 8)
    (record {
      first = plane-some unknowns x 4;
      second = plane-some unknowns x 5;
      third = plane-some unknowns x 6;
      fourth = plane-some unknowns x 7;
      fifth = plane-some unknowns x 8;
    })

pub heights-parts : (unknowns : List Unknown) (x : Displaced)
    → AreWithinSum (height_square unknowns x 4) (height_square unknowns x 5) (height_square unknowns x 6) (height_square unknowns x 7) (height_square unknowns x 8) (heights unknowns x)
heights-parts unknowns x =
    within-sum (height_square unknowns x 4) (height_square unknowns x 5) (height_square unknowns x 6) (height_square unknowns x 7) (height_square unknowns x 8)
    (record {
      first = height-some unknowns x 4;
      second = height-some unknowns x 5;
      third = height-some unknowns x 6;
      fourth = height-some unknowns x 7;
      fifth = height-some unknowns x 8;
    })

-- the squares of a still point and of another one are those of the other one
still_sum : (u v t : ℤ) → u ≡ pos 0 → v ≡ pos 0 → ((u *ℤ u +ℤ v *ℤ v) +ℤ t) ≡ t
still_sum u v t h k = rw (h, k) (omega (arith, ints))

pub still-plane : (unknowns : List Unknown) (x : Displaced) (a b : ℕ) (most : ℤ) → IsStill unknowns x a → plane_square unknowns x b ≤ℤ most
    → (plane_square unknowns x a +ℤ plane_square unknowns x b) ≤ℤ most
still-plane unknowns x a b most still within = rw (still_sum _ _ (plane_square unknowns x b) still.in_x still.in_y) within

pub still-height : (unknowns : List Unknown) (x : Displaced) (a b : ℕ) (most : ℤ) → IsStill unknowns x a → height_square unknowns x b ≤ℤ most
    → (height_square unknowns x a +ℤ height_square unknowns x b) ≤ℤ most
still-height unknowns x a b most still within = beside (motion unknowns x a component.Z) (height_square unknowns x b) most still.in_z within
  where
    beside : (z t most : ℤ) → z ≡ pos 0 → t ≤ℤ most → (z *ℤ z +ℤ t) ≤ℤ most
    beside z t most h k = rw h (omega (arith, ints))

-- the same with the still point second
pub plane-still : (unknowns : List Unknown) (x : Displaced) (a b : ℕ) (most : ℤ) → IsStill unknowns x b → plane_square unknowns x a ≤ℤ most
    → (plane_square unknowns x a +ℤ plane_square unknowns x b) ≤ℤ most
plane-still unknowns x a b most still within = beside (motion unknowns x b component.X) (motion unknowns x b component.Y) (plane_square unknowns x a) most still.in_x still.in_y within
  where
    beside : (u v t most : ℤ) → u ≡ pos 0 → v ≡ pos 0 → t ≤ℤ most → (t +ℤ (u *ℤ u +ℤ v *ℤ v)) ≤ℤ most
    beside u v t most h k l = rw (h, k) (omega (arith, ints))
