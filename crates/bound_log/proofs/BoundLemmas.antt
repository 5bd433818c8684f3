-- The lesser of two bounds.
use Rattle.std.proofs.Common.{◌≡◌, min, arith, refl, ap}
use Rattle.bound_log.specs.declared.bound.Bound.{Bound}
use Rattle.bound_log.specs.declared.bound.Bound.TheVariants.{NoPlan, AtLeast}
use Rattle.bound_log.specs.Bound.{lesser}

pub lesser_none : (a : Bound) → lesser a NoPlan ≡ a
lesser_none NoPlan = refl
lesser_none (AtLeast x) = refl

pub lesser_assoc : (a b c : Bound) → lesser (lesser a b) c ≡ lesser a (lesser b c)
lesser_assoc NoPlan b c = refl
lesser_assoc (AtLeast x) NoPlan c = refl
lesser_assoc (AtLeast x) (AtLeast y) NoPlan = refl
lesser_assoc (AtLeast x) (AtLeast y) (AtLeast z) = let same : min (min x y) z ≡ min x (min y z) = omega arith in ap AtLeast same
