use Rattle.std.proofs.Common.{◌≡◌, arith, refl, ap}
use Rattle.bound_log.specs.declared.bound.Bound.{Bound}
use Rattle.bound_log.specs.declared.bound.Bound.TheVariants.{NoPlan, AtLeast}
use Rattle.bound_log.specs.Bound.{lesser}
use Rattle.idle_splits.specs.Idle.{IsNoMore}

-- The order of bounds.

pub no_more_same : (a : Bound) → IsNoMore a a
no_more_same NoPlan = tt
no_more_same (AtLeast x) = omega arith

pub no_more_then : (a b c : Bound) → IsNoMore a b → IsNoMore b c → IsNoMore a c
no_more_then a b NoPlan below above = tt
no_more_then a NoPlan (AtLeast z) below above = absurd above
no_more_then NoPlan (AtLeast y) (AtLeast z) below above = absurd below
no_more_then (AtLeast x) (AtLeast y) (AtLeast z) below above = omega arith

-- what is no more than two bounds is no more than the lesser
pub no_more_both : (a b c : Bound) → IsNoMore a b → IsNoMore a c → IsNoMore a (lesser b c)
no_more_both a NoPlan c left right = right
no_more_both a (AtLeast y) NoPlan left right = left
no_more_both NoPlan (AtLeast y) (AtLeast z) left right = absurd left
no_more_both (AtLeast x) (AtLeast y) (AtLeast z) left right = omega arith

-- the lesser of two bounds is no more than what one of them is no more than
pub lesser_left : (a b c : Bound) → IsNoMore a c → IsNoMore (lesser a b) c
lesser_left a b NoPlan below = tt
lesser_left NoPlan b (AtLeast z) below = absurd below
lesser_left (AtLeast x) NoPlan (AtLeast z) below = below
lesser_left (AtLeast x) (AtLeast y) (AtLeast z) below = omega arith

pub lesser_right : (a b c : Bound) → IsNoMore b c → IsNoMore (lesser a b) c
lesser_right a b NoPlan below = tt
lesser_right NoPlan b (AtLeast z) below = below
lesser_right (AtLeast x) NoPlan (AtLeast z) below = absurd below
lesser_right (AtLeast x) (AtLeast y) (AtLeast z) below = omega arith

-- two bounds that are no more than one another are the same
pub no_more_twice : (a b : Bound) → IsNoMore a b → IsNoMore b a → a ≡ b
no_more_twice NoPlan NoPlan below above = refl
no_more_twice NoPlan (AtLeast y) below above = absurd below
no_more_twice (AtLeast x) NoPlan below above = absurd above
no_more_twice (AtLeast x) (AtLeast y) below above = let same : x ≡ y = omega arith in ap AtLeast same
