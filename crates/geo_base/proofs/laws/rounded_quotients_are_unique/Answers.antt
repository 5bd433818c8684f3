use Rattle.std.proofs.Common.{sym, subst}
use Rattle.geo_base.specs.Division.{IsCeiling, IsFloor, IsNearest, ceil_of, floor_of, nearest_of}
use Rattle.geo_base.proofs.Rounding.{floor_of-IsFloor, ceil_of-IsCeiling, nearest_of-IsNearest, IsFloor-unique, IsCeiling-unique, IsNearest-unique}
use Rattle.geo_base.proofs.laws.rounded_quotients_are_unique.Goals as goal

pub returns-clause-floor : goal.returns-clause-floor
returns-clause-floor c n d q some = (
  λ is. IsFloor-unique n d q (floor_of n d) some is (floor_of-IsFloor n d some),
  λ same. subst (IsFloor n d) (sym same) (floor_of-IsFloor n d some),
)

pub returns-clause-ceiling : goal.returns-clause-ceiling
returns-clause-ceiling c n d q some = (
  λ is. IsCeiling-unique n d q (ceil_of n d) some is (ceil_of-IsCeiling n d some),
  λ same. subst (IsCeiling n d) (sym same) (ceil_of-IsCeiling n d some),
)

pub returns-clause-nearest : goal.returns-clause-nearest
returns-clause-nearest c n d q some = (
  λ is. IsNearest-unique n d q (nearest_of n d) some is (nearest_of-IsNearest n d some),
  λ same. subst (IsNearest n d) (sym same) (nearest_of-IsNearest n d some),
)
