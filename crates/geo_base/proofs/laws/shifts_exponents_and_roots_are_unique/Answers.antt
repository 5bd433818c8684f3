use Rattle.std.proofs.Common.{sym, subst, arith}
use Rattle.std.proofs.lemmas.Int.{ints}
use Rattle.geo_base.specs.Grid.{IsExponent, IsShifted, exponent_of, shift_of}
use Rattle.geo_base.proofs.Powers.{shift_of-IsShifted, exponent_of-IsExponent}
use Rattle.geo_base.proofs.Unique.{IsShifted-unique, IsExponent-unique, IsRoot-unique}
use Rattle.geo_base.proofs.laws.shifts_exponents_and_roots_are_unique.Goals as goal

pub returns-clause-shift : goal.returns-clause-shift
returns-clause-shift c n e q = (
  λ is. IsShifted-unique n e q (shift_of n e) is (shift_of-IsShifted n e),
  λ same. subst (IsShifted n e) (sym same) (shift_of-IsShifted n e),
)

pub returns-clause-exponent : goal.returns-clause-exponent
returns-clause-exponent c v e some below =
    let is = exponent_of-IsExponent v some (omega (arith, ints)) in
    (λ one. IsExponent-unique v e (exponent_of v) some one is, λ same. subst (IsExponent v) (sym same) is)

pub returns-clause-root : goal.returns-clause-root
returns-clause-root c = IsRoot-unique
