use Rattle.std.proofs.Common.{rules, ◌≡◌, ◌*ℤ◌, ◌∙◌, ap, arith, FitsSigned}
use Rattle.std.specs.Int.{w64, w128}
use Rattle.std.proofs.lemmas.Int.{to_z-of_z, fits_signed_from_abs}
use Rattle.whole_algebra.specs.Rounding.{floor_over, gap_over}
use Rattle.chain_step.proofs.divisor.PivotDivisor.quotient.Goals as goal

-- the number that is divided
divided : (c : goal.After-judged) → c.long_product.result ≡ c.args.self.factor *ℤ c.args.q
divided c =
    let f : FitsSigned w64 c.args.self.factor = search rules in
    let q : FitsSigned w64 c.args.q = fits_signed_from_abs w64 c.args.q (omega arith) in
    simp (to_z-of_z, f, q, c.ranges.q) at c.long_product.ensures.value

pub returns-clause-floor : goal.returns-clause-floor
returns-clause-floor c =
    let p : FitsSigned w64 c.args.self.pivot = search rules in
    let n : FitsSigned w128 c.long_product.result = record { sfits = c.long_product.type_inv } in
    let v = simp (to_z-of_z, p, n) at c.judged.ensures.floor in
    v ∙ ap (floor_over c.args.self.pivot) (divided c)

pub returns-clause-gap : goal.returns-clause-gap
returns-clause-gap c =
    let p : FitsSigned w64 c.args.self.pivot = search rules in
    let n : FitsSigned w128 c.long_product.result = record { sfits = c.long_product.type_inv } in
    let v = simp (to_z-of_z, p, n) at c.judged.ensures.gap in
    v ∙ ap (gap_over c.args.self.pivot) (divided c)
