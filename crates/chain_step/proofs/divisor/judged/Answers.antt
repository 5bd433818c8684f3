use Rattle.std.proofs.Common.{rules, ◌≡◌, ◌^◌, pos, ◌-ℤ◌, ◌*ℤ◌, ◌≤ℤ◌, ◌<ℤ◌, ◌∙◌, ap, arith, FitsSigned}
use Rattle.std.specs.Int.{w128}
use Rattle.std.proofs.lemmas.Int.{to_z-of_z}
use Rattle.chain_step.proofs.Products.{in_range, difference_size, difference_back}
use Rattle.chain_step.proofs.Quotients.{guessed_floor, guessed_gap, left_over}
use Rattle.chain_step.proofs.divisor.judged.Goals as goal

pub overflow_sub-rest : goal.overflow_sub-rest
overflow_sub-rest c =
    (difference_back c.args.number c.long_product.result c.requires.number c.long_product.ensures.size).0

-- what the guess takes of the number
taken : (c : goal.After-gap_of_rest) → c.long_product.result ≡ c.args.guess *ℤ c.args.a
taken c = simp (to_z-of_z, c.ranges.guess, c.ranges.a) at c.long_product.ensures.value

-- what it leaves
left : (c : goal.After-gap_of_rest) → (pos 0 ≤ℤ (c.args.number -ℤ c.long_product.result)) × ((c.args.number -ℤ c.long_product.result) <ℤ c.args.a)
left c =
    let wide : FitsSigned w128 c.args.a = in_range c.args.a (let s = c.requires.a in omega arith) in
    let high = simp (to_z-of_z, c.ranges.a, wide) at c.if-rest-a.true in
    left_over c.args.number c.long_product.result c.args.a c.requires.number c.long_product.ensures.size c.if-rest-ge0.true high

pub returns-then-rest-a-clause-floor : goal.returns-then-rest-a-clause-floor
returns-then-rest-a-clause-floor c =
    let wide : FitsSigned w128 c.args.guess = search rules in
    simp (to_z-of_z, c.ranges.guess, wide)
    (guessed_floor c.args.number c.args.a c.args.guess (c.args.number -ℤ c.long_product.result) c.requires.above
    (ap (λ t. c.args.number -ℤ t) (taken c)) (left c).0 (left c).1)

pub returns-then-rest-a-clause-gap : goal.returns-then-rest-a-clause-gap
returns-then-rest-a-clause-gap c =
    let f : FitsSigned w128 c.gap_of_rest.result = record { sfits = c.gap_of_rest.type_inv } in
    let m : FitsSigned w128 c.long_product.result = record { sfits = c.long_product.type_inv } in
    let rest = c.args.number -ℤ c.long_product.result in
    let size = difference_size c.args.number c.long_product.result (2 ^ 124) c.requires.number c.long_product.ensures.size in
    let r : FitsSigned w128 rest = in_range rest (omega arith) in
    let v = simp (to_z-of_z, c.ranges.number, m, r) at c.gap_of_rest.ensures.value in
    simp (to_z-of_z, f) (v ∙ guessed_gap c.args.number c.args.a c.args.guess rest c.requires.above (ap (λ t. c.args.number -ℤ t) (taken c)) (left c).0 (left c).1)
