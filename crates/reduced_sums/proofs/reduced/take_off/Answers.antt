use Rattle.std.proofs.Common.{◌≡◌, ◌∙◌, ◌*◌, ◌^◌, ◌<◌, ◌≤◌, ℕ, ℤ, pos, ◌-ℤ◌, length, get_or, arith, ap₂}
use Rattle.std.specs.Prelude.{unsigned_abs}
use Rattle.whole_algebra.specs.Matrices.{at}
use Rattle.reduced_sums.proofs.ReducedLemmas.{written_more, others_stand, part_small, taken, all_taken, taken_near}
use Rattle.reduced_sums.proofs.reduced.take_off.Goals as goal

pub loop-i-preserved : goal.loop-i-preserved
loop-i-preserved c =
    let i = c.loop-i.i in
    let old = c.args.reduced.now in
    let numbers = c.args.coefficients.now in
    let part : c.from.result * c.from-in-loop-i.result ≡ c.args.multiplier * get_or numbers i 0 = ap₂ (λ s t. s * t) c.from.ensures c.from-in-loop-i.ensures in
    let few : c.from.result * c.from-in-loop-i.result ≤ 2 ^ 68 = rw part (part_small numbers c.args.multiplier i c.requires.multiplier c.requires.coefficients) in
    let same : at c.loop-i.reduced i ≡ at old i = c.loop-i.invariant.ahead i (omega arith) in
    let size : unsigned_abs (at c.loop-i.reduced i) ≤ 2 ^ 75 = rw same (c.requires.small i) in
    let one = taken (at c.loop-i.reduced i) (c.from.result * c.from-in-loop-i.result) size few in
    let inside : i < length c.loop-i.reduced = omega (arith, c.loop-i.auto.reduced, c.requires.places, c.loop-i-test.true) in
    record {
      behind = written_more (λ k. at old k -ℤ pos (c.args.multiplier * get_or numbers k 0)) c.loop-i.reduced i _ inside c.loop-i.invariant.behind
          (one.is ∙ ap₂ (λ (s : ℤ) (n : ℕ). s -ℤ pos n) same part);
      ahead = others_stand (at old) c.loop-i.reduced i _ c.loop-i.invariant.ahead;
    }

pub returns-clause-taken : goal.returns-clause-taken
returns-clause-taken c =
    all_taken c.loop-i.reduced c.args.reduced.now c.args.coefficients.now c.args.multiplier c.requires.places c.loop-i.auto.reduced
    (λ k less. c.loop-i.invariant.behind k (omega (arith, less, c.loop-i-test.false)))

pub returns-clause-near : goal.returns-clause-near
returns-clause-near c =
    let all = all_taken c.loop-i.reduced c.args.reduced.now c.args.coefficients.now c.args.multiplier c.requires.places c.loop-i.auto.reduced
    (λ k less. c.loop-i.invariant.behind k (omega (arith, less, c.loop-i-test.false))) in
    λ k. taken_near c.loop-i.reduced c.args.reduced.now c.args.coefficients.now c.args.multiplier k c.requires.multiplier c.requires.coefficients (all k)
