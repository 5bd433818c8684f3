use Rattle.std.proofs.Common.{◌≡◌, ℕ, ◌+◌, ◌<◌, ◌≤◌, ◌^◌, ℤ, pos, ◌+ℤ◌, Bool, true, false, if◌then◌else◌, List, length, take, add-one, FitsSigned, to_z, Some, get_or, ap, ap₂, ◌∙◌, sym, arith, rules}
use mir.Syntax.{w128}
use Rattle.std.specs.Prelude.{All, slice_get, sum_by, unsigned_abs}
use Rattle.std.proofs.lemmas.Int.{to_z-of_z, fits_signed_from_abs, ints}
use Rattle.whole_algebra.specs.Matrices.{at}
use Rattle.geo_model.specs.Candidate.{CandidateOf, IsCandidate, candidate_energy}
use Rattle.geo_model.specs.Energy.{energy}
use Rattle.geo_model.specs.Network.{NetworkOf, IsNetwork}
use Rattle.geo_model.specs.Row.{IsNarrow}
use Rattle.geo_model.proofs.SumSteps.{energy_more, energy_take-small, candidate_of}
use Rattle.geo_model.proofs.forms.energy.Goals as goal
use Rattle.geo_model.proofs.forms.energy.Goals.{then-has, else-has}

pub candidate_energy-sum-requires-clause-bounds : goal.candidate_energy-sum-requires-clause-bounds
candidate_energy-sum-requires-clause-bounds c =
    (candidate_of c.args.network.now c.candidates-candidates.result.now c.loop-i.i (length c.args.x.now) c.index-candidates-i.result c.candidates-candidates.ensures.bounds c.candidates-candidates.ensures.value c.loop-i-test.true c.index-candidates-i.is c.requires.displacement).bounds

pub candidate_energy-sum-requires-clause-few : goal.candidate_energy-sum-requires-clause-few
candidate_energy-sum-requires-clause-few c =
    (candidate_of c.args.network.now c.candidates-candidates.result.now c.loop-i.i (length c.args.x.now) c.index-candidates-i.result c.candidates-candidates.ensures.bounds c.candidates-candidates.ensures.value c.loop-i-test.true c.index-candidates-i.is c.requires.displacement).few

-- one candidate more of the sum
record IsStep (candidates : List CandidateOf) (plan : List Bool) (x : List ℤ) (k : ℕ) (sum part : ℤ) : Type 0 where
  pub whole : FitsSigned w128 (sum +ℤ part)
  pub is : sum +ℤ part ≡ energy (take (k + 1) candidates) plan (at x)

step : (network : NetworkOf) (candidates : List CandidateOf) (plan : List Bool) (x : List ℤ) (k : ℕ) (sum part : ℤ) (candidate : CandidateOf) (chosen : Bool) → IsNetwork network → candidates ≡ network.candidates
    → IsNarrow (at x) → k < length candidates → candidate ≡ get_or candidates k candidate → slice_get plan k ≡ Some chosen → sum ≡ energy (take k candidates) plan (at x)
    → part ≡ (if chosen then candidate_energy candidate (at x) else pos 0) → IsStep candidates plan x k sum part
step network candidates plan x k sum part candidate chosen kept are narrow inside here flag so_far this =
    let more = energy_more k candidates plan (at x) candidate chosen inside here flag in
    let is : sum +ℤ part ≡ energy (take (k + 1) candidates) plan (at x) = rw add-one (ap₂ (λ s t. s +ℤ t) so_far this ∙ sym more) in
    let all : All (IsCandidate (length network.unknowns)) candidates = rw are kept.each_candidate in
    let few : sum_by (λ (c : CandidateOf). length c.rows) candidates ≤ 512 = rw are kept.rows in
    let small = energy_take-small (k + 1) (length network.unknowns) candidates plan (at x) all few narrow in
    let size : unsigned_abs (sum +ℤ part) < 2 ^ 105 = rw is small in
    record { whole = fits_signed_from_abs w128 (sum +ℤ part) (omega arith); is = is }

chosen_part : (b : Bool) (part z : ℤ) → b ≡ true → part ≡ z → part ≡ (if b then z else pos 0)
chosen_part b part z is e = e ∙ sym (ap (λ (v : Bool). if v then z else pos 0) is)

left_part : (b : Bool) (z : ℤ) → b ≡ false → pos 0 ≡ (if b then z else pos 0)
left_part b z is = sym (ap (λ (v : Bool). if v then z else pos 0) is)

pub overflow_add-sum : goal.overflow_add-sum
overflow_add-sum c =
    let part : FitsSigned w128 c.candidate_energy-sum.result = search rules in
    let s = step c.args.network.now c.candidates-candidates.result.now c.args.plan.now c.args.x.now c.loop-i.i (to_z w128 c.loop-i.sum-bits) c.candidate_energy-sum.result c.index-candidates-i.result c.has.result
    c.candidates-candidates.ensures.bounds c.candidates-candidates.ensures.value c.entries-bounds.ensures.narrow c.loop-i-test.true c.index-candidates-i.is c.has.ensures c.loop-i.invariant
    (chosen_part c.has.result c.candidate_energy-sum.result (candidate_energy c.index-candidates-i.result (at c.args.x.now)) c.if-has.true c.candidate_energy-sum.ensures.value) in
    simp to_z-of_z s.whole

pub loop-i-preserved : goal.loop-i-preserved
loop-i-preserved c =
    let sum = to_z w128 c.loop-i.sum-bits in
    elim c.if-has.branch [
      | then-has w ↦
          let part : FitsSigned w128 w.candidate_energy-sum.result = search rules in
          let s = step c.args.network.now c.candidates-candidates.result.now c.args.plan.now c.args.x.now c.loop-i.i sum w.candidate_energy-sum.result c.index-candidates-i.result c.has.result
          c.candidates-candidates.ensures.bounds c.candidates-candidates.ensures.value c.entries-bounds.ensures.narrow c.loop-i-test.true c.index-candidates-i.is c.has.ensures c.loop-i.invariant
          (chosen_part c.has.result w.candidate_energy-sum.result (candidate_energy c.index-candidates-i.result (at c.args.x.now)) w.if-has.true w.candidate_energy-sum.ensures.value) in
          let whole = s.whole in
          let is = simp to_z-of_z at w.sum-is in
          is ∙ s.is
      | else-has w ↦
          let s = step c.args.network.now c.candidates-candidates.result.now c.args.plan.now c.args.x.now c.loop-i.i sum (pos 0) c.index-candidates-i.result c.has.result
          c.candidates-candidates.ensures.bounds c.candidates-candidates.ensures.value c.entries-bounds.ensures.narrow c.loop-i-test.true c.index-candidates-i.is c.has.ensures c.loop-i.invariant
          (left_part c.has.result (candidate_energy c.index-candidates-i.result (at c.args.x.now)) w.if-has.false) in
          w.sum-is ∙ with_none sum ∙ s.is
    ]
  where
    with_none : (z : ℤ) → z ≡ z +ℤ pos 0
    with_none z = omega (arith, ints)

pub returns-clause-size : goal.returns-clause-size
returns-clause-size c =
    let all = c.candidates-candidates.ensures.bounds in
    rw c.loop-i.invariant (rw c.candidates-candidates.ensures.value (energy_take-small c.loop-i.i (length c.args.network.now.unknowns) c.args.network.now.candidates c.args.plan.now (at c.args.x.now) all.each_candidate all.rows c.entries-bounds.ensures.narrow))
