use Rattle.std.proofs.Common.{rules, ◌≡◌, ℕ, suc, ◌/◌, ◌^◌, ◌<◌, ◌≤◌, min, ℤ, ◌*ℤ◌, List, [], ◌∷◌, length, map, get_or, FitsSigned, refl, sym, ◌∙◌, ap, ap₂, arith}
use mir.Syntax.{w128}
use Rattle.std.specs.Prelude.{All, unsigned_abs}
use Rattle.std.proofs.lemmas.Int.{to_z-of_z}
use Rattle.std.proofs.lemmas.List.{get_or-map, length-map}
use Rattle.std.proofs.lemmas.List.Elements.{All-map}
use Rattle.whole_algebra.specs.Matrices.{at}
use Rattle.geo_model.specs.Row.{Displaced}
use Rattle.geo_model.specs.Candidate.{CandidateOf, candidate_energy}
use Rattle.geo_model.specs.Limit.{LimitOf}
use Rattle.geo_model.specs.Cover.{CoverOf}
use Rattle.geo_model.proofs.SumSteps.{same_limit}
use Rattle.cut_pool.specs.Cut.{cut_shift, load_number, rounded_up, bound_of, coefficient_of}
use Rattle.cut_pool.proofs.cut.cut_into.Goals as goal

same_numbers : (xs ys : List ℕ) → length xs ≡ length ys → ((k : ℕ) → k < length xs → get_or xs k 0 ≡ get_or ys k 0) → xs ≡ ys
same_numbers [] [] long same = refl
same_numbers [] (y ∷ ys) long same = absurd (omega arith)
same_numbers (x ∷ xs) [] long same = absurd (omega arith)
same_numbers (x ∷ xs) (y ∷ ys) long same =
    ap₂ (λ (z : ℕ) (zs : List ℕ). z ∷ zs) (same 0 (omega arith)) (same_numbers xs ys (omega arith) (λ k lt. same (suc k) (omega arith)))

-- a coefficient as the code reckons it
abbrev number_of : ℕ → ℕ → ℤ → Displaced → CandidateOf → ℕ
number_of bound shift alpha x candidate = min bound (rounded_up (unsigned_abs (alpha *ℤ candidate_energy candidate x)) (2 ^ shift))

written : (candidates : List CandidateOf) (coefficients : List ℕ) (i bound shift : ℕ) (alpha : ℤ) (x : Displaced) → length coefficients ≡ length candidates → length candidates ≤ i
    → ((k : ℕ) → k < i → (d : CandidateOf) → get_or coefficients k 0 ≡ number_of bound shift alpha x (get_or candidates k d)) → coefficients ≡ map (number_of bound shift alpha x) candidates
written candidates coefficients i bound shift alpha x long all so_far =
    let none : CandidateOf = record { price = 0; rows = [] } in
    let f = number_of bound shift alpha x in
    same_numbers coefficients (map f candidates) (omega (arith, length-map candidates f))
    (λ k lt. so_far k (omega arith) none ∙ sym (get_or-map f candidates k none 0 (omega arith)))

-- the code's numbers are the cut's
told : (candidates : List CandidateOf) (bound shift : ℕ) (alpha : ℤ) (limit : LimitOf) (x : Displaced) → bound ≡ bound_of limit x → shift ≡ cut_shift (load_number limit x) → alpha ≡ limit.alpha
    → map (number_of bound shift alpha x) candidates ≡ map (coefficient_of limit x) candidates
told candidates bound shift alpha limit x bound_is shift_is alpha_is = rw bound_is (rw shift_is (rw alpha_is refl))

few : (bound up : ℕ) → bound < 2 ^ 24 → min bound up < 2 ^ 24
few bound up small = omega arith

pub returns-clause-value : goal.returns-clause-value
returns-clause-value c l found =
    let x = at c.args.x.now in
    let number = c.unsigned_abs-number.result in
    let shift = c.cut_shift-shift.result in
    let f : FitsSigned w128 c.load.result = search rules in
    let same = same_limit c.args.network.now c.limits-limits.result.now c.args.limit c.index-limits-limit.result l c.limits-limits.ensures.value c.index-limits-limit.is found in
    let alpha_is : c.form.inside.alpha ≡ l.alpha = ap (λ (v : LimitOf). v.alpha) c.form.view_is ∙ ap (λ (v : LimitOf). v.alpha) same in
    let plain = simp to_z-of_z at c.unsigned_abs-number.ensures.value in
    let number_is : number ≡ load_number l x = plain ∙ ap unsigned_abs (c.load.ensures.value l found) in
    let shift_is : shift ≡ cut_shift (load_number l x) = c.cut_shift-shift.ensures.value ∙ ap cut_shift number_is in
    let bound_is : number / 2 ^ shift ≡ bound_of l x = ap₂ (λ (n s : ℕ). n / 2 ^ s) number_is shift_is in
    let listed = written c.candidates-candidates.result.now c.loop-i.coefficients c.loop-i.i (number / 2 ^ shift) shift c.form.inside.alpha x (omega (arith, ap length c.candidates-candidates.ensures.value)) (omega arith) c.loop-i.invariant in
    ap₂ (λ (cs : List ℕ) (b : ℕ). let v : CoverOf = record { coefficients = cs; bound = b } in v)
    (listed ∙ ap (λ (cs : List CandidateOf). map (number_of (number / 2 ^ shift) shift c.form.inside.alpha x) cs) c.candidates-candidates.ensures.value
    ∙ told c.args.network.now.candidates (number / 2 ^ shift) shift c.form.inside.alpha l x bound_is shift_is alpha_is)
    bound_is

pub returns-clause-each_small : goal.returns-clause-each_small
returns-clause-each_small c =
    let x = at c.args.x.now in
    let bound = c.unsigned_abs-number.result / 2 ^ c.cut_shift-shift.result in
    let listed = written c.candidates-candidates.result.now c.loop-i.coefficients c.loop-i.i bound c.cut_shift-shift.result c.form.inside.alpha x (omega (arith, ap length c.candidates-candidates.ensures.value)) (omega arith) c.loop-i.invariant in
    let all : All (λ n. n < 2 ^ 24) (map (number_of bound c.cut_shift-shift.result c.form.inside.alpha x) c.candidates-candidates.result.now) =
    All-map (λ n. n < 2 ^ 24) (number_of bound c.cut_shift-shift.result c.form.inside.alpha x) c.candidates-candidates.result.now
    (λ k d lt. few bound (rounded_up (unsigned_abs (c.form.inside.alpha *ℤ candidate_energy (get_or c.candidates-candidates.result.now k d) x)) (2 ^ c.cut_shift-shift.result)) c.cut_shift-shift.ensures.reached) in
    rw listed all
