-- The equations of an accepted candidate are within their bounds.
use Rattle.std.proofs.Common.{◌≡◌, ◌≢◌, ◌∙◌, ◌+◌, ◌≤◌, ◌^◌, ℕ, ℤ, true, false, List, Option, Some, None, refl, ap, arith, eqb, inl, inr}
use Rattle.std.specs.Prelude.{◌-ℤ◌, neg_ℤ, is_some, unsigned_abs, unwrap_or}
use Rattle.std.specs.List.{AllByRecursion, IsDistinct}
use Rattle.std.proofs.lemmas.Bool.Decides.{nat_tests}
use Rattle.std.proofs.lemmas.Int.{ints}
use Rattle.coefficient_round.specs.Coefficient.{radian, coefficient_scale}
use Rattle.coefficient_round.proofs.Bounds.{direction_coefficient-size}
use Rattle.coefficient_round.proofs.Ratio.{distance_coefficient-size}
use Rattle.geo_model.specs.declared.network.Component.{Component}
use Rattle.geo_model.specs.declared.network.Component.TheVariants as component
use Rattle.point_tables.specs.declared.record.PointRecord.{PointRecord}
use Rattle.candidate_tables.specs.declared.kind.Kind.{Kind}
use Rattle.candidate_tables.specs.declared.kind.Kind.TheVariants as kind
use Rattle.candidate_tables.specs.declared.record.CandidateRecord.{CandidateRecord}
use Rattle.candidate_tables.specs.Accepted.{IsBetween, IsCandidateRecord, IsForesightOf, IsLineInBounds, IsSquareWithin}
use Rattle.candidate_tables.specs.Kinds.{line_from, rules_of}
use Rattle.candidate_tables.specs.Lines.{length_squared}
use Rattle.candidate_tables.proofs.PlaceFacts.{squared-is}
use Rattle.design_rows.specs.Bounds.{AreTerms}
use Rattle.design_rows.specs.Equations.{Equation, angle_terms, q_coefficient, p_coefficient, cosine, difference_terms, direction_terms, distance_terms, equations_by, equations_of, sine, x_part, y_part}
use Rattle.design_rows.specs.Unknowns.{is_same_component}
use Rattle.design_rows.proofs.UnknownFacts.{and-right}

-- the bounds of an equation
pub record IsEquation (equation : Equation) : Type 0 where
  pub terms : AreTerms equation.terms
  pub deviation : IsBetween equation.deviation

-- ---- sizes

pub cosine-size : (points : List PointRecord) (a b : ℕ) → unsigned_abs (cosine points a b) ≤ coefficient_scale
cosine-size points a b = distance_coefficient-size (x_part points a b) (x_part points a b) (y_part points a b)

pub sine-size : (points : List PointRecord) (a b : ℕ) → unsigned_abs (sine points a b) ≤ coefficient_scale
sine-size points a b = distance_coefficient-size (y_part points a b) (x_part points a b) (y_part points a b)

pub q_coefficient-size : (points : List PointRecord) (a b : ℕ) → 10 ^ 8 ≤ length_squared points a b → unsigned_abs (q_coefficient points a b) ≤ radian
q_coefficient-size points a b least =
    direction_coefficient-size (x_part points a b) (x_part points a b) (y_part points a b) (inl refl) (rw (squared-is points a b) least)

pub p_coefficient-size : (points : List PointRecord) (a b : ℕ) → 10 ^ 8 ≤ length_squared points a b → unsigned_abs (p_coefficient points a b) ≤ radian
p_coefficient-size points a b least =
    direction_coefficient-size (y_part points a b) (x_part points a b) (y_part points a b) (inr refl) (rw (squared-is points a b) least)

-- ---- terms that differ

other : (a b : ℕ) → a ≢ b → eqb a b ≡ false
other a b differ = grind (arith, nat_tests)

negated : (z : ℤ) (n : ℕ) → unsigned_abs z ≤ n → unsigned_abs (neg_ℤ z) ≤ n
negated z n size = omega (arith, ints)

difference-size : (y z : ℤ) (n : ℕ) → unsigned_abs y ≤ n → unsigned_abs z ≤ n → unsigned_abs (y -ℤ z) ≤ n + n
difference-size y z n first second = omega (arith, ints)

pub difference-terms : (part : Component) (a b : ℕ) → a ≢ b → AreTerms (difference_terms part a b)
unfolding IsDistinct
difference-terms part a b differ = record {
  apart = ((and-right (is_same_component part part) (eqb a b) (other a b differ), tt), (tt, tt));
  short = omega arith;
  each = (omega arith, (omega arith, tt));
  total = omega arith;
}

pub distance-terms : (points : List PointRecord) (a b : ℕ) → a ≢ b → AreTerms (distance_terms points a b)
unfolding IsDistinct
distance-terms points a b differ =
    let ab = other a b differ in
    let c = cosine-size points a b in
    let s = sine-size points a b in
    let d = negated (cosine points a b) coefficient_scale c in
    let t = negated (sine points a b) coefficient_scale s in
    record {
      apart = ((refl, (ab, (refl, tt))), ((refl, (ab, tt)), ((refl, tt), (tt, tt))));
      short = omega arith;
      each = (omega arith, (omega arith, (omega arith, (omega arith, tt))));
      total = omega arith;
    }

pub direction-terms : (points : List PointRecord) (a b : ℕ) → a ≢ b → 10 ^ 8 ≤ length_squared points a b → AreTerms (direction_terms points a b)
unfolding IsDistinct
direction-terms points a b differ least =
    let ab = other a b differ in
    let p = p_coefficient-size points a b least in
    let q = q_coefficient-size points a b least in
    let r = negated (p_coefficient points a b) radian p in
    let s = negated (q_coefficient points a b) radian q in
    record {
      apart = ((refl, (ab, (refl, (refl, tt)))), ((refl, (ab, (refl, tt))), ((refl, (refl, tt)), ((refl, tt), (tt, tt)))));
      short = omega arith;
      each = (omega arith, (omega arith, (omega arith, (omega arith, (omega arith, tt)))));
      total = omega arith;
    }

pub angle-terms : (points : List PointRecord) (a b c : ℕ) → a ≢ b → a ≢ c → b ≢ c → 10 ^ 8 ≤ length_squared points a b → 10 ^ 8 ≤ length_squared points a c
    → AreTerms (angle_terms points a b c)
unfolding IsDistinct
angle-terms points a b c differ differ_too differ_three least least_too =
    let ab = other a b differ in
    let ac = other a c differ_too in
    let bc = other b c differ_three in
    let p = p_coefficient-size points a b least in
    let q = q_coefficient-size points a b least in
    let r = p_coefficient-size points a c least_too in
    let s = q_coefficient-size points a c least_too in
    let u = difference-size (p_coefficient points a c) (p_coefficient points a b) radian r p in
    let v = difference-size (q_coefficient points a b) (q_coefficient points a c) radian q s in
    let w = negated (q_coefficient points a b) radian q in
    let z = negated (p_coefficient points a c) radian r in
    record {
      apart = (
        (refl, (ab, (refl, (ac, (refl, tt))))),
        (
          (refl, (ab, (refl, (ac, tt)))),
          (
            (refl, (bc, (refl, tt))),
            (
              (refl, (bc, tt)),
              (
                (refl, tt),
                (tt, tt),
              ),
            ),
          ),
        ),
      );
      short = omega arith;
      each = (omega arith, (omega arith, (omega arith, (omega arith, (omega arith, (omega arith, tt))))));
      total = omega arith;
    }

-- ---- the equations of a candidate

given : {A : Type 0} (o : Option A) (d : A) → is_some o ≡ true → o ≡ Some (unwrap_or o d)
given None d e = absurd (cc e)
given (Some x) d e = refl

pub has-foresight : (points : List PointRecord) (candidate : CandidateRecord) → IsCandidateRecord points candidate → candidate.kind ≡ kind.Angle
    → is_some candidate.to2 ≡ true
unfolding rules_of
has-foresight points candidate is angle = is.has_to2 ∙ ap (λ (k : Kind). (rules_of k).has_foresight) angle

pub foresight : (points : List PointRecord) (candidate : CandidateRecord) → IsCandidateRecord points candidate → candidate.kind ≡ kind.Angle
    → IsForesightOf points candidate.kind candidate.from candidate.to (unwrap_or candidate.to2 0)
foresight points candidate is angle = is.to2 (unwrap_or candidate.to2 0) (given candidate.to2 0 (has-foresight points candidate is angle))

pub has-height : (points : List PointRecord) (candidate : CandidateRecord) → IsCandidateRecord points candidate → candidate.kind ≡ kind.Vector
    → is_some candidate.sdh ≡ true
unfolding rules_of
has-height points candidate is vector = is.has_sdh ∙ ap (λ (k : Kind). (rules_of k).has_height_deviation) vector

pub height : (points : List PointRecord) (candidate : CandidateRecord) → IsCandidateRecord points candidate → candidate.kind ≡ kind.Vector
    → IsBetween (unwrap_or candidate.sdh 0)
height points candidate is vector = is.sdh (unwrap_or candidate.sdh 0) (given candidate.sdh 0 (has-height points candidate is vector))

-- the bounds of the lines of a kind
distance-line : (k : Kind) → k ≡ kind.Distance → (rules_of k).line ≡ line_from (10 ^ 6)
unfolding rules_of
distance-line k e = ap (λ (j : Kind). (rules_of j).line) e

direction-line : (k : Kind) → k ≡ kind.Direction → (rules_of k).line ≡ line_from (10 ^ 8)
unfolding rules_of
direction-line k e = ap (λ (j : Kind). (rules_of j).line) e

angle-line : (k : Kind) → k ≡ kind.Angle → (rules_of k).line ≡ line_from (10 ^ 8)
unfolding rules_of
angle-line k e = ap (λ (j : Kind). (rules_of j).line) e

-- a line of a kind with bounds is within them
line-within : (points : List PointRecord) (k : Kind) (from to least : ℕ) → (rules_of k).line ≡ line_from least → IsLineInBounds points k from to
    → IsSquareWithin (length_squared points from to) (record { least = least; greatest = 10 ^ 16 })
line-within points k from to least e line = line (record { least = least; greatest = 10 ^ 16 }) e

-- the line to the target of an accepted candidate
pub distance-within : (points : List PointRecord) (candidate : CandidateRecord) → IsCandidateRecord points candidate → candidate.kind ≡ kind.Distance
    → IsSquareWithin (length_squared points candidate.from candidate.to) (record { least = 10 ^ 6; greatest = 10 ^ 16 })
distance-within points candidate is e = line-within points candidate.kind candidate.from candidate.to (10 ^ 6) (distance-line candidate.kind e) is.line

pub direction-within : (points : List PointRecord) (candidate : CandidateRecord) → IsCandidateRecord points candidate → candidate.kind ≡ kind.Direction
    → IsSquareWithin (length_squared points candidate.from candidate.to) (record { least = 10 ^ 8; greatest = 10 ^ 16 })
direction-within points candidate is e = line-within points candidate.kind candidate.from candidate.to (10 ^ 8) (direction-line candidate.kind e) is.line

pub angle-within : (points : List PointRecord) (candidate : CandidateRecord) → IsCandidateRecord points candidate → candidate.kind ≡ kind.Angle
    → IsSquareWithin (length_squared points candidate.from candidate.to) (record { least = 10 ^ 8; greatest = 10 ^ 16 })
angle-within points candidate is e = line-within points candidate.kind candidate.from candidate.to (10 ^ 8) (angle-line candidate.kind e) is.line

-- and the line to an angle's foresight
pub foresight-within : (points : List PointRecord) (candidate : CandidateRecord) → IsCandidateRecord points candidate → candidate.kind ≡ kind.Angle
    → IsSquareWithin (length_squared points candidate.from (unwrap_or candidate.to2 0)) (record { least = 10 ^ 8; greatest = 10 ^ 16 })
foresight-within points candidate is e =
    line-within points candidate.kind candidate.from (unwrap_or candidate.to2 0) (10 ^ 8) (angle-line candidate.kind e) (foresight points candidate is e).line

equations-by : (points : List PointRecord) (candidate : CandidateRecord) → IsCandidateRecord points candidate → (k : Kind) → candidate.kind ≡ k
    → AllByRecursion IsEquation (equations_by k points candidate)
equations-by points candidate is kind.Distance e = (record { terms = distance-terms points candidate.from candidate.to is.other; deviation = is.sd }, tt)
equations-by points candidate is kind.Direction e = (
  record {
    terms = direction-terms points candidate.from candidate.to is.other (direction-within points candidate is e).least;
    deviation = is.sd;
  },
  tt,
)
equations-by points candidate is kind.Angle e =
    let c = foresight points candidate is e in (
      record {
        terms = angle-terms points candidate.from candidate.to (unwrap_or candidate.to2 0) is.other c.other_from c.other_to
            (angle-within points candidate is e).least (foresight-within points candidate is e).least;
        deviation = is.sd;
      },
      tt,
    )
equations-by points candidate is kind.Level e = (record { terms = difference-terms component.Z candidate.from candidate.to is.other; deviation = is.sd }, tt)
equations-by points candidate is kind.Vector e = (
  record { terms = difference-terms component.X candidate.from candidate.to is.other; deviation = is.sd },
  (
    record { terms = difference-terms component.Y candidate.from candidate.to is.other; deviation = is.sd },
    (
      record { terms = difference-terms component.Z candidate.from candidate.to is.other; deviation = height points candidate is e },
      tt,
    ),
  ),
)

pub equations-bounded : (points : List PointRecord) (candidate : CandidateRecord) → IsCandidateRecord points candidate → AllByRecursion IsEquation (equations_of points candidate)
unfolding equations_of
equations-bounded points candidate is = equations-by points candidate is candidate.kind refl
