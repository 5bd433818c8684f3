-- The rows of a candidate by its kind.
use Rattle.std.proofs.Common.{◌≡◌, ◌∙◌, ℕ, List, [], ◌∷◌, ◌++◌, Option, Some, length, map, refl, sym, ap}
use Rattle.std.specs.Prelude.{unwrap_or}
use Rattle.geo_model.specs.declared.network.Component.TheVariants as component
use Rattle.geo_model.specs.declared.network.Unknown.{Unknown}
use Rattle.geo_model.specs.Row.{RowOf}
use Rattle.point_tables.specs.declared.record.PointRecord.{PointRecord}
use Rattle.candidate_tables.specs.declared.kind.Kind.{Kind}
use Rattle.candidate_tables.specs.declared.kind.Kind.TheVariants as kind
use Rattle.candidate_tables.specs.declared.record.CandidateRecord.{CandidateRecord}
use Rattle.candidate_tables.specs.Kinds.{rules_of}
use Rattle.design_rows.specs.Equations.{angle_terms, difference_terms, direction_terms, distance_terms, equations_by, equations_of, observed}
use Rattle.design_rows.specs.Rows.{row_of, rows_of}

-- three more elements
pub three : {A : Type 0} (start first second third : List A) (a b c : A) → start ≡ [] → first ≡ start ++ a ∷ [] → second ≡ first ++ b ∷ [] → third ≡ second ++ c ∷ []
    → third ≡ a ∷ b ∷ c ∷ []
three start first second third a b c none one two all = all ∙ rw (two, one, none) refl

pub given : (o : Option ℕ) (x : ℕ) → o ≡ Some x → x ≡ unwrap_or o 0
given o x e = rw e refl

module _ (points : List PointRecord) (unknowns : List Unknown) (candidate : CandidateRecord) where
  rows-by : (k : Kind) → candidate.kind ≡ k → rows_of points unknowns candidate ≡ map (row_of unknowns) (equations_by k points candidate)
  unfolding rows_of equations_of
  rows-by k e = ap (λ (j : Kind). map (row_of unknowns) (equations_by j points candidate)) e

  pub distance-rows : (row : RowOf) → candidate.kind ≡ kind.Distance → row ≡ row_of unknowns (observed (distance_terms points candidate.from candidate.to) candidate.sd)
      → (row ∷ []) ≡ rows_of points unknowns candidate
  distance-rows row e is = ap (λ (r : RowOf). r ∷ []) is ∙ sym (rows-by kind.Distance e)

  pub direction-rows : (row : RowOf) → candidate.kind ≡ kind.Direction → row ≡ row_of unknowns (observed (direction_terms points candidate.from candidate.to) candidate.sd)
      → (row ∷ []) ≡ rows_of points unknowns candidate
  direction-rows row e is = ap (λ (r : RowOf). r ∷ []) is ∙ sym (rows-by kind.Direction e)

  pub angle-rows : (row : RowOf) (foresight : ℕ) → candidate.kind ≡ kind.Angle → candidate.to2 ≡ Some foresight
      → row ≡ row_of unknowns (observed (angle_terms points candidate.from candidate.to foresight) candidate.sd)
      → (row ∷ []) ≡ rows_of points unknowns candidate
  angle-rows row foresight e third is =
      ap (λ (r : RowOf). r ∷ []) (is ∙ ap (λ (c : ℕ). row_of unknowns (observed (angle_terms points candidate.from candidate.to c) candidate.sd)) (given candidate.to2 foresight third))
      ∙ sym (rows-by kind.Angle e)

  pub level-rows : (row : RowOf) → candidate.kind ≡ kind.Level → row ≡ row_of unknowns (observed (difference_terms component.Z candidate.from candidate.to) candidate.sd)
      → (row ∷ []) ≡ rows_of points unknowns candidate
  level-rows row e is = ap (λ (r : RowOf). r ∷ []) is ∙ sym (rows-by kind.Level e)

  pub vector-rows : (x y z : RowOf) (height : ℕ) → candidate.kind ≡ kind.Vector → candidate.sdh ≡ Some height
      → x ≡ row_of unknowns (observed (difference_terms component.X candidate.from candidate.to) candidate.sd)
      → y ≡ row_of unknowns (observed (difference_terms component.Y candidate.from candidate.to) candidate.sd)
      → z ≡ row_of unknowns (observed (difference_terms component.Z candidate.from candidate.to) height)
      → (x ∷ y ∷ z ∷ []) ≡ rows_of points unknowns candidate
  vector-rows x y z height e third xs ys zs =
      let last = zs ∙ ap (λ (d : ℕ). row_of unknowns (observed (difference_terms component.Z candidate.from candidate.to) d)) (given candidate.sdh height third) in
      rw (xs, ys, last) (sym (rows-by kind.Vector e))

-- ---- how many there are

equations-counted : (points : List PointRecord) (unknowns : List Unknown) (candidate : CandidateRecord) (k : Kind)
    → length (map (row_of unknowns) (equations_by k points candidate)) ≡ (rules_of k).rows
unfolding rules_of
equations-counted points unknowns candidate kind.Distance = refl
equations-counted points unknowns candidate kind.Direction = refl
equations-counted points unknowns candidate kind.Angle = refl
equations-counted points unknowns candidate kind.Level = refl
equations-counted points unknowns candidate kind.Vector = refl

pub rows-counted : (points : List PointRecord) (unknowns : List Unknown) (candidate : CandidateRecord) → length (rows_of points unknowns candidate) ≡ (rules_of candidate.kind).rows
unfolding rows_of equations_of
rows-counted points unknowns candidate = equations-counted points unknowns candidate candidate.kind
