-- The rows of an accepted candidate are within the bounds of rows.
use Rattle.std.proofs.Common.{◌≡◌, ◌<◌, ◌^◌, List, [], ◌∷◌, length, map, arith}
use Rattle.std.specs.Prelude.{All, unsigned_abs}
use Rattle.std.specs.List.{AllByRecursion, IsDistinct}
use Rattle.coefficient_round.proofs.Bounds.{weight_for-size}
use Rattle.geo_model.specs.declared.network.Unknown.{Unknown}
use Rattle.geo_model.specs.Row.{IsRow, RowOf}
use Rattle.point_tables.specs.declared.record.PointRecord.{PointRecord}
use Rattle.table_columns.proofs.StoredFacts.{all-at}
use Rattle.candidate_tables.specs.declared.record.CandidateRecord.{CandidateRecord}
use Rattle.candidate_tables.specs.Accepted.{IsCandidateRecord}
use Rattle.design_rows.specs.Bounds.{AreRows}
use Rattle.design_rows.specs.Equations.{Equation, equations_of}
use Rattle.design_rows.specs.Rows.{IsNumbered, entries_of, row_of, rows_of}
use Rattle.design_rows.specs.Unknowns.{is_same}
use Rattle.design_rows.proofs.EntryFacts.{all-of, coefficient-size, entries-all, entries-ascend, entries-short, entries-sized}
use Rattle.design_rows.proofs.EquationFacts.{IsEquation, equations-bounded}
use Rattle.design_rows.proofs.UnknownFacts.{every-weaker, unknowns-differ}

-- the row of an equation
pub row-bounded : (unknowns : List Unknown) (equation : Equation) → IsDistinct is_same unknowns → IsEquation equation → IsRow (row_of unknowns equation)
row-bounded unknowns equation apart is =
    let weight = weight_for-size equation.deviation is.deviation.0 is.deviation.1 in
    let short = is.terms.short in
    let total = is.terms.total in
    record {
      sparse = record {
        ascending = entries-ascend unknowns equation.terms;
        nonzero = entries-all (λ entry. entry.1 ≡ _ → ⊥) unknowns equation.terms (λ entry of. of.nonzero);
      };
      short = omega (arith, entries-short equation.terms unknowns apart);
      each_size = entries-all (λ entry. unsigned_abs entry.1 < 2 ^ 21) unknowns equation.terms
          (λ entry of. rw of.is (coefficient-size (2 ^ 21) (omega arith) equation.terms of.unknown is.terms.apart is.terms.each));
      total = omega (arith, entries-sized equation.terms unknowns apart);
      weight_low = weight.least;
      weight_high = weight.most;
    }

row-columns : (unknowns : List Unknown) (equation : Equation) → All (λ entry. entry.0 < length unknowns) (entries_of unknowns equation.terms)
row-columns unknowns equation = entries-all (λ entry. entry.0 < length unknowns) unknowns equation.terms (λ entry of. of.below)

each-row : (P : RowOf → Type 0) (unknowns : List Unknown) (equations : List Equation) → AllByRecursion (λ equation. P (row_of unknowns equation)) equations
    → AllByRecursion P (map (row_of unknowns) equations)
each-row P unknowns [] a = tt
each-row P unknowns (equation ∷ equations) a = (a.0, each-row P unknowns equations a.1)

-- the unknowns of a candidate's table
pub numbered-apart : (points : List PointRecord) (unknowns : List Unknown) (candidate : CandidateRecord) → IsNumbered points unknowns candidate
    → IsDistinct is_same unknowns
numbered-apart points unknowns candidate numbered = rw numbered.numbered (unknowns-differ points numbered.candidates)

pub numbered-accepted : (points : List PointRecord) (unknowns : List Unknown) (candidate : CandidateRecord) → IsNumbered points unknowns candidate
    → IsCandidateRecord points candidate
numbered-accepted points unknowns candidate numbered =
    all-at (IsCandidateRecord points) numbered.candidates numbered.place candidate numbered.accepted.each numbered.member

pub rows-bounded : (points : List PointRecord) (unknowns : List Unknown) (candidate : CandidateRecord) → IsDistinct is_same unknowns → IsCandidateRecord points candidate
    → AreRows unknowns (rows_of points unknowns candidate)
unfolding rows_of
rows-bounded points unknowns candidate apart is =
    let equations = equations-bounded points candidate is in
    record {
      each = all-of IsRow (map (row_of unknowns) (equations_of points candidate))
          (each-row IsRow unknowns (equations_of points candidate)
          (every-weaker IsEquation (λ equation. IsRow (row_of unknowns equation)) (λ equation e. row-bounded unknowns equation apart e) (equations_of points candidate) equations));
      columns = all-of (λ row. All (λ entry. entry.0 < length unknowns) row.entries) (map (row_of unknowns) (equations_of points candidate))
          (each-row (λ row. All (λ entry. entry.0 < length unknowns) row.entries) unknowns (equations_of points candidate)
          (every-weaker IsEquation (λ equation. All (λ entry. entry.0 < length unknowns) (entries_of unknowns equation.terms)) (λ equation e. row-columns unknowns equation) (equations_of points candidate) equations));
    }
