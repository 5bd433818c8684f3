-- Which rule of a record is broken first, and the candidate that a record gives.
use Rattle.std.proofs.Common.{◌≡◌, ◌∙◌, ℕ, List, Option, Some, None, refl, sym, ap, subst}
use Rattle.table_rows.specs.Faults.{first_broken}
use Rattle.table_rows.proofs.FaultFacts.{first_broken-left, first_broken-right}
use Rattle.point_tables.specs.declared.fault.FaultKind.{FaultKind}
use Rattle.point_tables.specs.declared.record.PointRecord.{PointRecord}
use Rattle.table_columns.specs.Columns.{name_at}
use Rattle.candidate_tables.specs.declared.ends.Ends.{Ends}
use Rattle.candidate_tables.specs.declared.figures.Figures.{Figures}
use Rattle.candidate_tables.specs.declared.kind.Kind.{Kind}
use Rattle.candidate_tables.specs.CandidateTable.{candidate_record_of, candidate_column_rules, end_rules, figure_rules, place_rules}
use Rattle.candidate_tables.specs.Read.{AreColumns, AreFigures, IsEnds}

-- ---- the columns after the name, one part after the other

-- the rules on what a record names, by what was read
same-places : (points : List PointRecord) (row : List (List ℕ)) (ends : Ends) → IsEnds points row ends
    → place_rules points row ends.kind ends.from ends.to ends.to2
    ≡ place_rules points row (candidate_record_of points row).kind (candidate_record_of points row).from (candidate_record_of points row).to (candidate_record_of points row).to2
unfolding candidate_record_of
same-places points row ends is = rw (is.kind, is.from, is.to, is.to2) refl

same-figures : (points : List PointRecord) (row : List (List ℕ)) (ends : Ends) → IsEnds points row ends → figure_rules ends.kind row ≡ figure_rules (candidate_record_of points row).kind row
unfolding candidate_record_of
same-figures points row ends is = ap (λ (kind : Kind). figure_rules kind row) is.kind

module _ (points : List PointRecord) (row : List (List ℕ)) where
  pub columns-ends : (broken : FaultKind) → first_broken (end_rules points row) ≡ Some broken → first_broken (candidate_column_rules points row (candidate_record_of points row)) ≡ Some broken
  columns-ends broken e = first_broken-left _ _ broken e

  pub columns-places : (ends : Ends) (broken : FaultKind) → IsEnds points row ends → first_broken (end_rules points row) ≡ None
      → first_broken (place_rules points row ends.kind ends.from ends.to ends.to2) ≡ Some broken → first_broken (candidate_column_rules points row (candidate_record_of points row)) ≡ Some broken
  columns-places ends broken is e f =
      first_broken-right _ _ e ∙ first_broken-left _ _ broken (sym (ap first_broken (same-places points row ends is)) ∙ f)

  pub columns-figures : (ends : Ends) (found : Option FaultKind) → IsEnds points row ends → first_broken (end_rules points row) ≡ None
      → first_broken (place_rules points row ends.kind ends.from ends.to ends.to2) ≡ None → first_broken (figure_rules ends.kind row) ≡ found
      → first_broken (candidate_column_rules points row (candidate_record_of points row)) ≡ found
  columns-figures ends found is e f g =
      first_broken-right _ _ e ∙ first_broken-right _ _ (sym (ap first_broken (same-places points row ends is)) ∙ f)
      ∙ sym (ap first_broken (same-figures points row ends is)) ∙ g

-- the columns as they were read
pub columns-read : (points : List PointRecord) (row : List (List ℕ)) (ends : Ends) (figures : Figures) → IsEnds points row ends → AreFigures ends.kind row figures
    → AreColumns points row (ends, figures)
columns-read points row ends figures is are = record {
  ends = is;
  figures = subst (λ kind. AreFigures kind row figures) is.kind are;
}

-- ---- the candidate

pub read-candidate : (points : List PointRecord) (row : List (List ℕ)) (name : List ℕ) (ends : Ends) (figures : Figures) → name ≡ name_at row → AreColumns points row (ends, figures)
    → record { name = name; kind = ends.kind; from = ends.from; to = ends.to; to2 = ends.to2; sd = figures.sd; sdh = figures.sdh; price = figures.price } ≡ candidate_record_of points row
unfolding candidate_record_of
read-candidate points row name ends figures same are =
    rw (same, are.ends.kind, are.ends.from, are.ends.to, are.ends.to2, are.figures.sd, are.figures.sdh, are.figures.price) refl
