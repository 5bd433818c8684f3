use Rattle.std.proofs.Common.{◌≡◌, Some, None, subst}
use Rattle.std.proofs.lemmas.Result.{err_from_is_err_and}
use Rattle.table_rows.specs.Faults.{first_broken}
use Rattle.table_columns.specs.Columns.{text_at}
use Rattle.table_columns.proofs.RecordFacts.{at-field}
use Rattle.candidate_tables.specs.CandidateTable.{foresight_rules, kind_at, kind_rules, known_point_rules}
use Rattle.candidate_tables.specs.Read.{IsForesight, IsKindOf, IsPlaceOf}
use Rattle.candidate_tables.proofs.RuleFacts.{broken-from, broken-kind, broken-to, broken-to2, ends-read, keeps-kind, keeps-point, kind-at}
use Rattle.candidate_tables.proofs.ends.read_ends.Goals as goal

pub returns-in_err-kind : goal.returns-in_err-kind
returns-in_err-kind c =
    let p = err_from_is_err_and c.from_residual.result c.from_residual.ensures.1 in
    rw (p.1, p.2)
    (broken-kind c.args.points.now c.args.row.now c.in_err-kind.field-0.0
    (at-field (λ t. first_broken (kind_rules t) ≡ Some c.in_err-kind.field-0.0) c.args.row.now 1 c.field.result.now c.field.ensures c.in_err-kind.ensures))

pub returns-in_err-from : goal.returns-in_err-from
returns-in_err-from c =
    let p = err_from_is_err_and c.from_residual-in_err-from.result c.from_residual-in_err-from.ensures.1 in
    rw (p.1, p.2)
    (broken-from c.args.points.now c.args.row.now c.in_err-from.field-0.0
    (keeps-kind c.args.row.now c.field.result.now c.field.ensures c.in_ok-kind.ensures.0)
    (at-field (λ t. first_broken (known_point_rules c.args.points.now t) ≡ Some c.in_err-from.field-0.0) c.args.row.now 2 c.field-2.result.now c.field-2.ensures c.in_err-from.ensures))

pub returns-in_err-to : goal.returns-in_err-to
returns-in_err-to c =
    let p = err_from_is_err_and c.from_residual-in_err-to.result c.from_residual-in_err-to.ensures.1 in
    rw (p.1, p.2)
    (broken-to c.args.points.now c.args.row.now c.in_err-to.field-0.0
    (keeps-kind c.args.row.now c.field.result.now c.field.ensures c.in_ok-kind.ensures.0)
    (keeps-point c.args.points.now c.args.row.now 2 c.field-2.result.now c.field-2.ensures c.in_ok-from.ensures.0)
    (at-field (λ t. first_broken (known_point_rules c.args.points.now t) ≡ Some c.in_err-to.field-0.0) c.args.row.now 3 c.field-3.result.now c.field-3.ensures c.in_err-to.ensures))

pub returns-in_err-to2 : goal.returns-in_err-to2
returns-in_err-to2 c =
    let p = err_from_is_err_and c.from_residual-in_err-to2.result c.from_residual-in_err-to2.ensures.1 in
    let is : c.in_ok-kind.kind ≡ kind_at c.args.row.now = kind-at c.args.row.now c.in_ok-kind.kind (at-field (λ t. IsKindOf t c.in_ok-kind.kind) c.args.row.now 1 c.field.result.now c.field.ensures c.in_ok-kind.ensures.1) in
    rw (p.1, p.2)
    (broken-to2 c.args.points.now c.args.row.now (Some c.in_err-to2.field-0.0)
    (keeps-kind c.args.row.now c.field.result.now c.field.ensures c.in_ok-kind.ensures.0)
    (keeps-point c.args.points.now c.args.row.now 2 c.field-2.result.now c.field-2.ensures c.in_ok-from.ensures.0)
    (keeps-point c.args.points.now c.args.row.now 3 c.field-3.result.now c.field-3.ensures c.in_ok-to.ensures.0)
    (subst (λ kind. first_broken (foresight_rules c.args.points.now kind (text_at c.args.row.now 4)) ≡ Some c.in_err-to2.field-0.0) is
    (at-field (λ t. first_broken (foresight_rules c.args.points.now c.in_ok-kind.kind t) ≡ Some c.in_err-to2.field-0.0) c.args.row.now 4 c.field-4.result.now c.field-4.ensures c.in_err-to2.ensures)))

pub returns : goal.returns
returns c =
    let kind = at-field (λ t. IsKindOf t c.in_ok-kind.kind) c.args.row.now 1 c.field.result.now c.field.ensures c.in_ok-kind.ensures.1 in
    let is : c.in_ok-kind.kind ≡ kind_at c.args.row.now = kind-at c.args.row.now c.in_ok-kind.kind kind in
    let from = at-field (λ t. IsPlaceOf c.args.points.now t c.in_ok-from.from) c.args.row.now 2 c.field-2.result.now c.field-2.ensures c.in_ok-from.ensures.1 in
    let to = at-field (λ t. IsPlaceOf c.args.points.now t c.in_ok-to.to) c.args.row.now 3 c.field-3.result.now c.field-3.ensures c.in_ok-to.ensures.1 in
    let to2 = at-field (λ t. IsForesight c.args.points.now c.in_ok-kind.kind t c.in_ok-to2.to2) c.args.row.now 4 c.field-4.result.now c.field-4.ensures c.in_ok-to2.ensures.1 in (
      broken-to2 c.args.points.now c.args.row.now None
          (keeps-kind c.args.row.now c.field.result.now c.field.ensures c.in_ok-kind.ensures.0)
          (keeps-point c.args.points.now c.args.row.now 2 c.field-2.result.now c.field-2.ensures c.in_ok-from.ensures.0)
          (keeps-point c.args.points.now c.args.row.now 3 c.field-3.result.now c.field-3.ensures c.in_ok-to.ensures.0)
          (subst (λ kind. first_broken (foresight_rules c.args.points.now kind (text_at c.args.row.now 4)) ≡ None) is
          (at-field (λ t. first_broken (foresight_rules c.args.points.now c.in_ok-kind.kind t) ≡ None) c.args.row.now 4 c.field-4.result.now c.field-4.ensures c.in_ok-to2.ensures.0)),
      ends-read c.args.points.now c.args.row.now (record { kind = c.in_ok-kind.kind; from = c.in_ok-from.from; to = c.in_ok-to.to; to2 = c.in_ok-to2.to2 }) is from to to2,
    )
