use Rattle.std.proofs.Common.{◌≡◌, ◌∙◌, Some, None, sym}
use Rattle.std.proofs.lemmas.Result.{err_from_is_err_and}
use Rattle.table_rows.specs.Faults.{first_broken}
use Rattle.point_tables.specs.PointTable.{coordinate_rules, part_rules}
use Rattle.point_tables.specs.Read.{IsCoordinateOf, IsPartOf}
use Rattle.table_columns.proofs.RecordFacts.{at-field}
use Rattle.point_tables.proofs.ColumnFacts.{broken-height, broken-missing, broken-plane, broken-x, broken-y, broken-z, keeps-coordinate, keeps-part, missing-none, missing-some}
use Rattle.point_tables.proofs.columns.read_columns.Goals as goal

pub returns-in_err-x : goal.returns-in_err-x
returns-in_err-x c =
    let p = err_from_is_err_and c.from_residual.result c.from_residual.ensures.1 in
    rw (p.1, p.2)
    (broken-x c.args.row.now c.in_err-x.field-0.0
    (at-field (λ t. first_broken (coordinate_rules t) ≡ Some c.in_err-x.field-0.0) c.args.row.now 1 c.field.result.now c.field.ensures c.in_err-x.ensures))

pub returns-in_err-y : goal.returns-in_err-y
returns-in_err-y c =
    let p = err_from_is_err_and c.from_residual-in_err-y.result c.from_residual-in_err-y.ensures.1 in
    rw (p.1, p.2)
    (broken-y c.args.row.now c.in_err-y.field-0.0
    (keeps-coordinate c.args.row.now 1 c.field.result.now c.field.ensures c.in_ok-x.ensures.0)
    (at-field (λ t. first_broken (coordinate_rules t) ≡ Some c.in_err-y.field-0.0) c.args.row.now 2 c.field-2.result.now c.field-2.ensures c.in_err-y.ensures))

pub returns-in_err-z : goal.returns-in_err-z
returns-in_err-z c =
    let p = err_from_is_err_and c.from_residual-in_err-z.result c.from_residual-in_err-z.ensures.1 in
    rw (p.1, p.2)
    (broken-z c.args.row.now c.in_err-z.field-0.0
    (keeps-coordinate c.args.row.now 1 c.field.result.now c.field.ensures c.in_ok-x.ensures.0)
    (keeps-coordinate c.args.row.now 2 c.field-2.result.now c.field-2.ensures c.in_ok-y.ensures.0)
    (at-field (λ t. first_broken (coordinate_rules t) ≡ Some c.in_err-z.field-0.0) c.args.row.now 3 c.field-3.result.now c.field-3.ensures c.in_err-z.ensures))

pub returns-in_err-plane : goal.returns-in_err-plane
returns-in_err-plane c =
    let p = err_from_is_err_and c.from_residual-in_err-plane.result c.from_residual-in_err-plane.ensures.1 in
    rw (p.1, p.2)
    (broken-plane c.args.row.now c.in_err-plane.field-0.0
    (keeps-coordinate c.args.row.now 1 c.field.result.now c.field.ensures c.in_ok-x.ensures.0)
    (keeps-coordinate c.args.row.now 2 c.field-2.result.now c.field-2.ensures c.in_ok-y.ensures.0)
    (keeps-coordinate c.args.row.now 3 c.field-3.result.now c.field-3.ensures c.in_ok-z.ensures.0)
    (at-field (λ t. first_broken (part_rules t) ≡ Some c.in_err-plane.field-0.0) c.args.row.now 4 c.field-4.result.now c.field-4.ensures c.in_err-plane.ensures))

pub returns-in_err-height : goal.returns-in_err-height
returns-in_err-height c =
    let p = err_from_is_err_and c.from_residual-in_err-height.result c.from_residual-in_err-height.ensures.1 in
    rw (p.1, p.2)
    (broken-height c.args.row.now c.in_err-height.field-0.0
    (keeps-coordinate c.args.row.now 1 c.field.result.now c.field.ensures c.in_ok-x.ensures.0)
    (keeps-coordinate c.args.row.now 2 c.field-2.result.now c.field-2.ensures c.in_ok-y.ensures.0)
    (keeps-coordinate c.args.row.now 3 c.field-3.result.now c.field-3.ensures c.in_ok-z.ensures.0)
    (keeps-part c.args.row.now 4 c.field-4.result.now c.field-4.ensures c.in_ok-plane.ensures.0)
    (at-field (λ t. first_broken (part_rules t) ≡ Some c.in_err-height.field-0.0) c.args.row.now 5 c.field-5.result.now c.field-5.ensures c.in_err-height.ensures))

pub returns-then-has_missing : goal.returns-then-has_missing
returns-then-has_missing c =
    let x = at-field (λ t. IsCoordinateOf t c.in_ok-x.x) c.args.row.now 1 c.field.result.now c.field.ensures c.in_ok-x.ensures.1 in
    let y = at-field (λ t. IsCoordinateOf t c.in_ok-y.y) c.args.row.now 2 c.field-2.result.now c.field-2.ensures c.in_ok-y.ensures.1 in
    let z = at-field (λ t. IsCoordinateOf t c.in_ok-z.z) c.args.row.now 3 c.field-3.result.now c.field-3.ensures c.in_ok-z.ensures.1 in
    let plane = at-field (λ t. IsPartOf t c.in_ok-plane.plane) c.args.row.now 4 c.field-4.result.now c.field-4.ensures c.in_ok-plane.ensures.1 in
    let height = at-field (λ t. IsPartOf t c.in_ok-height.height) c.args.row.now 5 c.field-5.result.now c.field-5.ensures c.in_ok-height.ensures.1 in
    broken-missing c.args.row.now _
    (keeps-coordinate c.args.row.now 1 c.field.result.now c.field.ensures c.in_ok-x.ensures.0)
    (keeps-coordinate c.args.row.now 2 c.field-2.result.now c.field-2.ensures c.in_ok-y.ensures.0)
    (keeps-coordinate c.args.row.now 3 c.field-3.result.now c.field-3.ensures c.in_ok-z.ensures.0)
    (keeps-part c.args.row.now 4 c.field-4.result.now c.field-4.ensures c.in_ok-plane.ensures.0)
    (keeps-part c.args.row.now 5 c.field-5.result.now c.field-5.ensures c.in_ok-height.ensures.0)
    (missing-some c.args.row.now (record { x = c.in_ok-x.x; y = c.in_ok-y.y; z = c.in_ok-z.z; plane = c.in_ok-plane.plane; height = c.in_ok-height.height })
    x y z plane height (sym c.has_missing.ensures ∙ c.if-has_missing.true))

pub returns : goal.returns
returns c =
    let x = at-field (λ t. IsCoordinateOf t c.in_ok-x.x) c.args.row.now 1 c.field.result.now c.field.ensures c.in_ok-x.ensures.1 in
    let y = at-field (λ t. IsCoordinateOf t c.in_ok-y.y) c.args.row.now 2 c.field-2.result.now c.field-2.ensures c.in_ok-y.ensures.1 in
    let z = at-field (λ t. IsCoordinateOf t c.in_ok-z.z) c.args.row.now 3 c.field-3.result.now c.field-3.ensures c.in_ok-z.ensures.1 in
    let plane = at-field (λ t. IsPartOf t c.in_ok-plane.plane) c.args.row.now 4 c.field-4.result.now c.field-4.ensures c.in_ok-plane.ensures.1 in
    let height = at-field (λ t. IsPartOf t c.in_ok-height.height) c.args.row.now 5 c.field-5.result.now c.field-5.ensures c.in_ok-height.ensures.1 in
    let complete = sym c.has_missing.ensures ∙ c.if-has_missing.false in (
      broken-missing c.args.row.now None
          (keeps-coordinate c.args.row.now 1 c.field.result.now c.field.ensures c.in_ok-x.ensures.0)
          (keeps-coordinate c.args.row.now 2 c.field-2.result.now c.field-2.ensures c.in_ok-y.ensures.0)
          (keeps-coordinate c.args.row.now 3 c.field-3.result.now c.field-3.ensures c.in_ok-z.ensures.0)
          (keeps-part c.args.row.now 4 c.field-4.result.now c.field-4.ensures c.in_ok-plane.ensures.0)
          (keeps-part c.args.row.now 5 c.field-5.result.now c.field-5.ensures c.in_ok-height.ensures.0)
          (missing-none c.args.row.now (record { x = c.in_ok-x.x; y = c.in_ok-y.y; z = c.in_ok-z.z; plane = c.in_ok-plane.plane; height = c.in_ok-height.height })
          x y z plane height complete),
      record { x = x; y = y; z = z; plane = plane; height = height; complete = complete },
    )
