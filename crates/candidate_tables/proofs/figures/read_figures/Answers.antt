use Rattle.std.proofs.Common.{◌≡◌, Some, None}
use Rattle.std.proofs.lemmas.Result.{err_from_is_err_and}
use Rattle.table_rows.specs.Faults.{first_broken}
use Rattle.table_columns.proofs.RecordFacts.{at-field}
use Rattle.candidate_tables.specs.CandidateTable.{deviation_of, deviation_rules, height_deviation_of, height_rules, written_price, price_rules}
use Rattle.candidate_tables.proofs.RuleFacts.{broken-price, broken-sd, broken-sdh, keeps-deviation, keeps-height}
use Rattle.candidate_tables.proofs.figures.read_figures.Goals as goal

pub returns-in_err-sd : goal.returns-in_err-sd
returns-in_err-sd c =
    let p = err_from_is_err_and c.from_residual.result c.from_residual.ensures.1 in
    rw (p.1, p.2)
    (broken-sd c.args.kind c.args.row.now c.in_err-sd.field-0.0
    (at-field (λ t. first_broken (deviation_rules t) ≡ Some c.in_err-sd.field-0.0) c.args.row.now 5 c.field.result.now c.field.ensures c.in_err-sd.ensures))

pub returns-in_err-sdh : goal.returns-in_err-sdh
returns-in_err-sdh c =
    let p = err_from_is_err_and c.from_residual-in_err-sdh.result c.from_residual-in_err-sdh.ensures.1 in
    rw (p.1, p.2)
    (broken-sdh c.args.kind c.args.row.now c.in_err-sdh.field-0.0
    (keeps-deviation c.args.row.now c.field.result.now c.field.ensures c.in_ok-sd.ensures.0)
    (at-field (λ t. first_broken (height_rules c.args.kind t) ≡ Some c.in_err-sdh.field-0.0) c.args.row.now 6 c.field-2.result.now c.field-2.ensures c.in_err-sdh.ensures))

pub returns-in_err-price : goal.returns-in_err-price
returns-in_err-price c =
    let p = err_from_is_err_and c.from_residual-in_err-price.result c.from_residual-in_err-price.ensures.1 in
    rw (p.1, p.2)
    (broken-price c.args.kind c.args.row.now (Some c.in_err-price.field-0.0)
    (keeps-deviation c.args.row.now c.field.result.now c.field.ensures c.in_ok-sd.ensures.0)
    (keeps-height c.args.kind c.args.row.now c.field-2.result.now c.field-2.ensures c.in_ok-sdh.ensures.0)
    (at-field (λ t. first_broken (price_rules t) ≡ Some c.in_err-price.field-0.0) c.args.row.now 7 c.field-3.result.now c.field-3.ensures c.in_err-price.ensures))

pub returns : goal.returns
returns c = (
  broken-price c.args.kind c.args.row.now None
      (keeps-deviation c.args.row.now c.field.result.now c.field.ensures c.in_ok-sd.ensures.0)
      (keeps-height c.args.kind c.args.row.now c.field-2.result.now c.field-2.ensures c.in_ok-sdh.ensures.0)
      (at-field (λ t. first_broken (price_rules t) ≡ None) c.args.row.now 7 c.field-3.result.now c.field-3.ensures c.in_ok-price.ensures.0),
  record {
    sd = at-field (λ t. c.in_ok-sd.sd ≡ deviation_of t) c.args.row.now 5 c.field.result.now c.field.ensures c.in_ok-sd.ensures.1;
    sdh = at-field (λ t. c.in_ok-sdh.sdh ≡ height_deviation_of c.args.kind t) c.args.row.now 6 c.field-2.result.now c.field-2.ensures c.in_ok-sdh.ensures.1;
    price = at-field (λ t. c.in_ok-price.price ≡ written_price t) c.args.row.now 7 c.field-3.result.now c.field-3.ensures c.in_ok-price.ensures.1;
  },
)
