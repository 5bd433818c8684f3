use Rattle.std.proofs.Common.{arith, take, ◌≡◌, sym, ◌∙◌}
use Rattle.table_rows.specs.FieldText.{without_back_spaces}
use Rattle.table_rows.proofs.FieldTextFacts.{back-end, back-plain, back-space}
use Rattle.table_rows.proofs.field_text.before_spaces.Goals as goal
use Rattle.table_rows.proofs.field_text.before_spaces.Goals.{then-loop-end-test+else-field-end-eq32, else-loop-end-test}

pub loop-end-preserved : goal.loop-end-preserved
loop-end-preserved c =
    (omega arith, back-space c.args.field.now c.loop-end.end c.loop-end-test.true c.loop-end.invariant.0 c.if-field-end-eq32.true ∙ c.loop-end.invariant.1)

pub returns : goal.returns
returns c =
    let stays : without_back_spaces (take c.loop-end.end c.args.field.now) ≡ take c.loop-end.end c.args.field.now =
    elim c.loop-end-test.branch [
      | then-loop-end-test+else-field-end-eq32 w ↦ back-plain c.args.field.now c.loop-end.end w.loop-end-test.true c.loop-end.invariant.0 w.if-field-end-eq32.false
      | else-loop-end-test w ↦ back-end c.args.field.now c.loop-end.end (omega arith)
    ] in
    sym stays ∙ c.loop-end.invariant.1
