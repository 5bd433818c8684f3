use Rattle.std.proofs.Common.{arith, length, drop, ◌≡◌, ◌-◌, sym, ◌∙◌}
use Rattle.std.proofs.lemmas.List.{length-drop, take_all}
use Rattle.table_rows.specs.FieldText.{without_front_spaces}
use Rattle.table_rows.proofs.FieldTextFacts.{front-end, front-plain, front-space}
use Rattle.table_rows.proofs.field_text.after_spaces.Goals as goal
use Rattle.table_rows.proofs.field_text.after_spaces.Goals.{then-loop-start-test+else-field-start-eq32, else-loop-start-test}

pub loop-start-preserved : goal.loop-start-preserved
loop-start-preserved c =
    let within = c.loop-start-test.true in
    (omega arith, front-space c.args.field.now c.loop-start.start within c.if-field-start-eq32.true ∙ c.loop-start.invariant.1)

pub returns : goal.returns
returns c =
    let all = take_all (length c.args.field.now - c.loop-start.start) (drop c.loop-start.start c.args.field.now) (omega (arith, length-drop c.loop-start.start c.args.field.now)) in
    let stays : without_front_spaces (drop c.loop-start.start c.args.field.now) ≡ drop c.loop-start.start c.args.field.now =
    elim c.loop-start-test.branch [
      | then-loop-start-test+else-field-start-eq32 w ↦ front-plain c.args.field.now c.loop-start.start w.loop-start-test.true w.if-field-start-eq32.false
      | else-loop-start-test w ↦ front-end c.args.field.now c.loop-start.start w.loop-start-test.false
    ] in
    all ∙ sym stays ∙ c.loop-start.invariant.1
