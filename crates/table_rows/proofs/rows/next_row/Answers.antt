use Rattle.std.proofs.Common.{rules, ap, ◌≡◌, ◌∙◌, Ok, true, false}
use Rattle.table_rows.specs.Rows.{is_blank}
use Rattle.table_rows.proofs.RowsFacts.{blanks-kept, blanks-none, blanks-passed}
use Rattle.table_rows.proofs.rows.next_row.Goals as goal

pub returns-then-not-is_blank-clause-found : goal.returns-then-not-is_blank-clause-found
returns-then-not-is_blank-clause-found c = λ _.
    let read : c.read_row.result ≡ Ok true = c.in_ok-read_row.was ∙ ap Ok c.if-branch.true in
    let shown : is_blank c.read_row.new.row ≡ false = search rules in
    c.loop-row.invariant.1 ∙ blanks-kept _ _ _ shown (c.read_row.ensures.found read)

pub loop-row-preserved : goal.loop-row-preserved
loop-row-preserved c =
    let read : c.read_row.result ≡ Ok true = c.in_ok-read_row.was ∙ ap Ok c.if-branch.true in
    let blank : is_blank c.read_row.new.row ≡ true = search rules in
    (c.read_row.ensures.stands read, c.loop-row.invariant.1 ∙ blanks-passed _ _ _ blank (c.read_row.ensures.found read))

pub returns-clause-ended : goal.returns-clause-ended
returns-clause-ended c = λ _.
    let read : c.read_row.result ≡ Ok false = c.in_ok-read_row.was ∙ ap Ok c.if-branch.false in
    c.loop-row.invariant.1 ∙ blanks-none _ (c.read_row.ensures.ended read)
