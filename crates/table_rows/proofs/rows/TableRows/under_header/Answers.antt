use Rattle.std.proofs.Common.{◌≡◌, true, false, Ok, ap, sym, ◌∙◌}
use Rattle.std.proofs.lemmas.Bool.{iff_false}
use Rattle.table_rows.proofs.HeaderFacts.{under-header, under-marks, under-none, under-other}
use Rattle.table_rows.proofs.rows.TableRows.under_header.Goals as goal
use Rattle.table_rows.proofs.rows.TableRows.under_header.Goals.{else-branch-via-then-branch+else-has_texts, else-branch-via-else-branch}

pub returns-then-has_second_mark : goal.returns-then-has_second_mark
returns-then-has_second_mark c = under-marks _ _ (c.has_second_mark.ensures.0 c.if-has_second_mark.true)

pub returns-then-has_texts : goal.returns-then-has_texts
returns-then-has_texts c =
    let read : c.next.result ≡ Ok true = c.in_ok-next.was ∙ ap Ok c.if-branch.true in
    under-header _ _ c.next.new.row c.next.new.self (iff_false c.has_second_mark.ensures c.if-has_second_mark.false)
    (sym c.open-rows.ensures ∙ c.next.ensures.found read) (sym c.has_texts.ensures ∙ c.if-has_texts.true)

pub returns : goal.returns
returns c =
    elim c.else-branch.branch [
      | else-branch-via-then-branch+else-has_texts w ↦
          let read : c.next.result ≡ Ok true = c.in_ok-next.was ∙ ap Ok w.if-branch.true in
          under-other _ _ c.next.new.row c.next.new.self (iff_false c.has_second_mark.ensures c.if-has_second_mark.false)
          (sym c.open-rows.ensures ∙ c.next.ensures.found read) (sym w.has_texts.ensures ∙ w.if-has_texts.false)
      | else-branch-via-else-branch w ↦
          let read : c.next.result ≡ Ok false = c.in_ok-next.was ∙ ap Ok w.if-branch.false in
          under-none _ _ (iff_false c.has_second_mark.ensures c.if-has_second_mark.false) (sym c.open-rows.ensures ∙ (c.next.ensures.ended read).0)
    ]
