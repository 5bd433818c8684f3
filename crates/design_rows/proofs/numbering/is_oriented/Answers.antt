use Rattle.std.proofs.Common.{◌∙◌, sym}
use Rattle.table_columns.proofs.Places.{any-at}
use Rattle.design_rows.specs.Unknowns.{turns_with}
use Rattle.design_rows.proofs.NumberingFacts.{any-more}
use Rattle.design_rows.proofs.numbering.is_oriented.Goals as goal

pub returns-then-turns_with : goal.returns-then-turns_with
returns-then-turns_with c =
    sym (any-at (turns_with c.args.place) c.args.candidates.now c.loop-k.k c.get.result.now c.get.ensures (sym c.turns_with.ensures ∙ c.if-turns_with.true))

pub loop-k-preserved : goal.loop-k-preserved
loop-k-preserved c =
    any-more (turns_with c.args.place) c.args.candidates.now c.loop-k.k c.get.result.now c.get.ensures c.loop-k.invariant
    (sym c.turns_with.ensures ∙ c.if-turns_with.false)
