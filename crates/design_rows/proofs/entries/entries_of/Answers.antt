use Rattle.std.proofs.Common.{◌∙◌, FitsSigned, of_z, rules, to_z, w64}
use Rattle.std.proofs.lemmas.Int.{to_z-of_z}
use Rattle.geo_model.specs.declared.network.Component.TheVariants as component
use Rattle.design_rows.specs.Unknowns.{unknown}
use Rattle.design_rows.proofs.EntrySteps.{entries-more, entries-none}
use Rattle.design_rows.proofs.entries.entries_of.Goals as goal

pub loop-column-init : goal.loop-column-init
loop-column-init c = c.new-entries.ensures.items ∙ entries-none c.args.terms.now

pub loop-column-preserved : goal.loop-column-preserved
loop-column-preserved c =
    let fits : FitsSigned w64 c.coefficient_at-size.result = search rules in
    entries-more c.args.unknowns.now c.args.terms.now c.loop-column.column (unknown 0 component.X) (to_z w64 (of_z w64 c.coefficient_at-size.result)) c.loop-column.entries.items
    c.push_entry.new.entries.items c.loop-column-test.true (to_z-of_z w64 c.coefficient_at-size.result fits ∙ c.coefficient_at-size.ensures) c.loop-column.invariant
    c.in_ok-push_entry.ensures
