use Rattle.std.proofs.Common.{◌∙◌}
use Rattle.indexmap.proofs.CallerLemmas.{insert_entry-new}
use Rattle.table_columns.proofs.StoredFacts.{stored-more}
use Rattle.table_columns.proofs.named_records.NamedRecords.push.Goals as goal

pub invariant_of-self-2 : goal.invariant_of-self-2
invariant_of-self-2 g c =
    (stored-more g.R.NamedRecord.name_of 65535 c.self.inside.records.entries c.insert.new.self.entries c.args.self.now c.in_ok-name.name c.args.added c.self.invariant
    c.self.view_is c.requires.few c.requires.other (c.in_ok-name.ensures.items ∙ c.name.ensures)
    (λ none. c.in_ok-insert.ensures.entries ∙ insert_entry-new _ c.self.inside.records c.in_ok-name.name c.args.added none)).0

pub returns-clause-ok : goal.returns-clause-ok
returns-clause-ok g c =
    (stored-more g.R.NamedRecord.name_of 65535 c.self.inside.records.entries c.insert.new.self.entries c.args.self.now c.in_ok-name.name c.args.added c.self.invariant
    c.self.view_is c.requires.few c.requires.other (c.in_ok-name.ensures.items ∙ c.name.ensures)
    (λ none. c.in_ok-insert.ensures.entries ∙ insert_entry-new _ c.self.inside.records c.in_ok-name.name c.args.added none)).1
