use Rattle.std.proofs.Common.{◌∙◌, Some, None, sym}
use Rattle.table_columns.proofs.StoredFacts.{finds-stored}
use Rattle.table_columns.proofs.named_records.NamedRecords.find.Goals as goal

pub returns-in-Some : goal.returns-in-Some
returns-in-Some g c =
    let finds =
    finds-stored g.R.NamedRecord.name_of 65535 c.self.inside.records.entries c.args.self.now c.args.name.now (Some c.in-Some.place) c.self.invariant c.get_index_of.ensures.unique
    c.self.view_is (sym c.in-Some.is ∙ c.get_index_of.ensures.index) in
    record { place = finds.place; found = finds.found; none = finds.none }

pub returns-in-None : goal.returns-in-None
returns-in-None g c =
    let finds =
    finds-stored g.R.NamedRecord.name_of 65535 c.self.inside.records.entries c.args.self.now c.args.name.now None c.self.invariant c.get_index_of.ensures.unique
    c.self.view_is (sym c.in-None.is ∙ c.get_index_of.ensures.index) in
    record { place = finds.place; found = finds.found; none = finds.none }
