use Rattle.std.proofs.Common.{◌≡◌, ◌∙◌, sym, ap, true, false}
use Rattle.std.specs.Prelude.{is_some}
use Rattle.table_columns.specs.Names.{is_among}
use Rattle.table_columns.proofs.NewNameFacts.{name-new, name-none, name-twice}
use Rattle.table_columns.proofs.PlaceFacts.{among-is}
use Rattle.table_columns.proofs.kinds.NameKinds.new_name.Goals as goal

pub returns-then-is_some : goal.returns-then-is_some
returns-then-is_some g c = λ names found.
    let there : is_among c.args.bytes.now names ≡ true = among-is c.args.bytes.now names ∙ ap is_some (sym found) ∙ sym c.is_some.ensures ∙ c.if-is_some.true in
    name-twice c.args.self c.args.bytes.now names c.in-Some.ensures.0 there

pub returns-in-None : goal.returns-in-None
returns-in-None g c = λ names found. name-none c.args.self c.args.bytes.now names c.in-None.ensures

pub returns-else-is_some : goal.returns-else-is_some
returns-else-is_some g c = λ names found.
    let other : is_among c.args.bytes.now names ≡ false = among-is c.args.bytes.now names ∙ ap is_some (sym found) ∙ sym c.is_some.ensures ∙ c.if-is_some.false in
    (name-new c.args.self c.args.bytes.now names c.in-Some.ensures.0 other, record { same = c.in-Some.ensures.1; is_one = c.in-Some.ensures.0; other = other })
