use Rattle.table_rows.proofs.FieldTextFacts.{text-meaning, text-parts}
use Rattle.table_rows.proofs.field_text.text_of.Goals as goal

pub returns-clause-value : goal.returns-clause-value
returns-clause-value c = text-parts _ _ _ c.after_spaces.ensures c.before_spaces.ensures

pub returns-clause-meaning : goal.returns-clause-meaning
returns-clause-meaning c = text-meaning _ _ (text-parts _ _ _ c.after_spaces.ensures c.before_spaces.ensures)
