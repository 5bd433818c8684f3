use Rattle.limit_forms.proofs.GridRows.{lower_first_rows, upper_first_rows}
use Rattle.limit_forms.proofs.laws.first_grid_rows_depend_on_their_entries.Goals as goal

pub returns-clause-lower : goal.returns-clause-lower
returns-clause-lower c = lower_first_rows

pub returns-clause-upper : goal.returns-clause-upper
returns-clause-upper c = upper_first_rows
