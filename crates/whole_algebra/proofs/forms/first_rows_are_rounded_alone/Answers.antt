use Rattle.whole_algebra.proofs.FirstRows.{lower_over-first_rows, upper_over-first_rows}
use Rattle.whole_algebra.proofs.forms.first_rows_are_rounded_alone.Goals as goal

pub returns-clause-lower : goal.returns-clause-lower
returns-clause-lower c = lower_over-first_rows

pub returns-clause-upper : goal.returns-clause-upper
returns-clause-upper c = upper_over-first_rows
