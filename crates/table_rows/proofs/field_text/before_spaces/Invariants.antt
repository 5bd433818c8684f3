use Rattle.std.proofs.Common.{◌≡◌, ◌≤◌, take, length}
use Rattle.table_rows.specs.FieldText.{without_back_spaces}
use Rattle.table_rows.proofs.field_text.before_spaces.Given as goal

abbrev pub invariant-loop-end : goal.invariant-loop-end
invariant-loop-end l = (l.end ≤ length l.field) × (without_back_spaces (take l.end l.field) ≡ without_back_spaces l.field)

abbrev pub decreases-loop-end : goal.decreases-loop-end
decreases-loop-end l = l.end
