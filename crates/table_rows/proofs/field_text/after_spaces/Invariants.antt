use Rattle.std.proofs.Common.{◌≡◌, ◌≤◌, ◌-◌, drop, length}
use Rattle.table_rows.specs.FieldText.{without_front_spaces}
use Rattle.table_rows.proofs.field_text.after_spaces.Given as goal

abbrev pub invariant-loop-start : goal.invariant-loop-start
invariant-loop-start l = (l.start ≤ length l.field) × (without_front_spaces (drop l.start l.field) ≡ without_front_spaces l.field)

abbrev pub decreases-loop-start : goal.decreases-loop-start
decreases-loop-start l = length l.field - l.start
