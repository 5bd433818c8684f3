use Rattle.std.proofs.Common.{◌≡◌, Some, length}
use Rattle.table_rows.specs.Reading.{StandsBetween, rows_left, texts_left}
use Rattle.table_rows.proofs.rows.next_row.Given as goal

abbrev pub invariant-loop-row : goal.invariant-loop-row
invariant-loop-row l =
    StandsBetween (λ s. Some s.now) l.reader × (rows_left (λ s. Some s.now) l.initial.reader ≡ rows_left (λ s. Some s.now) l.reader)

abbrev pub decreases-loop-row : goal.decreases-loop-row
decreases-loop-row l = length (texts_left (λ s. Some s.now) l.reader)
