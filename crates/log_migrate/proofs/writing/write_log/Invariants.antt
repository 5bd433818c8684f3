use Rattle.std.proofs.Common.{List, length}
use Rattle.bound_log.specs.declared.log_line.LogLine.{LogLine}
use Rattle.log_migrate.specs.NewLog.{AreLines, WrittenSo}
use Rattle.log_migrate.proofs.writing.write_log.Given as goal

-- the lines so far are written
abbrev pub invariant-lines : goal.invariant-lines
invariant-lines l = (nodes : List LogLine) → AreLines nodes l.initial.lines → WrittenSo nodes l.lines l.made

abbrev pub decreases-lines : goal.decreases-lines
decreases-lines l = length l.lines
