use Rattle.std.specs.Prelude.{ℕ}
use Rattle.geoplan.specs.declared.status.Status.{Status}
use Rattle.geoplan.specs.declared.status.Status.TheVariants as status

-- The exit status of each status, and what a failed put makes of it. Only private clauses and proofs cite it. This
-- project's own.

-- the exit status of the program
abbrev pub code_of : Status → ℕ
code_of status.Found = 0
code_of status.NoPlan = 1
code_of status.WordsRefused = 2
code_of status.TableRefused = 3
code_of status.Undecided = 4
code_of status.ReadFault = 5
code_of status.WriteFault = 6
code_of status.NoMemory = 7
code_of status.LogRefused = 8
code_of status.FileTooLong = 9
code_of status.TooManyCuts = 15

-- the status where a text could not be printed
abbrev pub after_failed_put : Status → Status
after_failed_put status.Found = status.WriteFault
after_failed_put status.NoPlan = status.WriteFault
after_failed_put status.WordsRefused = status.WordsRefused
after_failed_put status.TableRefused = status.TableRefused
after_failed_put status.Undecided = status.WriteFault
after_failed_put status.ReadFault = status.ReadFault
after_failed_put status.WriteFault = status.WriteFault
after_failed_put status.NoMemory = status.NoMemory
after_failed_put status.LogRefused = status.LogRefused
after_failed_put status.FileTooLong = status.FileTooLong
after_failed_put status.TooManyCuts = status.TooManyCuts
