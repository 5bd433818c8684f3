-- The lines of a script, and what each asks for. This project's own.
use Rattle.std.specs.Prelude.{ℕ, ◌-◌, ◌<◌, ◌==◌, Bool, true, false, not, if◌then◌else◌, List, length, take, drop, get_or, map, filter, codes}
use Rattle.std.specs.Option.{ForSome}
use Rattle.std.specs.Str.{bytes_eq}
use Rattle.table_columns.specs.Names.{place_of}
use Rattle.lent_parts.specs.Pieces.{TextLineOf}
use Rattle.trial.specs.declared.command.SessionCommand.{SessionCommand}
use Rattle.trial.specs.declared.command.SessionCommand.TheVariants.{Change, Undo, Show, Unknown}

-- a text without a CR at its end
abbrev pub without_cr : List ℕ → List ℕ
without_cr text = if get_or text (length text - 1) 0 == 13 then take (length text - 1) text else text

-- a line without its end: LF, or CR and LF
abbrev pub line_without_end : TextLineOf → List ℕ
line_without_end line = if line.ended then without_cr line.text else line.text

-- the lines of a script without those that are empty
abbrev pub bodies : List TextLineOf → List (List ℕ)
bodies lines = filter (λ body. not (length body == 0)) (map line_without_end lines)

abbrev pub begins_with : List ℕ → List ℕ → Bool
begins_with word line = bytes_eq (take (length word) line) word

-- what a line asks for, of candidates with these names; a name is all that follows the space
unfoldable pub session_command : List (List ℕ) → List ℕ → SessionCommand
session_command names line =
    if begins_with (codes "take ") line then Change (place_of (drop 5 line) names) true
    else if begins_with (codes "drop ") line then Change (place_of (drop 5 line) names) false
    else if bytes_eq line (codes "undo") then Undo
    else if bytes_eq line (codes "show") then Show
    else Unknown

-- a command names one of so many candidates, or none
abbrev pub IsInside : ℕ → SessionCommand → Type 0
IsInside candidates (Change candidate chosen) = ForSome candidate (λ i. i < candidates)
IsInside candidates Undo = Unit {0}
IsInside candidates Show = Unit {0}
IsInside candidates Unknown = Unit {0}
