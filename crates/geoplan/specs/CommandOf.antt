use Rattle.std.specs.Prelude.{◌≡◌, ◌+◌, ℕ, List, [], ◌∷◌, ◌++◌, drop, length, map, unwrap_or, Bool, true, false, not, ◌&&◌, ◌==◌, if◌then◌else◌, Option, Some, None, option_map, bytes_eq, codes}
use Rattle.std.specs.List.{list_all, list_any}
use Rattle.std.specs.Option.{option_and_then}
use Rattle.text_num.specs.Digits.{digits_of}
use Rattle.geoplan.specs.declared.file_kind.FileKind.{FileKind}
use Rattle.geoplan.specs.declared.file_kind.FileKind.TheVariants as kind
use Rattle.geoplan.specs.declared.verb.Verb.{Verb}
use Rattle.geoplan.specs.declared.verb.Verb.TheVariants as verb

-- The words of a command line, the program's name first, and what each command reads and writes. This project's own.

-- what a further word of a command stands for: the name of a file, the redundancy in thousandths, of 1 to 3 digits, or the
-- seed of a generated network, of 1 to 6 digits
pub data RoleOf : Type 0 where
  file_role : FileKind → RoleOf
  redundancy_role : RoleOf
  seed_role : RoleOf

-- what the further words of a command give: names of files, the redundancy, the seed, and the name of a table of stations, if
-- one is given. What none of them stands for is empty, or 0
pub record SourcesOf : Type 0 where
  pub points : List ℕ
  pub candidates : List ℕ
  pub redundancy : ℕ
  pub stations : Option (List ℕ)
  pub log : List ℕ
  pub new_log : List ℕ
  pub script : List ℕ
  pub seed : ℕ

-- a command: which one, and what its words give
pub record CommandOf : Type 0 where
  pub verb : Verb
  pub sources : SourcesOf

-- a file that is read: its name, and the most bytes that it may have
pub record FileOf : Type 0 where
  pub name : List ℕ
  pub most : ℕ

-- ---- the tables of commands

-- the command of a word
abbrev pub verb_of : List ℕ → Option Verb
verb_of word =
    if bytes_eq word (codes "plan") then Some verb.Plan
    else (if bytes_eq word (codes "rows") then Some verb.Rows
    else (if bytes_eq word (codes "check") then Some verb.Check
    else (if bytes_eq word (codes "trial") then Some verb.Trial
    else (if bytes_eq word (codes "gen") then Some verb.Gen
    else (if bytes_eq word (codes "bench") then Some verb.Bench
    else (if bytes_eq word (codes "migrate") then Some verb.Migrate
    else None))))))

-- what its further words stand for
abbrev pub roles_of : Verb → List RoleOf
roles_of verb.Plan = file_role kind.Points ∷ file_role kind.Candidates ∷ redundancy_role ∷ file_role kind.Log ∷ []
roles_of verb.Rows = file_role kind.Points ∷ file_role kind.Candidates ∷ []
roles_of verb.Check = file_role kind.Points ∷ file_role kind.Candidates ∷ redundancy_role ∷ file_role kind.Log ∷ []
roles_of verb.Trial = file_role kind.Points ∷ file_role kind.Candidates ∷ redundancy_role ∷ file_role kind.Script ∷ []
roles_of verb.Gen = seed_role ∷ file_role kind.Points ∷ file_role kind.Candidates ∷ []
roles_of verb.Bench = seed_role ∷ []
roles_of verb.Migrate = file_role kind.Points ∷ file_role kind.Candidates ∷ redundancy_role ∷ file_role kind.Log ∷ file_role kind.NewLog ∷ []

-- whether it takes the name of a table of stations behind its other words
abbrev pub takes_stations : Verb → Bool
takes_stations verb.Plan = true
takes_stations verb.Rows = false
takes_stations verb.Check = true
takes_stations verb.Trial = true
takes_stations verb.Gen = false
takes_stations verb.Bench = false
takes_stations verb.Migrate = true

-- what so many further words of it stand for: a table of stations may be named by one word more
abbrev pub roles_by : Verb → ℕ → List RoleOf
roles_by verb count =
    if takes_stations verb && (count == (length (roles_of verb) + 1)) then roles_of verb ++ file_role kind.Stations ∷ [] else roles_of verb

-- the files that it reads, in this order, where no table of stations is given
abbrev pub reads : Verb → List FileKind
reads verb.Plan = kind.Points ∷ kind.Candidates ∷ []
reads verb.Rows = kind.Points ∷ kind.Candidates ∷ []
reads verb.Check = kind.Points ∷ kind.Candidates ∷ kind.Log ∷ []
reads verb.Trial = kind.Points ∷ kind.Candidates ∷ kind.Script ∷ []
reads verb.Gen = []
reads verb.Bench = []
reads verb.Migrate = kind.Points ∷ kind.Candidates ∷ kind.Log ∷ []

-- the files that it may write
abbrev pub writes : Verb → List FileKind
writes verb.Plan = kind.Log ∷ []
writes verb.Rows = []
writes verb.Check = []
writes verb.Trial = []
writes verb.Gen = kind.Points ∷ kind.Candidates ∷ []
writes verb.Bench = []
writes verb.Migrate = kind.NewLog ∷ []

-- the most bytes of a file that is read; a new log is only written, and may be read as a log then
abbrev pub most_of : FileKind → ℕ
most_of kind.Points = 1048576
most_of kind.Candidates = 1048576
most_of kind.Stations = 1048576
most_of kind.Log = 268435456
most_of kind.NewLog = 268435456
most_of kind.Script = 1048576

-- ---- the words of a command line

-- whether a word after the program's name may stand: it isn't empty, and doesn't begin with `-`
abbrev pub is_plain : List ℕ → Bool
is_plain [] = false
is_plain (first ∷ rest) = not (first == 45)

-- whether names differ from one another
abbrev pub are_distinct : List (List ℕ) → Bool
are_distinct [] = true
are_distinct (name ∷ names) = not (list_any (bytes_eq name) names) && are_distinct names

-- the words that are names of files
abbrev pub names_among : List RoleOf → List (List ℕ) → List (List ℕ)
names_among (file_role kind ∷ roles) (word ∷ words) = word ∷ names_among roles words
names_among (redundancy_role ∷ roles) (word ∷ words) = names_among roles words
names_among (seed_role ∷ roles) (word ∷ words) = names_among roles words
names_among roles words = []

-- no word gives anything
abbrev pub no_sources : SourcesOf
no_sources = record { points = []; candidates = []; redundancy = 0; stations = None; log = []; new_log = []; script = []; seed = 0 }

-- .. and what one word gives besides
abbrev pub with_name : FileKind → List ℕ → SourcesOf → SourcesOf
with_name kind.Points name given = record given { points = name }
with_name kind.Candidates name given = record given { candidates = name }
with_name kind.Stations name given = record given { stations = Some name }
with_name kind.Log name given = record given { log = name }
with_name kind.NewLog name given = record given { new_log = name }
with_name kind.Script name given = record given { script = name }

abbrev pub with_redundancy : ℕ → SourcesOf → SourcesOf
with_redundancy redundancy given = record given { redundancy = redundancy }

abbrev pub with_seed : ℕ → SourcesOf → SourcesOf
with_seed seed given = record given { seed = seed }

abbrev pub with_word : RoleOf → List ℕ → SourcesOf → Option SourcesOf
with_word (file_role kind) word given = Some (with_name kind word given)
with_word redundancy_role word given = option_map (λ redundancy. with_redundancy redundancy given) (digits_of 3 word)
with_word seed_role word given = option_map (λ seed. with_seed seed given) (digits_of 6 word)

-- what words give that are as many as the roles, besides what was given before
abbrev pub given_by : List RoleOf → List (List ℕ) → SourcesOf → Option SourcesOf
given_by [] [] given = Some given
given_by [] (word ∷ words) given = None
given_by (role ∷ roles) [] given = None
given_by (role ∷ roles) (word ∷ words) given = option_and_then (λ now. given_by roles words now) (with_word role word given)

-- what the further words of a command give, where its files have different names
abbrev pub sources_from : List RoleOf → List (List ℕ) → Option SourcesOf
sources_from roles words = if are_distinct (names_among roles words) then given_by roles words no_sources else None

-- the command of a verb and its further words
abbrev pub command_by : List (List ℕ) → Verb → Option CommandOf
command_by words verb = option_map (λ sources. record { verb = verb; sources = sources }) (sources_from (roles_by verb (length words)) words)

-- the command of words that are all plain
abbrev pub command_from : List (List ℕ) → Option CommandOf
command_from [] = None
command_from (program ∷ []) = None
command_from (program ∷ word ∷ words) = option_and_then (command_by words) (verb_of word)

-- the command of a command line, where its words are accepted
unfoldable pub command_of : List (List ℕ) → Option CommandOf
command_of words = if list_all is_plain (drop 1 words) then command_from words else None

-- the words are those of a command, and P holds of it
abbrev pub OnCommand : List (List ℕ) → (CommandOf → Type 0) → Type 0
OnCommand words P = (command : CommandOf) × (command_of words ≡ Some command) × P command

-- ---- the files of a command

-- the name of a file
abbrev pub name_of : SourcesOf → FileKind → List ℕ
name_of sources kind.Points = sources.points
name_of sources kind.Candidates = sources.candidates
name_of sources kind.Stations = unwrap_or sources.stations []
name_of sources kind.Log = sources.log
name_of sources kind.NewLog = sources.new_log
name_of sources kind.Script = sources.script

-- .. with the most bytes that it may have
abbrev pub file_of : SourcesOf → FileKind → FileOf
file_of sources kind = record { name = name_of sources kind; most = most_of kind }

-- the table of stations, where one is given
abbrev pub stations_kind : Option (List ℕ) → List FileKind
stations_kind None = []
stations_kind (Some name) = kind.Stations ∷ []

-- .. is read behind the two tables
abbrev pub behind_tables : List FileKind → Option (List ℕ) → List FileKind
behind_tables [] stations = []
behind_tables (only ∷ []) stations = only ∷ []
behind_tables (points ∷ candidates ∷ later) stations = points ∷ candidates ∷ (stations_kind stations ++ later)

-- the kinds of the files that a command reads, in this order
abbrev pub kinds_read : CommandOf → List FileKind
kinds_read command = behind_tables (reads command.verb) command.sources.stations

-- the files that a command reads, in this order
abbrev pub files_read : CommandOf → List FileOf
files_read command = map (file_of command.sources) (kinds_read command)

-- the names that a command may write
abbrev pub names_written : CommandOf → List (List ℕ)
names_written command = map (name_of command.sources) (writes command.verb)

-- the names that a command line may write: those of its command, where its words are accepted
abbrev pub written_for : Option CommandOf → List (List ℕ)
written_for None = []
written_for (Some command) = names_written command

abbrev pub written_by : List (List ℕ) → List (List ℕ)
written_by words = written_for (command_of words)
