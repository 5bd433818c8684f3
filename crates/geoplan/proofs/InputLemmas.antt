-- What the files of a command give, case by case.
use Rattle.std.proofs.Common.{◌≡◌, ◌<◌, ◌≤◌, ℕ, Bool, true, false, if◌then◌else◌, List, [], ◌∷◌, ◌++◌, length, refl, sym, ap, ◌∙◌, arith}
use Rattle.std.specs.Prelude.{nat_lt, map}
use Rattle.std.specs.List.{AllByRecursion}
use Rattle.std.proofs.lemmas.Bool.Decides.{nat_tests}
use Rattle.std.proofs.lemmas.List.{map-append}
use Rattle.shelf_io.specs.Files.{Files, bytes_of}
use Rattle.geoplan.specs.declared.file_kind.FileKind.TheVariants as kind
use Rattle.geoplan.specs.CommandOf.{CommandOf, FileOf, file_of, stations_kind, behind_tables, kinds_read, files_read}
use Rattle.geoplan.specs.Input.{InputOf, too_long_input, built_input, IsFileWithin, too_long_or, judged_input, bytes_held, input_of}
use Rattle.geoplan.specs.Loading.{ReadsTables, more_kinds, more_read, tables_held, tables_read}
use Rattle.geoplan.specs.Tables.{TablesOf}

is_long : (most n : ℕ) → most < n → nat_lt most n ≡ true
is_long most n long = grind (arith, nat_tests)

fits : (most n : ℕ) → n ≤ most → nat_lt most n ≡ false
fits most n short = grind (arith, nat_tests)

short_by : (most n : ℕ) → nat_lt most n ≡ false → n ≤ most
short_by most n is = grind (arith, nat_tests)

-- ---- the first file that is too long

module _ (files : Files) where
  -- files that are not too long give what is given then
  pub too_long_or-within : (read : List FileOf) (given : InputOf) → AllByRecursion (IsFileWithin files) read → too_long_or files read given ≡ given
  too_long_or-within [] given all = refl
  too_long_or-within (file ∷ later) given all = rw (fits file.most (length (bytes_of files file.name)) all.0) (too_long_or-within later given all.1)

  -- one after such files is the first
  pub too_long_or-first : (earlier : List FileOf) (file : FileOf) (later : List FileOf) (given : InputOf) → AllByRecursion (IsFileWithin files) earlier → file.most < length (bytes_of files file.name) → too_long_or files (earlier ++ file ∷ later) given ≡ too_long_input file.name
  too_long_or-first [] file later given all long = rw (is_long file.most (length (bytes_of files file.name)) long) refl
  too_long_or-first (one ∷ earlier) file later given all long = rw (fits one.most (length (bytes_of files one.name)) all.0) (too_long_or-first earlier file later given all.1 long)

  -- where tables are built, no file is too long
  pub record IsShort (read : List FileOf) (given : InputOf) (tables : TablesOf) : Type 0 where
    pub all : AllByRecursion (IsFileWithin files) read
    pub rest : given ≡ built_input tables

  one_shorter : (file : FileOf) (given : InputOf) (tables : TablesOf) (long : Bool) → nat_lt file.most (length (bytes_of files file.name)) ≡ long → (if long then too_long_input file.name else given) ≡ built_input tables → IsFileWithin files file × (given ≡ built_input tables)
  one_shorter file given tables true is built = absurd (cc)
  one_shorter file given tables false is built = (short_by file.most (length (bytes_of files file.name)) is, built)

  pub all_short : (read : List FileOf) (given : InputOf) (tables : TablesOf) → too_long_or files read given ≡ built_input tables → IsShort read given tables
  all_short [] given tables built = record { all = tt; rest = built }
  all_short (file ∷ later) given tables built =
      let one = one_shorter file (too_long_or files later given) tables (nat_lt file.most (length (bytes_of files file.name))) refl built in
      let more = all_short later given tables one.1 in
      record { all = (one.0, more.all); rest = more.rest }

-- ---- the files of a command

-- the tables come first
pub files_read-tables : (command : CommandOf) → ReadsTables command.verb → files_read command ≡ tables_read command ++ more_read command
files_read-tables command tables =
    ap (λ kinds. map (file_of command.sources) (behind_tables kinds command.sources.stations)) tables.first
    ∙ ap (λ files. file_of command.sources kind.Points ∷ file_of command.sources kind.Candidates ∷ files)
    (map-append (file_of command.sources) (stations_kind command.sources.stations) (more_kinds command.verb))

module _ (command : CommandOf) (files : Files) where
  -- a file after such that aren't too long is
  pub input_of-long : (earlier : List FileOf) (file : FileOf) (later : List FileOf) → files_read command ≡ earlier ++ file ∷ later → AllByRecursion (IsFileWithin files) earlier → file.most < length (bytes_of files file.name) → input_of command files ≡ too_long_input file.name
  unfolding input_of
  input_of-long earlier file later order all long =
      ap (λ read. too_long_or files read (judged_input command.sources.redundancy (bytes_held command files) (kinds_read command))) order
      ∙ too_long_or-first files earlier file later _ all long

  -- none is
  pub input_of-short : ReadsTables command.verb → AllByRecursion (IsFileWithin files) (files_read command) → input_of command files ≡ tables_held command.sources files
  unfolding input_of
  input_of-short tables all = too_long_or-within files (files_read command) _ all ∙ tables.judged command.sources.redundancy (bytes_held command files) command.sources.stations

  -- what accepted tables say of their files
  pub record IsAccepted (tables : TablesOf) : Type 0 where
    pub short : AllByRecursion (IsFileWithin files) (files_read command)
    pub judged : tables_held command.sources files ≡ built_input tables

  pub accepted : ReadsTables command.verb → (tables : TablesOf) → input_of command files ≡ built_input tables → IsAccepted tables
  unfolding input_of
  accepted two tables built =
      let is = all_short files (files_read command) (judged_input command.sources.redundancy (bytes_held command files) (kinds_read command)) tables built in
      record { short = is.all; judged = sym (two.judged command.sources.redundancy (bytes_held command files) command.sources.stations) ∙ is.rest }
