use Rattle.std.specs.Prelude.{ℕ, ℤ, List, ◌++◌, Bool, codes}
use Rattle.std.specs.Fmt.{decimal}
use Rattle.geo_model.specs.declared.answer.Counts.{Counts}
use Rattle.geo_model.specs.declared.limit.LimitKind.{LimitKind}
use Rattle.point_tables.specs.declared.fault.FaultKind.{FaultKind}
use Rattle.point_tables.specs.declared.fault.FaultKind.TheVariants as kind
use Rattle.point_tables.specs.declared.fault.TableName.{TableName}
use Rattle.point_tables.specs.declared.fault.TableName.TheVariants as table
use Rattle.point_tables.specs.PointTable as point
use Rattle.candidate_tables.specs.CandidateTable as candidate
use Rattle.limit_lines.specs.LimitText.{limit_text}
use Rattle.plan_report.specs.ReportText.{plan_text, undecided_text, open_text, checked_text}
use Rattle.plan_report.specs.RowsText.{rows_text}
use Rattle.log_check.specs.declared.fault.LogFault.{LogFault}
use Rattle.bound_log.specs.declared.log_kind.LogKind.{LogKind}
use Rattle.bound_log.specs.declared.log_kind.LogKind.TheVariants as log_kind
use Rattle.log_check.specs.declared.replaying.Replayed.{Replayed}
use Rattle.geoplan.specs.Tables.{TablesOf, RefusedOf}

-- The words of refusals, and the reports for the tables of a command. Each line ends with LF. This project's own.

-- the words were not accepted
abbrev pub words_text : List ℕ
words_text = codes "words not understood\n"

-- a file could not be read
abbrev pub cannot_read_text : List ℕ → List ℕ
cannot_read_text name = codes "cannot read " ++ (name ++ codes "\n")

-- a file is too long
abbrev pub too_long_text : List ℕ → List ℕ
too_long_text name = codes "too long " ++ (name ++ codes "\n")

-- the word for a table
unfoldable pub table_word : TableName → List ℕ
table_word table.Points = codes "points"
table_word table.Candidates = codes "candidates"
table_word table.Network = codes "network"

-- .. and that for a table of stations
abbrev pub stations_word : List ℕ
stations_word = codes "stations"

-- the word for a kind of fault
unfoldable pub kind_word : FaultKind → List ℕ
kind_word kind.Header = codes "Header"
kind_word kind.TooMany = codes "TooMany"
kind_word kind.Fields = codes "Fields"
kind_word kind.Utf8 = codes "Utf8"
kind_word kind.Name = codes "Name"
kind_word kind.Twice = codes "Twice"
kind_word kind.Number = codes "Number"
kind_word kind.Range = codes "Range"
kind_word kind.Missing = codes "Missing"
kind_word kind.Kind = codes "Kind"
kind_word kind.NoPoint = codes "NoPoint"
kind_word kind.Extra = codes "Extra"
kind_word kind.SamePoint = codes "SamePoint"
kind_word kind.NoPlane = codes "NoPlane"
kind_word kind.NoHeight = codes "NoHeight"
kind_word kind.Near = codes "Near"
kind_word kind.Far = codes "Far"
kind_word kind.TooManyUnknowns = codes "TooManyUnknowns"
kind_word kind.TooManyRows = codes "TooManyRows"

-- a table is refused: its word, the number of the record, the word of the kind
abbrev pub table_text : RefusedOf → List ℕ
table_text refused =
    codes "table," ++ (refused.table ++ (codes "," ++ (decimal refused.number ++ (codes "," ++ (refused.kind ++ codes "\n")))))

-- the word for a kind of fault of a log
unfoldable pub log_kind_word : LogKind → List ℕ
log_kind_word log_kind.Extra = codes "Extra"
log_kind_word log_kind.Form = codes "Form"
log_kind_word log_kind.Range = codes "Range"
log_kind_word log_kind.NotOpen = codes "NotOpen"
log_kind_word log_kind.Owner = codes "Owner"
log_kind_word log_kind.NotRefuted = codes "NotRefuted"
log_kind_word log_kind.CutHolds = codes "CutHolds"
log_kind_word log_kind.Short = codes "Short"

-- a log is refused for a fault: the number of the line, the kind
abbrev pub log_fault_text : LogFault → List ℕ
log_fault_text fault = codes "refused," ++ (decimal fault.line ++ (codes "," ++ (log_kind_word fault.kind ++ codes "\n")))

-- ---- the reports for two tables

-- .. of a plan of their candidates, with the counts of the lines of its log
abbrev pub tables_plan_text : TablesOf → List Bool → Counts → List ℕ
tables_plan_text tables plan counts =
    plan_text tables.points (candidate.candidate_names tables.candidates) tables.redundancy tables.network plan counts

-- .. of such a plan that is not decided, with the kind of its open limit, the step and the interval
abbrev pub tables_undecided_text : TablesOf → List Bool → Counts → LimitKind → ℕ → ℤ → ℤ → List ℕ
tables_undecided_text tables plan counts kind step lo hi =
    undecided_text (candidate.candidate_names tables.candidates) tables.network plan
    (open_text (limit_text (point.point_names tables.points) (candidate.candidate_names tables.candidates) kind) step lo hi) counts

-- .. of the unknowns and the rows of their network
abbrev pub tables_rows_text : TablesOf → List ℕ
tables_rows_text tables = rows_text (point.point_names tables.points) (candidate.candidate_names tables.candidates) tables.network

-- ---- a log that is accepted

-- its lines are counted, and this is its bound
abbrev pub replayed_text : Replayed → List ℕ
replayed_text done = checked_text done.counts done.bound
