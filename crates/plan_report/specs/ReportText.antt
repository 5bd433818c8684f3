-- The reports of a search and of a replay. Each line ends with LF. This project's own.
use Rattle.std.specs.Prelude.{ℕ, ◌+◌, ℤ, pos, List, [], ◌∷◌, ◌++◌, Bool, false, if◌then◌else◌, codes, get_or}
use Rattle.std.specs.Fmt.{decimal}
use Rattle.text_num.specs.DecimalText.{decimal_text}
use Rattle.text_num.specs.Whole.{whole_text}
use Rattle.geo_model.specs.Row.{RowOf}
use Rattle.geo_model.specs.Candidate.{CandidateOf}
use Rattle.geo_model.specs.Network.{NetworkOf}
use Rattle.geo_model.specs.Prices.{price_of}
use Rattle.geo_model.specs.declared.answer.Counts.{Counts}
use Rattle.point_tables.specs.declared.part.Part.{Part}
use Rattle.point_tables.specs.declared.part.Part.TheVariants as part
use Rattle.point_tables.specs.declared.record.PointRecord.{PointRecord}
use Rattle.bound_log.specs.declared.bound.Bound.{Bound}
use Rattle.bound_log.specs.declared.bound.Bound.TheVariants.{NoPlan, AtLeast}
use Rattle.plan_report.specs.declared.length_kind.LengthKind.{LengthKind}
use Rattle.plan_report.specs.declared.length_kind.LengthKind.TheVariants as kind_of_length
use Rattle.plan_report.specs.RowsText.{numbered}
use Rattle.plan_report.specs.Shown.{length_of, redundancy_of}

-- ---- a plan, none, or one that is not decided

-- the line of a chosen candidate
abbrev pub take_text : List ℕ → List ℕ
take_text name = codes "take," ++ (name ++ codes "\n")

-- a line for each chosen candidate, in their order
abbrev pub takes_text : List (List ℕ) → List Bool → List ℕ
takes_text [] plan = []
takes_text (name ∷ names) [] = []
takes_text (name ∷ names) (chosen ∷ plan) =
    (if chosen then take_text name else []) ++ takes_text names plan

-- the line of a price, after a word and a space
abbrev pub price_text : List ℕ → ℕ → List ℕ
price_text word price = word ++ (decimal price ++ codes "\n")

-- a count, after a comma
abbrev pub count_text : ℕ → List ℕ
count_text count = codes "," ++ decimal count

-- the numbers of lines of each kind
unfoldable pub counts_text : Counts → List ℕ
counts_text counts =
    codes "log" ++ (count_text counts.splits ++ (count_text counts.costs ++ (count_text counts.pivots ++ (count_text counts.cuts ++ (count_text counts.duals ++ codes "\n")))))

-- what is shown, and the limit, with so many places, at the end of a line
abbrev pub values_text : ℕ → ℕ → ℕ → List ℕ
values_text places shown limit =
    codes "," ++ (decimal_text (pos shown) places ++ (codes "," ++ (decimal_text (pos limit) places ++ codes "\n")))

-- the line of an axis or a height: its point, what is shown of it, and its limit, in mm
abbrev pub length_word : LengthKind → List ℕ
length_word kind_of_length.Axis = codes "axis,"
length_word kind_of_length.Height = codes "height,"

abbrev pub length_text : LengthKind → List ℕ → ℕ → ℕ → List ℕ
length_text kind name shown limit = length_word kind ++ (name ++ values_text 1 shown limit)

-- .. of a part of the point of this number, where it is new
unfoldable pub part_text : NetworkOf → List Bool → LengthKind → ℕ → List ℕ → Part → List ℕ
part_text network plan kind place name part.Absent = []
part_text network plan kind place name part.Fixed = []
part_text network plan kind place name (part.New limit) = length_text kind name (length_of network plan kind place limit) limit

-- the lines of a point: that of its axis, and then that of its height
abbrev pub point_lines : NetworkOf → List Bool → ℕ → PointRecord → List ℕ
point_lines network plan place point =
    part_text network plan kind_of_length.Axis place point.name point.plane ++ part_text network plan kind_of_length.Height place point.name point.height

-- the line of a row: its candidate, its number, what is shown of its redundancy, and the limit
abbrev pub redundancy_text : List ℕ → ℕ → ℕ → ℕ → List ℕ
redundancy_text name number shown limit = codes "redundancy," ++ (name ++ (codes "," ++ (decimal number ++ values_text 3 shown limit)))

-- .. of the row of this number of a candidate, counted from 1
abbrev pub row_redundancy_text : NetworkOf → List Bool → ℕ → List ℕ → ℕ → ℕ → RowOf → List ℕ
row_redundancy_text network plan limit name owner place row =
    redundancy_text name (place + 1) (redundancy_of network plan limit owner place row) limit

-- the lines of the rows of a candidate, where it is chosen
unfoldable pub chosen_text : NetworkOf → List Bool → ℕ → List (List ℕ) → ℕ → CandidateOf → List ℕ
chosen_text network plan limit names owner candidate =
    if get_or plan owner false then numbered (row_redundancy_text network plan limit (get_or names owner []) owner) 0 candidate.rows else []

-- the price of a plan and its candidates
abbrev pub choice_text : List (List ℕ) → NetworkOf → List Bool → List ℕ
choice_text names network plan = price_text (codes "cost ") (price_of network plan) ++ takes_text names plan

-- how many lines the log of a plan has, and its bound, which is the plan's price
abbrev pub end_text : NetworkOf → List Bool → Counts → List ℕ
end_text network plan counts = counts_text counts ++ price_text (codes "bound ") (price_of network plan)

-- the report of a plan, with what is shown of each limit of a point, and of each row of a chosen candidate
unfoldable pub plan_text : List PointRecord → List (List ℕ) → ℕ → NetworkOf → List Bool → Counts → List ℕ
plan_text points names limit network plan counts =
    codes "plan\n" ++ (choice_text names network plan
    ++ (numbered (point_lines network plan) 0 points ++ (numbered (chosen_text network plan limit names) 0 network.candidates ++ end_text network plan counts)))

-- the report that no plan meets the limits
abbrev pub no_plan_text : Counts → List ℕ
no_plan_text counts = codes "no plan\n" ++ (counts_text counts ++ codes "bound none\n")

-- an interval, at the end of a line
abbrev pub interval_text : ℤ → ℤ → List ℕ
interval_text lo hi = whole_text lo ++ (codes "," ++ (whole_text hi ++ codes "\n"))

-- the line of an open limit, its name given: the step of its chain, and the interval there
abbrev pub open_text : List ℕ → ℕ → ℤ → ℤ → List ℕ
open_text which step lo hi = codes "open," ++ (which ++ (codes "," ++ (decimal step ++ (codes "," ++ interval_text lo hi))))

-- the report of a plan that is not decided, with the line of its open limit
unfoldable pub undecided_text : List (List ℕ) → NetworkOf → List Bool → List ℕ → Counts → List ℕ
undecided_text names network plan line counts =
    codes "undecided\n" ++ (choice_text names network plan ++ (line ++ end_text network plan counts))

-- ---- a log that is accepted

-- the bound of a log
unfoldable pub bound_text : Bound → List ℕ
bound_text NoPlan = codes "bound none\n"
bound_text (AtLeast price) = price_text (codes "bound ") price

-- a log is accepted: its lines are counted, and this is its bound
abbrev pub checked_text : Counts → Bound → List ℕ
checked_text counts bound = codes "accepted\n" ++ (counts_text counts ++ bound_text bound)
