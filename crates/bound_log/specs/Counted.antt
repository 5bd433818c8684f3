use Rattle.std.specs.Prelude.{ℕ, ◌+◌, ◌-◌, ◌^◌, min, Bool, true, false, List, map, count_by}
use Rattle.geo_model.specs.declared.answer.Counts.{Counts}
use Rattle.bound_log.specs.declared.line_kind.LineKind.{LineKind}
use Rattle.bound_log.specs.declared.line_kind.LineKind.TheVariants.{Split, Cost, Pivot, Cut, Dual}
use Rattle.bound_log.specs.declared.log_line.LogLine.{LogLine}
use Rattle.bound_log.specs.Lines.{kind_of}

-- How many lines of each kind a log has. A count that has reached 2^64 - 1 stays there. This project's own.

abbrev pub is_split : LineKind → Bool
is_split Split = true
is_split Cost = false
is_split Pivot = false
is_split Cut = false
is_split Dual = false

abbrev pub is_cost : LineKind → Bool
is_cost Split = false
is_cost Cost = true
is_cost Pivot = false
is_cost Cut = false
is_cost Dual = false

abbrev pub is_pivot : LineKind → Bool
is_pivot Split = false
is_pivot Cost = false
is_pivot Pivot = true
is_pivot Cut = false
is_pivot Dual = false

abbrev pub is_cut : LineKind → Bool
is_cut Split = false
is_cut Cost = false
is_cut Pivot = false
is_cut Cut = true
is_cut Dual = false

abbrev pub is_dual : LineKind → Bool
is_dual Split = false
is_dual Cost = false
is_dual Pivot = false
is_dual Cut = false
is_dual Dual = true

-- a count with the kinds that pass besides
abbrev pub counted_on : ℕ → (LineKind → Bool) → List LineKind → ℕ
counted_on before test kinds = min (before + count_by test kinds) (2 ^ 64 - 1)

-- counts with lines of these kinds besides
abbrev pub counts_with : Counts → List LineKind → Counts
counts_with before kinds = record {
  splits = counted_on before.splits is_split kinds;
  costs = counted_on before.costs is_cost kinds;
  pivots = counted_on before.pivots is_pivot kinds;
  cuts = counted_on before.cuts is_cut kinds;
  duals = counted_on before.duals is_dual kinds;
}

-- no line is counted
abbrev pub no_counts : Counts
no_counts = record { splits = 0; costs = 0; pivots = 0; cuts = 0; duals = 0 }

-- the counts of lines
abbrev pub counts_of : List LogLine → Counts
counts_of lines = counts_with no_counts (map kind_of lines)
