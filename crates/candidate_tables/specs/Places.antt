-- The points that a record names, by their numbers in the points table. This project's own.
use Rattle.std.specs.Prelude.{ℕ, List, [], ◌∷◌, Bool, true, false, ◌||◌, ◌==◌, Option, slice_get, unwrap_or}
use Rattle.std.specs.List.{list_any}
use Rattle.std.specs.Option.{option_map_or, option_to_list}
use Rattle.point_tables.specs.declared.record.PointRecord.{PointRecord}
use Rattle.point_tables.specs.Accepted.{is_absent}
use Rattle.point_tables.specs.Names.{place_of}
use Rattle.point_tables.specs.PointTable.{point_names}

-- the number of the point of a name, and 0 where no point has it
unfoldable pub place_in : List PointRecord → List ℕ → ℕ
place_in points name = unwrap_or (place_of name (point_names points)) 0

-- the numbers of the points that a record names: from, to, and to2 where there is one
abbrev pub named : ℕ → ℕ → Option ℕ → List ℕ
named from to to2 = from ∷ to ∷ option_to_list to2

-- whether a number stands at two places
abbrev pub has_repeat : List ℕ → Bool
has_repeat [] = false
has_repeat (place ∷ places) = list_any (λ other. place == other) places || has_repeat places

-- whether the point of this number has no plane part
unfoldable pub lacks_plane : List PointRecord → ℕ → Bool
lacks_plane points place = option_map_or (λ point. is_absent point.plane) (slice_get points place) true

-- whether the point of this number has no height part
unfoldable pub lacks_height : List PointRecord → ℕ → Bool
lacks_height points place = option_map_or (λ point. is_absent point.height) (slice_get points place) true
