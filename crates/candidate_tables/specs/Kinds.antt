-- The kinds of observation, and what each of them asks of a record and gives to a network: one arm a kind, which everything
-- else reads. This project's own.
use Rattle.std.specs.Prelude.{ℕ, ◌≡◌, ◌^◌, List, [], ◌∷◌, Bool, true, false, codes, Option, Some, None}
use Rattle.std.specs.List.{find}
use Rattle.std.specs.Str.{bytes_eq}
use Rattle.candidate_tables.specs.declared.kind.Kind.{Kind}
use Rattle.candidate_tables.specs.declared.kind.Kind.TheVariants as kind
use Rattle.candidate_tables.specs.declared.kind_rules.LineBounds.{LineBounds}

-- what a kind asks and gives
pub record KindRulesOf : Type 0 where
  -- the word for it in the table
  pub word : List ℕ
  -- whether a third point is named
  pub has_foresight : Bool
  -- whether there is a standard deviation of the height
  pub has_height_deviation : Bool
  -- whether the points that are named need a plane part
  pub needs_plane : Bool
  -- whether the points that are named need a height part
  pub needs_height : Bool
  -- the bounds of its lines, if they have any
  pub line : Option LineBounds
  -- how many rows it gives
  pub rows : ℕ
  -- whether its station has an orientation
  pub has_orientation : Bool
  -- whether an instrument is set up at its first point
  pub occupies_station : Bool

-- a line is at least so many square mm long, and at most 100 km
abbrev pub line_from : ℕ → Option LineBounds
line_from least = Some (record { least = least; greatest = 10 ^ 16 })

-- a kind of one row that names two points and asks nothing of them
abbrev pub plain_rules : List ℕ → KindRulesOf
plain_rules word = record {
  word = word;
  has_foresight = false;
  has_height_deviation = false;
  needs_plane = false;
  needs_height = false;
  line = None;
  rows = 1;
  has_orientation = false;
  occupies_station = false;
}

-- what each kind asks and gives; lines are at least 1 m for a distance, 10 m for a direction or an angle
unfoldable pub rules_of : Kind → KindRulesOf
rules_of kind.Distance = record (plain_rules (codes "distance")) {
  needs_plane = true;
  line = line_from (10 ^ 6);
  occupies_station = true;
}
rules_of kind.Direction = record (plain_rules (codes "direction")) {
  needs_plane = true;
  line = line_from (10 ^ 8);
  has_orientation = true;
  occupies_station = true;
}
rules_of kind.Angle = record (plain_rules (codes "angle")) {
  has_foresight = true;
  needs_plane = true;
  line = line_from (10 ^ 8);
  occupies_station = true;
}
rules_of kind.Level = record (plain_rules (codes "level")) { needs_height = true }
rules_of kind.Vector = record (plain_rules (codes "vector")) {
  has_height_deviation = true;
  needs_plane = true;
  needs_height = true;
  rows = 3;
}

-- every kind
abbrev pub all_kinds : List Kind
all_kinds = kind.Distance ∷ kind.Direction ∷ kind.Angle ∷ kind.Level ∷ kind.Vector ∷ []

-- the kind whose word a text is
unfoldable pub kind_named : List ℕ → Option Kind
kind_named text = find (λ kind. bytes_eq text (rules_of kind).word) all_kinds

-- the word of each kind names that kind
abbrev pub WordsNameKinds : Type 0
WordsNameKinds = (kind : Kind) → kind_named (rules_of kind).word ≡ Some kind
