-- The text of the unknowns and the weighted rows of a network, as the command `rows` prints it. This project's own.
use Rattle.std.specs.Prelude.{ℕ, ℤ, List, [], ◌++◌, codes, flat_map, get_or}
use Rattle.std.specs.List.{enumerate_from}
use Rattle.std.specs.Fmt.{decimal}
use Rattle.text_num.specs.Whole.{whole_text}
use Rattle.geo_model.specs.Row.{RowOf}
use Rattle.geo_model.specs.Candidate.{CandidateOf}
use Rattle.geo_model.specs.Network.{NetworkOf}
use Rattle.geo_model.specs.declared.network.Component.{Component}
use Rattle.geo_model.specs.declared.network.Component.TheVariants as component
use Rattle.geo_model.specs.declared.network.Unknown.{Unknown}

-- the texts of the elements of a list, one after another; each is given its number, counted from `first`
abbrev pub numbered : {X : Type 0} → (ℕ → X → List ℕ) → ℕ → List X → List ℕ
numbered text first xs = flat_map (λ (number, x). text number x) (enumerate_from first xs)

-- the word of a component
abbrev pub component_text : Component → List ℕ
component_text component.X = codes "x"
component_text component.Y = codes "y"
component_text component.Z = codes "z"
component_text component.Turn = codes "turn"

-- the line of an unknown: its number, its point's name and its component
abbrev pub unknown_line : List ℕ → ℕ → Component → List ℕ
unknown_line name number component =
    codes "unknown," ++ (decimal number ++ (codes "," ++ (name ++ (codes "," ++ (component_text component ++ codes "\n")))))

-- .. where points are given by their names
abbrev pub unknown_text : List (List ℕ) → ℕ → Unknown → List ℕ
unknown_text points number unknown = unknown_line (get_or points unknown.point []) number unknown.component

-- an entry of a row: its column and its coefficient
abbrev pub entry_text : ℕ × ℤ → List ℕ
entry_text entry = codes "," ++ (decimal entry.0 ++ (codes ":" ++ whole_text entry.1))

-- the line of a row: its candidate's name, its number, its weight and its entries
abbrev pub row_text : List ℕ → ℕ → RowOf → List ℕ
row_text name number row =
    codes "row," ++ (name ++ (codes "," ++ (decimal number ++ (codes "," ++ (whole_text row.weight ++ (flat_map entry_text row.entries ++ codes "\n"))))))

-- the lines of the rows of a candidate, counted from 1
abbrev pub candidate_text : List (List ℕ) → ℕ → CandidateOf → List ℕ
candidate_text names number candidate = numbered (row_text (get_or names number [])) 1 candidate.rows

-- the lines of the unknowns, then those of the rows; points and candidates are given by their names
unfoldable pub rows_text : List (List ℕ) → List (List ℕ) → NetworkOf → List ℕ
rows_text points names network =
    numbered (unknown_text points) 0 network.unknowns ++ numbered (candidate_text names) 0 network.candidates
