-- What a line of a log names. A further kind of line is one more row of each list. This project's own.
use Rattle.std.specs.Prelude.{ℕ, ℤ, List, [], ◌∷◌, length, map}
use Rattle.bound_log.specs.CutText.{CutTextOf, cut_numbers}
use Rattle.bound_log.specs.DualText.{dual_numbers}
use Rattle.bound_log.specs.declared.line_kind.LineKind.{LineKind}
use Rattle.bound_log.specs.declared.line_kind.LineKind.TheVariants as kind
use Rattle.bound_log.specs.declared.log_leaf.LogLeaf.TheVariants.{Cost, Pivot, Cut, Dual}
use Rattle.bound_log.specs.declared.log_line.LogLine.{LogLine}
use Rattle.bound_log.specs.declared.log_line.LogLine.TheVariants.{Split, Leaf}

-- the kind of a line
abbrev pub kind_of : LogLine → LineKind
kind_of (Split candidate) = kind.Split
kind_of (Leaf Cost) = kind.Cost
kind_of (Leaf (Pivot limit)) = kind.Pivot
kind_of (Leaf (Cut cut)) = kind.Cut
kind_of (Leaf (Dual divisor shares)) = kind.Dual

-- the numbers in the text of a line, from left to right, without their signs
abbrev pub numbers_of : LogLine → List ℕ
numbers_of (Split candidate) = candidate ∷ []
numbers_of (Leaf Cost) = []
numbers_of (Leaf (Pivot limit)) = limit ∷ []
numbers_of (Leaf (Cut cut)) = cut_numbers cut
numbers_of (Leaf (Dual divisor shares)) = dual_numbers divisor shares

-- the candidates that a line splits its node on
abbrev pub candidates_split : LogLine → List ℕ
candidates_split (Split candidate) = candidate ∷ []
candidates_split (Leaf end) = []

-- the limits that a line names
abbrev pub limits_named : LogLine → List ℕ
limits_named (Split candidate) = []
limits_named (Leaf Cost) = []
limits_named (Leaf (Pivot limit)) = limit ∷ []
limits_named (Leaf (Cut cut)) = cut.limit ∷ []
limits_named (Leaf (Dual divisor shares)) = map (λ share. share.1.limit) shares

-- the limits on which, a line says, the verdict of its node's upper plan is Refuted
abbrev pub limits_refuting : LogLine → List ℕ
limits_refuting (Split candidate) = []
limits_refuting (Leaf Cost) = []
limits_refuting (Leaf (Pivot limit)) = limit ∷ []
limits_refuting (Leaf (Cut cut)) = []
limits_refuting (Leaf (Dual divisor shares)) = []

-- the displacements that a line names, each by its pairs
abbrev pub displacements_of : LogLine → List (List (ℕ × ℤ))
displacements_of (Split candidate) = []
displacements_of (Leaf Cost) = []
displacements_of (Leaf (Pivot limit)) = []
displacements_of (Leaf (Cut cut)) = cut.pairs ∷ []
displacements_of (Leaf (Dual divisor shares)) = map (λ share. share.1.pairs) shares

-- the cuts that, a line says, its node's upper plan breaks
abbrev pub cuts_broken : LogLine → List CutTextOf
cuts_broken (Split candidate) = []
cuts_broken (Leaf Cost) = []
cuts_broken (Leaf (Pivot limit)) = []
cuts_broken (Leaf (Cut cut)) = cut ∷ []
cuts_broken (Leaf (Dual divisor shares)) = []

-- the numbers that a line weighs with: the divisor and the multipliers of a dual bound
abbrev pub weights_of : LogLine → List ℕ
weights_of (Split candidate) = []
weights_of (Leaf Cost) = []
weights_of (Leaf (Pivot limit)) = []
weights_of (Leaf (Cut cut)) = []
weights_of (Leaf (Dual divisor shares)) = divisor ∷ map (λ share. share.0) shares

-- how many shares a line has, where it has shares
abbrev pub share_counts : LogLine → List ℕ
share_counts (Split candidate) = []
share_counts (Leaf Cost) = []
share_counts (Leaf (Pivot limit)) = []
share_counts (Leaf (Cut cut)) = []
share_counts (Leaf (Dual divisor shares)) = length shares ∷ []
