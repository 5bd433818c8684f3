-- A text has one tree, and a tree is allowed line by line.
use Rattle.std.proofs.Common.{◌≡◌, ℕ, List, [], ◌∷◌, ◌++◌, map, All, refl, ap, ap₂, sym, ◌∙◌, subst, append_assoc}
use Rattle.std.proofs.lemmas.List.{append_cancel_left, map-append}
use Rattle.std.proofs.lemmas.List.Elements.{All-nil, All-cons, All-head, All-tail, All-append}
use Rattle.geo_model.specs.Network.{NetworkOf, IsNetwork}
use Rattle.geo_model.specs.declared.plan.Node.{Node}
use Rattle.lent_parts.specs.Pieces.{TextLineOf, lines_of}
use Rattle.bound_log.specs.Grammar.{number_bound, HasNumbersBelow, IsLine}
use Rattle.bound_log.specs.LogText.{line_body, line_text}
use Rattle.bound_log.specs.Rules.{IsAllowedLine}
use Rattle.bound_log.specs.LogTree.{with_chosen, without_chosen, IsAllowed}
use Rattle.bound_log.specs.Placed.{placed}
use Rattle.bound_log.specs.declared.log_leaf.LogLeaf.TheVariants.{Cost, Pivot, Cut, Dual}
use Rattle.bound_log.specs.declared.log_line.LogLine.{LogLine}
use Rattle.bound_log.specs.declared.log_line.LogLine.TheVariants.{Split, Leaf}
use Rattle.bound_log.specs.Tree.{Tree, fork, tip, tree_lines}
use Rattle.bound_log.proofs.AllowedLemmas.{line_numbers}
use Rattle.bound_log.proofs.GrammarLemmas.{IsLine-body, a_text_is_one, lines_of-line_text}

-- ---- a text has one list of lines

abbrev first_text : List TextLineOf → List ℕ
first_text [] = []
first_text (line ∷ rest) = line.text

-- what begins with a line begins with no other, and goes on with one text
pub record SameStart (a b : LogLine) (x y : List ℕ) : Type 0 where
  pub line : a ≡ b
  pub rest : x ≡ y

pub same_start : (a b : LogLine) (x y : List ℕ) → HasNumbersBelow number_bound a → HasNumbersBelow number_bound b → line_text a ++ x ≡ line_text b ++ y → SameStart a b x y
same_start a b x y small also same =
    let body : line_body a ≡ line_body b = ap first_text (sym (lines_of-line_text a x small) ∙ ap lines_of same ∙ lines_of-line_text b y also) in
    let line : a ≡ b = a_text_is_one (line_body a) a b (IsLine-body a small) (subst (λ text. IsLine text b) (sym body) (IsLine-body b also)) in
    record { line = line; rest = append_cancel_left (line_text a) x y (same ∙ ap (λ l. line_text l ++ y) (sym line)) }

-- a line has at least its LF
pub some_text : (line : LogLine) (rest : List ℕ) → [] ≡ line_text line ++ rest → ⊥
some_text (Split candidate) rest same = absurd (cc)
some_text (Leaf Cost) rest same = absurd (cc)
some_text (Leaf (Pivot limit)) rest same = absurd (cc)
some_text (Leaf (Cut cut)) rest same = absurd (cc)
some_text (Leaf (Dual divisor shares)) rest same = absurd (cc)

-- ---- lines have one tree

pub record SameTree (a b : Tree) (x y : List LogLine) : Type 0 where
  pub tree : a ≡ b
  pub rest : x ≡ y

pub same_tree : (a b : Tree) (x y : List LogLine) → tree_lines a ++ x ≡ tree_lines b ++ y → SameTree a b x y
same_tree (tip e) (tip f) x y same =
    let ends : e ≡ f = cc in
    record { tree = ap tip ends; rest = cc }
same_tree (tip e) (fork d b1 b2) x y same = absurd (cc)
same_tree (fork c a1 a2) (tip f) x y same = absurd (cc)
same_tree (fork c a1 a2) (fork d b1 b2) x y same =
    let candidate : c ≡ d = cc in
    let below : (tree_lines a1 ++ tree_lines a2) ++ x ≡ (tree_lines b1 ++ tree_lines b2) ++ y = cc in
    let first = same_tree a1 b1 (tree_lines a2 ++ x) (tree_lines b2 ++ y)
    (sym (append_assoc (tree_lines a1) (tree_lines a2) x) ∙ below ∙ append_assoc (tree_lines b1) (tree_lines b2) y) in
    let second = same_tree a2 b2 x y first.rest in
    let one : a1 ≡ b1 = first.tree in
    let two : a2 ≡ b2 = second.tree in
    record { tree = cc; rest = second.rest }

-- ---- numbers

-- the numbers of an allowed tree have at most 19 digits
pub allowed_numbers : (network : NetworkOf) (node : Node) (tree : Tree) → IsNetwork network → IsAllowed network node tree → All (HasNumbersBelow number_bound) (tree_lines tree)
allowed_numbers network node (tip end) bounds allowed =
    All-cons (HasNumbersBelow number_bound) (Leaf end) [] (line_numbers network node (Leaf end) bounds allowed) (All-nil (HasNumbersBelow number_bound))
allowed_numbers network node (fork candidate with_it without_it) bounds allowed =
    All-cons (HasNumbersBelow number_bound) (Split candidate) (tree_lines with_it ++ tree_lines without_it) (line_numbers network node (Split candidate) bounds allowed.0)
    (All-append (HasNumbersBelow number_bound) (tree_lines with_it) (tree_lines without_it)
    (allowed_numbers network (with_chosen node candidate) with_it bounds allowed.1)
    (allowed_numbers network (without_chosen node candidate) without_it bounds allowed.2))

-- ---- a tree is allowed line by line

abbrev Allowed : NetworkOf → Node × LogLine → Type 0
Allowed network at = IsAllowedLine network at.0 at.1

pub each_allowed : (network : NetworkOf) (node : Node) (tree : Tree) → IsAllowed network node tree → All (Allowed network) (placed node tree)
each_allowed network node (tip end) allowed = All-cons (Allowed network) (node, Leaf end) [] allowed (All-nil (Allowed network))
each_allowed network node (fork candidate with_it without_it) allowed =
    All-cons (Allowed network) (node, Split candidate) (placed (with_chosen node candidate) with_it ++ placed (without_chosen node candidate) without_it) allowed.0
    (All-append (Allowed network) (placed (with_chosen node candidate) with_it) (placed (without_chosen node candidate) without_it)
    (each_allowed network (with_chosen node candidate) with_it allowed.1)
    (each_allowed network (without_chosen node candidate) without_it allowed.2))

-- what holds of each element of two lists holds of each of either
record Both {X : Type 0} (P : X → Type 0) (xs ys : List X) : Type 0 where
  left : All P xs
  right : All P ys

both_parts : {X : Type 0} (P : X → Type 0) (xs ys : List X) → All P (xs ++ ys) → Both P xs ys
both_parts P [] ys each = record { left = All-nil P; right = each }
both_parts P (x ∷ xs) ys each =
    let more = both_parts P xs ys (All-tail P x (xs ++ ys) each) in
    record { left = All-cons P x xs (All-head P x (xs ++ ys) each) more.left; right = more.right }

pub allowed_by_each : (network : NetworkOf) (node : Node) (tree : Tree) → All (Allowed network) (placed node tree) → IsAllowed network node tree
allowed_by_each network node (tip end) each = All-head (Allowed network) (node, Leaf end) [] each
allowed_by_each network node (fork candidate with_it without_it) each =
    let first = placed (with_chosen node candidate) with_it in
    let second = placed (without_chosen node candidate) without_it in
    let below = both_parts (Allowed network) first second (All-tail (Allowed network) (node, Split candidate) (first ++ second) each) in (
      All-head (Allowed network) (node, Split candidate) (first ++ second) each,
      allowed_by_each network (with_chosen node candidate) with_it below.left,
      allowed_by_each network (without_chosen node candidate) without_it below.right,
    )

pub placed_lines : (node : Node) (tree : Tree) → map {A = Node × LogLine} {B = LogLine} (λ at. at.1) (placed node tree) ≡ tree_lines tree
placed_lines node (tip end) = refl
placed_lines node (fork candidate with_it without_it) =
    ap (λ rest. Split candidate ∷ rest)
    (map-append (λ at. at.1) (placed (with_chosen node candidate) with_it) (placed (without_chosen node candidate) without_it)
    ∙ ap₂ (λ xs ys. xs ++ ys) (placed_lines (with_chosen node candidate) with_it) (placed_lines (without_chosen node candidate) without_it))
