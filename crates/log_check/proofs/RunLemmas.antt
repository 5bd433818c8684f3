-- Lines of logs and the open nodes that they lead to.
use Rattle.std.proofs.Common.{◌≡◌, ℕ, List, [], ◌∷◌, ◌++◌, map, refl, ap, sym, ◌∙◌, subst, append-nil, append_assoc}
use Rattle.geo_model.specs.Network.{NetworkOf}
use Rattle.geo_model.specs.declared.plan.Node.{Node}
use Rattle.bound_log.specs.declared.bound.Bound.{Bound}
use Rattle.bound_log.specs.declared.bound.Bound.TheVariants.{NoPlan}
use Rattle.bound_log.specs.Bound.{lesser}
use Rattle.bound_log.specs.LogTree.{root_of, with_chosen, without_chosen, IsAllowed, leaf_bound, bound_at}
use Rattle.bound_log.specs.Rules.{IsAllowedLine}
use Rattle.bound_log.specs.Placed.{placed}
use Rattle.bound_log.specs.declared.log_leaf.LogLeaf.TheVariants.{Cost}
use Rattle.bound_log.specs.declared.log_line.LogLine.{LogLine}
use Rattle.bound_log.specs.declared.log_line.LogLine.TheVariants.{Split, Leaf}
use Rattle.bound_log.specs.Tree.{Tree, fork, tip, tree_lines}
use Rattle.bound_log.proofs.AllowedLemmas.{cost_allowed}
use Rattle.bound_log.proofs.BoundLemmas.{lesser_none, lesser_assoc}
use Rattle.log_check.specs.Running.{opened, line_bound, LeadsTo, bound_along}

-- ---- one after another

pub LeadsTo-then : (network : NetworkOf) (nodes middle final : List Node) (xs ys : List LogLine) → LeadsTo network nodes xs middle → LeadsTo network middle ys final → LeadsTo network nodes (xs ++ ys) final
LeadsTo-then network nodes middle final [] ys first second = subst (λ (n : List Node). LeadsTo network n ys final) (sym first) second
LeadsTo-then network [] middle final (x ∷ xs) ys first second = absurd first
LeadsTo-then network (node ∷ nodes) middle final (x ∷ xs) ys first second =
    (first.0, LeadsTo-then network (opened node x ++ nodes) middle final xs ys first.1 second)

pub bound_along-then : (network : NetworkOf) (nodes middle : List Node) (xs ys : List LogLine) → LeadsTo network nodes xs middle → bound_along network nodes (xs ++ ys) ≡ lesser (bound_along network nodes xs) (bound_along network middle ys)
bound_along-then network nodes middle [] ys first = ap (λ (n : List Node). bound_along network n ys) first
bound_along-then network [] middle (x ∷ xs) ys first = absurd first
bound_along-then network (node ∷ nodes) middle (x ∷ xs) ys first =
    ap (lesser (line_bound network node x)) (bound_along-then network (opened node x ++ nodes) middle xs ys first.1)
    ∙ sym (lesser_assoc (line_bound network node x) (bound_along network (opened node x ++ nodes) xs) (bound_along network middle ys))

-- what lies between
pub record Between (network : NetworkOf) (nodes : List Node) (xs ys : List LogLine) (final : List Node) : Type 0 where
  pub middle : List Node
  pub first : LeadsTo network nodes xs middle
  pub second : LeadsTo network middle ys final

pub LeadsTo-parts : (network : NetworkOf) (nodes final : List Node) (xs ys : List LogLine) → LeadsTo network nodes (xs ++ ys) final → Between network nodes xs ys final
LeadsTo-parts network nodes final [] ys leads = record { middle = nodes; first = refl; second = leads }
LeadsTo-parts network [] final (x ∷ xs) ys leads = absurd leads
LeadsTo-parts network (node ∷ nodes) final (x ∷ xs) ys leads =
    let later = LeadsTo-parts network (opened node x ++ nodes) final xs ys leads.1 in
    record { middle = later.middle; first = (leads.0, later.first); second = later.second }

-- lines lead to one list of open nodes
pub one_final : (network : NetworkOf) (nodes a b : List Node) (lines : List LogLine) → LeadsTo network nodes lines a → LeadsTo network nodes lines b → a ≡ b
one_final network nodes a b [] first second = sym first ∙ second
one_final network [] a b (x ∷ xs) first second = absurd first
one_final network (node ∷ nodes) a b (x ∷ xs) first second = one_final network (opened node x ++ nodes) a b xs first.1 second.1

-- ---- from trees to open nodes

pub tree_leads : (network : NetworkOf) (node : Node) (tree : Tree) (nodes : List Node) → IsAllowed network node tree → LeadsTo network (node ∷ nodes) (tree_lines tree) nodes
tree_leads network node (tip end) nodes allowed = (allowed, refl)
tree_leads network node (fork candidate with_it without_it) nodes allowed = (
  allowed.0,
  LeadsTo-then network (with_chosen node candidate ∷ without_chosen node candidate ∷ nodes) (without_chosen node candidate ∷ nodes) nodes (tree_lines with_it) (tree_lines without_it)
      (tree_leads network (with_chosen node candidate) with_it (without_chosen node candidate ∷ nodes) allowed.1)
      (tree_leads network (without_chosen node candidate) without_it nodes allowed.2),
)

-- the same with each line's node
abbrev PlacedAlong : NetworkOf → List Node → List (Node × LogLine) → List Node → Type 0
PlacedAlong network nodes [] final = nodes ≡ final
PlacedAlong network [] (at ∷ more) final = ⊥
PlacedAlong network (node ∷ nodes) (at ∷ more) final = (node ≡ at.0) × IsAllowedLine network node at.1 × PlacedAlong network (opened node at.1 ++ nodes) more final

PlacedAlong-then : (network : NetworkOf) (nodes middle final : List Node) (xs ys : List (Node × LogLine)) → PlacedAlong network nodes xs middle → PlacedAlong network middle ys final → PlacedAlong network nodes (xs ++ ys) final
PlacedAlong-then network nodes middle final [] ys first second = subst (λ (n : List Node). PlacedAlong network n ys final) (sym first) second
PlacedAlong-then network [] middle final (x ∷ xs) ys first second = absurd first
PlacedAlong-then network (node ∷ nodes) middle final (x ∷ xs) ys first second =
    (first.0, first.1, PlacedAlong-then network (opened node x.1 ++ nodes) middle final xs ys first.2 second)

placed_along : (network : NetworkOf) (node : Node) (tree : Tree) (nodes : List Node) → IsAllowed network node tree → PlacedAlong network (node ∷ nodes) (placed node tree) nodes
placed_along network node (tip end) nodes allowed = (refl, allowed, refl)
placed_along network node (fork candidate with_it without_it) nodes allowed = (
  refl,
  allowed.0,
  PlacedAlong-then network (with_chosen node candidate ∷ without_chosen node candidate ∷ nodes) (without_chosen node candidate ∷ nodes) nodes
      (placed (with_chosen node candidate) with_it) (placed (without_chosen node candidate) without_it)
      (placed_along network (with_chosen node candidate) with_it (without_chosen node candidate ∷ nodes) allowed.1)
      (placed_along network (without_chosen node candidate) without_it nodes allowed.2),
)

-- after the lines of some, the node of the next is the first open one
pub record NodeNext (network : NetworkOf) (nodes : List Node) (before : List (Node × LogLine)) (node : Node) : Type 0 where
  pub rest : List Node
  pub leads : LeadsTo network nodes (map (λ at. at.1) before) (node ∷ rest)

node_next : (network : NetworkOf) (nodes final : List Node) (before after : List (Node × LogLine)) (at : Node × LogLine) → PlacedAlong network nodes (before ++ at ∷ after) final → NodeNext network nodes before at.0
node_next network [] final [] after at along = absurd along
node_next network (node ∷ nodes) final [] after at along = record { rest = nodes; leads = ap (λ (n : Node). n ∷ nodes) along.0 }
node_next network [] final (x ∷ before) after at along = absurd along
node_next network (node ∷ nodes) final (x ∷ before) after at along =
    let later = node_next network (opened node x.1 ++ nodes) final before after at along.2 in
    record { rest = later.rest; leads = (along.1, later.leads) }

-- ---- from open nodes to trees

-- a tree for each node
abbrev IsForest : NetworkOf → List Node → List Tree → Type 0
IsForest network [] [] = Unit {0}
IsForest network [] (tree ∷ trees) = ⊥
IsForest network (node ∷ nodes) [] = ⊥
IsForest network (node ∷ nodes) (tree ∷ trees) = IsAllowed network node tree × IsForest network nodes trees

abbrev forest_lines : List Tree → List LogLine
forest_lines [] = []
forest_lines (tree ∷ trees) = tree_lines tree ++ forest_lines trees

abbrev forest_placed : List Node → List Tree → List (Node × LogLine)
forest_placed [] trees = []
forest_placed (node ∷ nodes) [] = []
forest_placed (node ∷ nodes) (tree ∷ trees) = placed node tree ++ forest_placed nodes trees

abbrev forest_bound : NetworkOf → List Node → List Tree → Bound
forest_bound network [] trees = NoPlan
forest_bound network (node ∷ nodes) [] = NoPlan
forest_bound network (node ∷ nodes) (tree ∷ trees) = lesser (bound_at network node tree) (forest_bound network nodes trees)

-- trees for the open nodes make up trees for those from which the lines lead to them
record Completes (network : NetworkOf) (nodes : List Node) (lines : List LogLine) (final : List Node) (forest : List Tree) : Type 0 where
  whole : List Tree
  allowed : IsForest network nodes whole
  spelled : forest_lines whole ≡ lines ++ forest_lines forest
  before : List (Node × LogLine)
  parts : forest_placed nodes whole ≡ before ++ forest_placed final forest
  earlier : map (λ at. at.1) before ≡ lines
  least : forest_bound network nodes whole ≡ lesser (bound_along network nodes lines) (forest_bound network final forest)

-- the two children of a split make its tree
split_on : (network : NetworkOf) (node : Node) (nodes : List Node) (candidate : ℕ) (lines : List LogLine) (final : List Node) (forest whole : List Tree) (before : List (Node × LogLine)) → IsAllowedLine network node (Split candidate) → IsForest network (with_chosen node candidate ∷ without_chosen node candidate ∷ nodes) whole → forest_lines whole ≡ lines ++ forest_lines forest → forest_placed (with_chosen node candidate ∷ without_chosen node candidate ∷ nodes) whole ≡ before ++ forest_placed final forest → map {A = Node × LogLine} {B = LogLine} (λ at. at.1) before ≡ lines → forest_bound network (with_chosen node candidate ∷ without_chosen node candidate ∷ nodes) whole ≡ lesser (bound_along network (with_chosen node candidate ∷ without_chosen node candidate ∷ nodes) lines) (forest_bound network final forest) → Completes network (node ∷ nodes) (Split candidate ∷ lines) final forest
split_on network node nodes candidate lines final forest [] before here allowed spelled parts earlier least = absurd allowed
split_on network node nodes candidate lines final forest (a ∷ []) before here allowed spelled parts earlier least = absurd allowed.1
split_on network node nodes candidate lines final forest (a ∷ b ∷ trees) before here allowed spelled parts earlier least = record {
  whole = fork candidate a b ∷ trees;
  allowed = ((here, allowed.0, allowed.1.0), allowed.1.1);
  spelled = ap (λ (rest : List LogLine). Split candidate ∷ rest) (append_assoc (tree_lines a) (tree_lines b) (forest_lines trees) ∙ spelled);
  before = (node, Split candidate) ∷ before;
  parts = ap (λ (rest : List (Node × LogLine)). (node, Split candidate) ∷ rest) (append_assoc (placed (with_chosen node candidate) a) (placed (without_chosen node candidate) b) (forest_placed nodes trees) ∙ parts);
  earlier = ap (λ (rest : List LogLine). Split candidate ∷ rest) earlier;
  least = lesser_assoc (bound_at network (with_chosen node candidate) a) (bound_at network (without_chosen node candidate) b) (forest_bound network nodes trees) ∙ least;
}

complete : (network : NetworkOf) (nodes : List Node) (lines : List LogLine) (final : List Node) (forest : List Tree) → LeadsTo network nodes lines final → IsForest network final forest → Completes network nodes lines final forest
complete network nodes [] final forest leads allowed =
    subst (λ (n : List Node). Completes network n [] final forest) (sym leads)
    (record { whole = forest; allowed = allowed; spelled = refl; before = []; parts = refl; earlier = refl; least = refl })
complete network [] (x ∷ lines) final forest leads allowed = absurd leads
complete network (node ∷ nodes) (Split candidate ∷ lines) final forest leads allowed =
    let later = complete network (with_chosen node candidate ∷ without_chosen node candidate ∷ nodes) lines final forest leads.1 allowed in
    split_on network node nodes candidate lines final forest later.whole later.before leads.0 later.allowed later.spelled later.parts later.earlier later.least
complete network (node ∷ nodes) (Leaf end ∷ lines) final forest leads allowed =
    let later = complete network nodes lines final forest leads.1 allowed in
    record {
      whole = tip end ∷ later.whole;
      allowed = (leads.0, later.allowed);
      spelled = ap (λ (rest : List LogLine). Leaf end ∷ rest) later.spelled;
      before = (node, Leaf end) ∷ later.before;
      parts = ap (λ (rest : List (Node × LogLine)). (node, Leaf end) ∷ rest) later.parts;
      earlier = ap (λ (rest : List LogLine). Leaf end ∷ rest) later.earlier;
      least = ap (lesser (leaf_bound network node end)) later.least ∙ sym (lesser_assoc (leaf_bound network node end) (bound_along network nodes lines) (forest_bound network final forest));
    }

-- each node has a tree
abbrev leaves : List Node → List Tree
leaves [] = []
leaves (node ∷ nodes) = tip Cost ∷ leaves nodes

leaves_allowed : (network : NetworkOf) (nodes : List Node) → IsForest network nodes (leaves nodes)
leaves_allowed network [] = tt
leaves_allowed network (node ∷ nodes) = (cost_allowed network node, leaves_allowed network nodes)

-- the tree of one node
record OneTree (network : NetworkOf) (node : Node) (forest : List Tree) : Type 0 where
  tree : Tree
  alone : forest ≡ tree ∷ []
  allowed : IsAllowed network node tree

one_tree_of : (network : NetworkOf) (node : Node) (forest : List Tree) → IsForest network (node ∷ []) forest → OneTree network node forest
one_tree_of network node [] allowed = absurd allowed
one_tree_of network node (a ∷ []) allowed = record { tree = a; alone = refl; allowed = allowed.0 }
one_tree_of network node (a ∷ b ∷ trees) allowed = absurd allowed.1

-- ---- lines from the root

-- lines that lead from the root begin those of a tree; where no line of it is left, no node is open
pub record TreeAround (network : NetworkOf) (lines : List LogLine) (final : List Node) : Type 0 where
  pub tree : Tree
  pub rest : List LogLine
  pub allowed : IsAllowed network (root_of network) tree
  pub begins : tree_lines tree ≡ lines ++ rest
  pub ends : rest ≡ [] → final ≡ []

none_left : (final : List Node) → forest_lines (leaves final) ≡ [] → final ≡ []
none_left [] none = refl
none_left (node ∷ nodes) none = absurd (cc)

pub leads_tree : (network : NetworkOf) (lines : List LogLine) (final : List Node) → LeadsTo network (root_of network ∷ []) lines final → TreeAround network lines final
leads_tree network lines final leads =
    let made = complete network (root_of network ∷ []) lines final (leaves final) leads (leaves_allowed network final) in
    let one = one_tree_of network (root_of network) made.whole made.allowed in
    record {
      tree = one.tree;
      rest = forest_lines (leaves final);
      allowed = one.allowed;
      begins = sym (append-nil (tree_lines one.tree)) ∙ ap forest_lines (sym one.alone) ∙ made.spelled;
      ends = none_left final;
    }

-- the first lines of a tree lead from the root
pub tree_front : (network : NetworkOf) (tree : Tree) (lines rest : List LogLine) → IsAllowed network (root_of network) tree → tree_lines tree ≡ lines ++ rest → Between network (root_of network ∷ []) lines rest []
tree_front network tree lines rest allowed begins =
    LeadsTo-parts network (root_of network ∷ []) [] lines rest
    (subst (λ (l : List LogLine). LeadsTo network (root_of network ∷ []) l []) begins (tree_leads network (root_of network) tree [] allowed))

-- the tree of all lines, with its bound
pub record WholeTree (network : NetworkOf) (lines : List LogLine) : Type 0 where
  pub tree : Tree
  pub allowed : IsAllowed network (root_of network) tree
  pub spelled : tree_lines tree ≡ lines
  pub least : bound_at network (root_of network) tree ≡ bound_along network (root_of network ∷ []) lines

pub whole_tree : (network : NetworkOf) (lines : List LogLine) → LeadsTo network (root_of network ∷ []) lines [] → WholeTree network lines
whole_tree network lines leads =
    let made = complete network (root_of network ∷ []) lines [] [] leads tt in
    let one = one_tree_of network (root_of network) made.whole made.allowed in
    record {
      tree = one.tree;
      allowed = one.allowed;
      spelled = sym (append-nil (tree_lines one.tree)) ∙ ap forest_lines (sym one.alone) ∙ made.spelled ∙ append-nil lines;
      least = sym (lesser_none (bound_at network (root_of network) one.tree))
          ∙ ap (forest_bound network (root_of network ∷ [])) (sym one.alone)
          ∙ made.least
          ∙ lesser_none (bound_along network (root_of network ∷ []) lines);
    }

-- the node of a line is the first one that is open after the lines before it
pub placed_leads : (network : NetworkOf) (tree : Tree) (before after : List (Node × LogLine)) (at : Node × LogLine) → IsAllowed network (root_of network) tree → placed (root_of network) tree ≡ before ++ at ∷ after → NodeNext network (root_of network ∷ []) before at.0
placed_leads network tree before after at allowed parts =
    node_next network (root_of network ∷ []) [] before after at
    (subst (λ (l : List (Node × LogLine)). PlacedAlong network (root_of network ∷ []) l []) parts (placed_along network (root_of network) tree [] allowed))

-- .. and lines that lead to a first open node are those before it in some tree
pub record PlacedNext (network : NetworkOf) (lines : List LogLine) (node : Node) : Type 0 where
  pub tree : Tree
  pub before : List (Node × LogLine)
  pub next : LogLine
  pub after : List (Node × LogLine)
  pub allowed : IsAllowed network (root_of network) tree
  pub parts : placed (root_of network) tree ≡ before ++ (node, next) ∷ after
  pub earlier : map (λ at. at.1) before ≡ lines

pub leads_placed : (network : NetworkOf) (lines : List LogLine) (node : Node) (rest : List Node) → LeadsTo network (root_of network ∷ []) lines (node ∷ rest) → PlacedNext network lines node
leads_placed network lines node rest leads =
    let made = complete network (root_of network ∷ []) lines (node ∷ rest) (leaves (node ∷ rest)) leads (leaves_allowed network (node ∷ rest)) in
    let one = one_tree_of network (root_of network) made.whole made.allowed in
    record {
      tree = one.tree;
      before = made.before;
      next = Leaf Cost;
      after = forest_placed rest (leaves rest);
      allowed = one.allowed;
      parts = sym (append-nil (placed (root_of network) one.tree)) ∙ ap (forest_placed (root_of network ∷ [])) (sym one.alone) ∙ made.parts;
      earlier = made.earlier;
    }
