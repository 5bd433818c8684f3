use Rattle.std.proofs.Common.{replicate, ◌≡◌, ℕ, Bool, true, false, List, [], ◌∷◌, ◌++◌, map, length, refl, sym, ap, ap₂, ◌∙◌, subst, Some}
use Rattle.std.specs.Prelude.{slice_set}
use Rattle.std.proofs.lemmas.List.{length-set, length-replicate, map-append}
use Rattle.shelf_io.specs.Files.{Files, IsHeld}
use Rattle.geo_model.specs.Energy.{IsWithin}
use Rattle.geo_model.specs.Network.{NetworkOf}
use Rattle.geo_model.specs.declared.answer.Counts.{Counts}
use Rattle.geo_model.specs.declared.plan.Node.{Node}
use Rattle.pivot_chain.proofs.Plans.{set_back}
use Rattle.bound_log.specs.Counted.{counts_with}
use Rattle.bound_log.proofs.AllowedLemmas.{split_allowed, cost_allowed}
use Rattle.bound_log.proofs.CountLemmas.{counts_with-then}
use Rattle.geo_model.proofs.PlanLemmas.{IsWithin-with, IsWithin-without, IsWithin-none}
use Rattle.bound_log.specs.CutText.{CutTextOf}
use Rattle.bound_log.specs.NamedText.{named_text}
use Rattle.bound_log.specs.LogTree.{root_of, IsOpenAt, IsNodeRefutedBy, with_chosen, without_chosen, bound_at}
use Rattle.bound_log.specs.declared.line_kind.LineKind.{LineKind}
use Rattle.bound_log.specs.declared.log_leaf.LogLeaf.TheVariants.{Cost}
use Rattle.bound_log.specs.declared.log_line.LogLine.{LogLine}
use Rattle.bound_log.specs.declared.log_line.LogLine.TheVariants.{Split, Leaf}
use Rattle.bound_log.specs.declared.named_line.NamedLine.TheVariants as named_line
use Rattle.bound_log.specs.Lines.{kind_of}
use Rattle.bound_log.specs.Tree.{Tree, fork, tip, tree_lines}
use Rattle.bound_log.specs.Bound.{lesser}
use Rattle.idle_splits.specs.Idle.{IsIdle, IsNoMore}
use Rattle.idle_splits.proofs.Falls.{IsIdle-falls}
use Rattle.branch_bound.specs.declared.best.Best.{Best}
use Rattle.branch_bound.specs.declared.search_fault.SearchFault.{SearchFault}
use Rattle.branch_bound.specs.declared.search_fault.SearchFault.TheVariants as fault
use Rattle.shelf_io.specs.States.{ShelfState}
use Rattle.branch_bound.specs.Explored.{AddsText, BreaksText, IsNode, IsLineAt, Explores, BreaksTree}
use Rattle.branch_bound.specs.Found.{IsTrueBest, IsOffered, best_bound}
use Rattle.branch_bound.specs.Naming.{AreNamesOnce}
use Rattle.branch_bound.specs.Spelled.{SpellsOn}
use Rattle.branch_bound.proofs.BoundOrder.{no_more_both, no_more_then}
use Rattle.branch_bound.proofs.DoneLemmas.{IsDone-after, IsDone-split}
use Rattle.branch_bound.proofs.SpellLemmas.{SpellsOn-line, SpellsOn-then}
use Rattle.branch_bound.proofs.PieceLemmas.{BreaksText-nothing, AddsText-then, BreaksText-after, BreaksText-longer}

-- How the parts of an exploration make the whole.

-- a leaf of the price alone
abbrev pub cost_text : List ℕ
cost_text = named_text named_line.Cost

pub SpellsOn-cost : (cuts : List CutTextOf) → SpellsOn cuts cost_text (tree_lines (tip Cost)) cuts
SpellsOn-cost cuts = SpellsOn-line cuts named_line.Cost (Leaf Cost) tt refl refl

-- memory ran out before a line was written
pub BreaksTree-nothing : (network : NetworkOf) (node : Node) (name : List ℕ) (cuts : List CutTextOf) (state : ShelfState) → AreNamesOnce network cuts →
    ((files : Files) → state.held ≡ Some files → IsHeld files name) → BreaksTree network node name cuts fault.NoMemory state state
BreaksTree-nothing network node name cuts state named told = record {
  tree = tip Cost;
  text = cost_text;
  cuts_then = cuts;
  allowed = cost_allowed network node;
  spells = SpellsOn-cost cuts;
  named = named;
  broken = BreaksText-nothing name cost_text state told;
}

-- a leaf was written
pub Explores-leaf : (network : NetworkOf) (node : Node) (name text : List ℕ) (cuts cuts_now : List CutTextOf) (best best_now : Best) (counts counts_now : Counts) (before now : ShelfState) (found : LogLine) →
    IsLineAt network node best best_now found → ((candidate : ℕ) → found ≡ Split candidate → ⊥) → SpellsOn cuts text (found ∷ []) cuts_now →
    AddsText name text before now → counts_now ≡ counts_with counts (kind_of found ∷ []) →
    Explores network node name cuts cuts_now best best_now counts counts_now before now
Explores-leaf network node name text cuts cuts_now best best_now counts counts_now before now (Split candidate) here not_split spells added counted = absurd (not_split candidate refl)
Explores-leaf network node name text cuts cuts_now best best_now counts counts_now before now (Leaf end) here not_split spells added counted = record {
  tree = tip end;
  text = text;
  allowed = here.allowed;
  spells = spells;
  added = added;
  counted = counted;
  done = here.done;
  no_idle = λ earlier below. tt;
}

-- a line of a node was begun
pub BreaksTree-line : (network : NetworkOf) (node : Node) (name text : List ℕ) (cuts cuts_now : List CutTextOf) (best best_now : Best) (why : SearchFault) (before now : ShelfState) (found : LogLine) →
    IsLineAt network node best best_now found → AreNamesOnce network cuts_now → SpellsOn cuts text (found ∷ []) cuts_now → BreaksText name text why before now →
    BreaksTree network node name cuts why before now
BreaksTree-line network node name text cuts cuts_now best best_now why before now (Split candidate) here named spells broken = record {
  tree = fork candidate (tip Cost) (tip Cost);
  text = text ++ (cost_text ++ cost_text);
  cuts_then = cuts_now;
  allowed = (split_allowed network node candidate here.0, cost_allowed network (with_chosen node candidate), cost_allowed network (without_chosen node candidate));
  spells = SpellsOn-then cuts cuts_now cuts_now text (cost_text ++ cost_text) (Split candidate ∷ []) (tree_lines (tip Cost) ++ tree_lines (tip Cost)) spells
      (SpellsOn-then cuts_now cuts_now cuts_now cost_text cost_text (tree_lines (tip Cost)) (tree_lines (tip Cost)) (SpellsOn-cost cuts_now) (SpellsOn-cost cuts_now));
  named = named;
  broken = BreaksText-longer name text (cost_text ++ cost_text) why before now broken;
}
BreaksTree-line network node name text cuts cuts_now best best_now why before now (Leaf end) here named spells broken = record {
  tree = tip end;
  text = text;
  cuts_then = cuts_now;
  allowed = here.allowed;
  spells = spells;
  named = named;
  broken = broken;
}

-- the first child was begun
pub BreaksTree-first : (network : NetworkOf) (node : Node) (name text : List ℕ) (cuts cuts_now : List CutTextOf) (candidate : ℕ) (why : SearchFault) (before middle now : ShelfState) →
    IsOpenAt network node candidate → SpellsOn cuts text (Split candidate ∷ []) cuts_now → AddsText name text before middle →
    BreaksTree network (with_chosen node candidate) name cuts_now why middle now → BreaksTree network node name cuts why before now
BreaksTree-first network node name text cuts cuts_now candidate why before middle now is_open spells added first = record {
  tree = fork candidate first.tree (tip Cost);
  text = text ++ (first.text ++ cost_text);
  cuts_then = first.cuts_then;
  allowed = (split_allowed network node candidate is_open, first.allowed, cost_allowed network (without_chosen node candidate));
  spells = SpellsOn-then cuts cuts_now first.cuts_then text (first.text ++ cost_text) (Split candidate ∷ []) (tree_lines first.tree ++ tree_lines (tip Cost)) spells
      (SpellsOn-then cuts_now first.cuts_then first.cuts_then first.text cost_text (tree_lines first.tree) (tree_lines (tip Cost)) first.spells (SpellsOn-cost first.cuts_then));
  named = first.named;
  broken = BreaksText-after name text (first.text ++ cost_text) why before middle now added (BreaksText-longer name first.text cost_text why middle now first.broken);
}

-- the second child was begun
pub BreaksTree-second : (network : NetworkOf) (node : Node) (name text : List ℕ) (cuts cuts_split cuts_first : List CutTextOf) (candidate : ℕ) (why : SearchFault) (best best_now : Best) (counts counts_now : Counts) (before middle later now : ShelfState) →
    IsOpenAt network node candidate → SpellsOn cuts text (Split candidate ∷ []) cuts_split → AddsText name text before middle →
    Explores network (with_chosen node candidate) name cuts_split cuts_first best best_now counts counts_now middle later →
    BreaksTree network (without_chosen node candidate) name cuts_first why later now → BreaksTree network node name cuts why before now
BreaksTree-second network node name text cuts cuts_split cuts_first candidate why best best_now counts counts_now before middle later now is_open spells added first second = record {
  tree = fork candidate first.tree second.tree;
  text = text ++ (first.text ++ second.text);
  cuts_then = second.cuts_then;
  allowed = (split_allowed network node candidate is_open, first.allowed, second.allowed);
  spells = SpellsOn-then cuts cuts_split second.cuts_then text (first.text ++ second.text) (Split candidate ∷ []) (tree_lines first.tree ++ tree_lines second.tree) spells
      (SpellsOn-then cuts_split cuts_first second.cuts_then first.text second.text (tree_lines first.tree) (tree_lines second.tree) first.spells second.spells);
  named = second.named;
  broken = BreaksText-after name text (first.text ++ second.text) why before middle now added (BreaksText-after name first.text second.text why middle later now first.added second.broken);
}

-- the kinds of the lines of a tree
abbrev kinds : Tree → List LineKind
kinds tree = map kind_of (tree_lines tree)

-- both children were explored
pub Explores-split : (network : NetworkOf) (node : Node) (name text : List ℕ) (cuts cuts_split cuts_first cuts_now : List CutTextOf) (candidate : ℕ) (best middle_best best_now : Best) (counts counts_split counts_first counts_now : Counts) (before middle later now : ShelfState) →
    IsOpenAt network node candidate → (IsIdle network node (best_bound network best) → ⊥) → SpellsOn cuts text (Split candidate ∷ []) cuts_split → AddsText name text before middle →
    counts_split ≡ counts_with counts (kind_of (Split candidate) ∷ []) →
    Explores network (with_chosen node candidate) name cuts_split cuts_first best middle_best counts_split counts_first middle later →
    Explores network (without_chosen node candidate) name cuts_first cuts_now middle_best best_now counts_first counts_now later now →
    Explores network node name cuts cuts_now best best_now counts counts_now before now
Explores-split network node name text cuts cuts_split cuts_first cuts_now candidate best middle_best best_now counts counts_split counts_first counts_now before middle later now is_open not_idle spells added counted first second = record {
  tree = fork candidate first.tree second.tree;
  text = text ++ (first.text ++ second.text);
  allowed = (split_allowed network node candidate is_open, first.allowed, second.allowed);
  spells = SpellsOn-then cuts cuts_split cuts_now text (first.text ++ second.text) (Split candidate ∷ []) (tree_lines first.tree ++ tree_lines second.tree) spells
      (SpellsOn-then cuts_split cuts_first cuts_now first.text second.text (tree_lines first.tree) (tree_lines second.tree) first.spells second.spells);
  added = AddsText-then name text (first.text ++ second.text) before middle now added (AddsText-then name first.text second.text middle later now first.added second.added);
  counted = second.counted
      ∙ ap (λ c. counts_with c (kinds second.tree)) (first.counted ∙ ap (λ c. counts_with c (kinds first.tree)) counted)
      ∙ counts_with-then (counts_with counts (kind_of (Split candidate) ∷ [])) (kinds first.tree) (kinds second.tree)
      ∙ counts_with-then counts (kind_of (Split candidate) ∷ []) (kinds first.tree ++ kinds second.tree)
      ∙ ap (λ more. counts_with counts (kind_of (Split candidate) ∷ more)) (sym (map-append kind_of (tree_lines first.tree) (tree_lines second.tree)));
  done = IsDone-split network node candidate (bound_at network (with_chosen node candidate) first.tree) (bound_at network (without_chosen node candidate) second.tree) best middle_best best_now is_open first.done second.done;
  no_idle = λ earlier below.
      let falls : IsNoMore (best_bound network middle_best) earlier =
      no_more_then (best_bound network middle_best) (best_bound network best) earlier first.done.falls below in
      let both : IsNoMore (best_bound network middle_best) (lesser earlier (bound_at network (with_chosen node candidate) first.tree)) =
      no_more_both (best_bound network middle_best) earlier (bound_at network (with_chosen node candidate) first.tree) falls first.done.price in (
        λ idle. not_idle (IsIdle-falls network node (best_bound network best) earlier below idle),
        first.no_idle earlier below,
        second.no_idle (lesser earlier (bound_at network (with_chosen node candidate) first.tree)) both,
      );
}

-- the children of a node are nodes
pub IsNode-with : (network : NetworkOf) (node : Node) (candidate : ℕ) → IsNode network node → IsOpenAt network node candidate →
    IsNode network (with_chosen node candidate)
IsNode-with network node candidate is is_open = record {
  inside_long = length-set node.inside candidate true ∙ is.inside_long;
  upper_long = is.upper_long;
  within = IsWithin-with node.inside node.upper candidate is.within is_open.in_upper;
}

pub IsNode-without : (network : NetworkOf) (node : Node) (candidate : ℕ) → IsNode network node → IsOpenAt network node candidate →
    IsNode network (without_chosen node candidate)
IsNode-without network node candidate is is_open = record {
  inside_long = is.inside_long;
  upper_long = length-set node.upper candidate false ∙ is.upper_long;
  within = IsWithin-without node.inside node.upper candidate is.within is_open.not_inside;
}

-- a node whose inner plan has the candidate set is the child that chooses it
pub child_with : (node : Node) (candidate : ℕ) (inside : List Bool) → inside ≡ slice_set node.inside candidate true →
    (record { inside = inside; upper = node.upper }) ≡ with_chosen node candidate
child_with node candidate inside set = ap (λ (plan : List Bool). record { inside = plan; upper = node.upper }) set

-- that child with the candidate taken back and left out of the upper plan is the child that leaves it out
pub child_without : (network : NetworkOf) (node middle : Node) (candidate : ℕ) (inside upper : List Bool) → IsOpenAt network node candidate →
    middle ≡ with_chosen node candidate → inside ≡ slice_set middle.inside candidate false → upper ≡ slice_set middle.upper candidate false →
    (record { inside = inside; upper = upper }) ≡ without_chosen node candidate
child_without network node middle candidate inside upper is_open same set_inside set_upper =
    ap₂ (λ (a b : List Bool). record { inside = a; upper = b })
    (set_inside ∙ ap (λ (n : Node). slice_set n.inside candidate false) same ∙ set_back node.inside candidate false true is_open.not_inside)
    (set_upper ∙ ap (λ (n : Node). slice_set n.upper candidate false) same)

-- and with the candidate back in the upper plan it is the node again
pub node_back : (network : NetworkOf) (node later : Node) (candidate : ℕ) (upper : List Bool) → IsOpenAt network node candidate →
    later ≡ without_chosen node candidate → upper ≡ slice_set later.upper candidate true → (record { inside = later.inside; upper = upper }) ≡ node
node_back network node later candidate upper is_open same set_upper =
    ap₂ (λ (a b : List Bool). record { inside = a; upper = b })
    (ap (λ (n : Node). n.inside) same)
    (set_upper ∙ ap (λ (n : Node). slice_set n.upper candidate true) same ∙ set_back node.upper candidate true false is_open.in_upper)

-- what a line that is a split says
pub IsOpenAt-line : (network : NetworkOf) (node : Node) (best best_now : Best) (found : LogLine) (candidate : ℕ) → found ≡ Split candidate →
    IsLineAt network node best best_now found → IsOpenAt network node candidate
IsOpenAt-line network node best best_now found candidate is here = (subst (λ (l : LogLine). IsLineAt network node best best_now l) is here).0

pub IsTrueBest-line : (network : NetworkOf) (node : Node) (best best_now : Best) (found : LogLine) (candidate : ℕ) → found ≡ Split candidate →
    IsLineAt network node best best_now found → best_now ≡ best
IsTrueBest-line network node best best_now found candidate is here = (subst (λ (l : LogLine). IsLineAt network node best best_now l) is here).1

pub unrefuted-line : (network : NetworkOf) (node : Node) (best best_now : Best) (found : LogLine) (candidate : ℕ) → found ≡ Split candidate →
    IsLineAt network node best best_now found → (k : ℕ) → IsNodeRefutedBy network node k → ⊥
unrefuted-line network node best best_now found candidate is here = (subst (λ (l : LogLine). IsLineAt network node best best_now l) is here).2

pub idle-line : (network : NetworkOf) (node : Node) (best best_now : Best) (found : LogLine) (candidate : ℕ) → found ≡ Split candidate →
    IsLineAt network node best best_now found → IsIdle network node (best_bound network best) → ⊥
idle-line network node best best_now found candidate is here = (subst (λ (l : LogLine). IsLineAt network node best best_now l) is here).3

pub SpellsOn-split : (cuts cuts_now : List CutTextOf) (text : List ℕ) (found : LogLine) (candidate : ℕ) → found ≡ Split candidate →
    SpellsOn cuts text (found ∷ []) cuts_now → SpellsOn cuts text (Split candidate ∷ []) cuts_now
SpellsOn-split cuts cuts_now text found candidate is spells = subst (λ (l : LogLine). SpellsOn cuts text (l ∷ []) cuts_now) is spells

pub Counts-line : (counts counts_now : Counts) (found : LogLine) (candidate : ℕ) → found ≡ Split candidate →
    counts_now ≡ counts_with counts (kind_of found ∷ []) → counts_now ≡ counts_with counts (kind_of (Split candidate) ∷ [])
Counts-line counts counts_now found candidate is counted = subst (λ (l : LogLine). counts_now ≡ counts_with counts (kind_of l ∷ [])) is counted

-- what is known of the best plan stays known of an equal one
pub IsTrueBest-same : (network : NetworkOf) (before now : Best) → now ≡ before → IsTrueBest network before → IsTrueBest network now
IsTrueBest-same network before now same kept = subst (λ best. IsTrueBest network best) (sym same) kept

pub IsNode-same : (network : NetworkOf) (node same_node : Node) → same_node ≡ node → IsNode network node → IsNode network same_node
IsNode-same network node same_node same is = subst (λ n. IsNode network n) (sym same) is

pub BreaksTree-same : (network : NetworkOf) (node same_node : Node) (name : List ℕ) (cuts : List CutTextOf) (why : SearchFault) (before now : ShelfState) → same_node ≡ node →
    BreaksTree network same_node name cuts why before now → BreaksTree network node name cuts why before now
BreaksTree-same network node same_node name cuts why before now same broken = subst (λ n. BreaksTree network n name cuts why before now) same broken

pub Explores-same : (network : NetworkOf) (node same_node : Node) (name : List ℕ) (cuts cuts_now : List CutTextOf) (old_best best best_now : Best) (counts counts_now : Counts) (before now : ShelfState) →
    same_node ≡ node → old_best ≡ best → Explores network same_node name cuts cuts_now old_best best_now counts counts_now before now →
    Explores network node name cuts cuts_now best best_now counts counts_now before now
Explores-same network node same_node name cuts cuts_now old_best best best_now counts counts_now before now same same_best explored =
    subst (λ b. Explores network node name cuts cuts_now b best_now counts counts_now before now) same_best
    (subst (λ n. Explores network n name cuts cuts_now old_best best_now counts counts_now before now) same explored)

-- the node of all plans is a node
pub IsNode-root : (network : NetworkOf) → IsNode network (root_of network)
IsNode-root network = record {
  inside_long = length-replicate (length network.candidates) false;
  upper_long = length-replicate (length network.candidates) true;
  within = subst (λ (n : ℕ). IsWithin (replicate n false) (replicate (length network.candidates) true)) (length-replicate (length network.candidates) true) (IsWithin-none (replicate (length network.candidates) true));
}

-- a plan is offered before the plans of a node are explored
pub Explores-after : (network : NetworkOf) (node : Node) (name : List ℕ) (cuts cuts_now : List CutTextOf) (best middle best_now : Best) (counts counts_now : Counts) (before now : ShelfState) →
    IsOffered network best middle → Explores network node name cuts cuts_now middle best_now counts counts_now before now →
    Explores network node name cuts cuts_now best best_now counts counts_now before now
Explores-after network node name cuts cuts_now best middle best_now counts counts_now before now offered explored = record {
  tree = explored.tree;
  text = explored.text;
  allowed = explored.allowed;
  spells = explored.spells;
  added = explored.added;
  counted = explored.counted;
  done = IsDone-after network node (bound_at network node explored.tree) best middle best_now offered explored.done;
  no_idle = λ earlier below. explored.no_idle earlier (no_more_then (best_bound network middle) (best_bound network best) earlier offered.falls below);
}
