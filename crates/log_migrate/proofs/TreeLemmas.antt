-- A migrated log is a log of the tree.
use Rattle.std.proofs.Common.{◌≡◌, ℕ, ◌≤◌, true, List, [], ◌∷◌, ◌++◌, All, Some, length, map, ap, sym, append-nil}
use Rattle.std.specs.Prelude.{flat_map, slice_get}
use Rattle.std.proofs.lemmas.Bool.{and_from, lt-ltb}
use Rattle.std.proofs.lemmas.List.Elements.{All-nil, All-cons, All-head, All-tail, All-append}
use Rattle.std.proofs.lemmas.Option.{slice_get_within}
use Rattle.geo_model.specs.Limit.{LimitOf}
use Rattle.geo_model.specs.Network.{NetworkOf}
use Rattle.geo_model.specs.declared.plan.Node.{Node}
use Rattle.bound_log.specs.CutText.{CutTextOf}
use Rattle.bound_log.specs.Formats.{IsShortLine, head_text_in, texts_in}
use Rattle.bound_log.specs.LogTree.{IsAllowed, IsLineShareAt, IsLog, root_of, with_chosen, without_chosen}
use Rattle.bound_log.specs.Meanings.{is_cut_in_range}
use Rattle.bound_log.specs.Rules.{IsAllowedLine, is_displacement}
use Rattle.bound_log.specs.SpellsIn.{SpellsIn}
use Rattle.bound_log.specs.Tree.{Tree, fork, tip, tree_lines}
use Rattle.bound_log.specs.declared.log_format.LogFormat.TheVariants.{First, Second}
use Rattle.bound_log.specs.declared.log_leaf.LogLeaf.TheVariants.{Cost, Pivot, Cut, Dual}
use Rattle.bound_log.specs.declared.log_line.LogLine.{LogLine}
use Rattle.bound_log.specs.declared.log_line.LogLine.TheVariants.{Split, Leaf}
use Rattle.std.proofs.lemmas.Grind.{flat_map-append}
use Rattle.bound_log.proofs.AllowedLemmas.{cut_broken, dual_at}
use Rattle.log_migrate.specs.FirstUse.{cuts_needed, cuts_used, lines_with_names, migrated_text}
use Rattle.log_migrate.proofs.FirstUseLemmas.{used_each}
use Rattle.log_migrate.proofs.LineLemmas.{lines_last, lines_names, lines_nodes, lines_short}

abbrev InRange : NetworkOf → CutTextOf → Type 0
InRange network cut = is_cut_in_range network cut ≡ true

-- a cut of a limit of the network and a displacement is in its ranges
cut_in_range : (network : NetworkOf) (cut : CutTextOf) (limit : LimitOf) → slice_get network.limits cut.limit ≡ Some limit → is_displacement (length network.unknowns) cut.pairs ≡ true → InRange network cut
cut_in_range network cut limit named displacement =
    and_from _ _ (lt-ltb cut.limit (length network.limits) (slice_get_within network.limits cut.limit limit named)) displacement

shares_in_range : (network : NetworkOf) (node : Node) (shares : List (ℕ × CutTextOf)) → All (IsLineShareAt network node) shares → All (InRange network) (map (λ share. share.1) shares)
shares_in_range network node [] each = All-nil (InRange network)
shares_in_range network node (share ∷ shares) each =
    let here = All-head (IsLineShareAt network node) share shares each in
    All-cons (InRange network) share.1 (map (λ s. s.1) shares) (cut_in_range network share.1 here.limit here.named here.displacement)
    (shares_in_range network node shares (All-tail (IsLineShareAt network node) share shares each))

-- the cuts that an allowed line uses are in their ranges
line_in_range : (network : NetworkOf) (node : Node) (line : LogLine) → IsAllowedLine network node line → All (InRange network) (cuts_used line)
line_in_range network node (Split candidate) allowed = All-nil (InRange network)
line_in_range network node (Leaf Cost) allowed = All-nil (InRange network)
line_in_range network node (Leaf (Pivot limit)) allowed = All-nil (InRange network)
line_in_range network node (Leaf (Cut cut)) allowed =
    let broken = cut_broken network node cut allowed in
    All-cons (InRange network) cut [] (cut_in_range network cut broken.limit broken.named broken.displacement) (All-nil (InRange network))
line_in_range network node (Leaf (Dual divisor shares)) allowed = shares_in_range network node shares (dual_at network node divisor shares allowed).each

tree_in_range : (network : NetworkOf) (node : Node) (tree : Tree) → IsAllowed network node tree → All (InRange network) (flat_map cuts_used (tree_lines tree))
tree_in_range network node (tip end) allowed =
    All-append (InRange network) (cuts_used (Leaf end)) [] (line_in_range network node (Leaf end) allowed) (All-nil (InRange network))
tree_in_range network node (fork candidate with_it without_it) allowed =
    let first = tree_lines with_it in
    let second = tree_lines without_it in
    rw (flat_map-append cuts_used first second)
    (All-append (InRange network) (flat_map cuts_used first) (flat_map cuts_used second)
    (tree_in_range network (with_chosen node candidate) with_it allowed.1)
    (tree_in_range network (without_chosen node candidate) without_it allowed.2))

-- the migrated text spells the tree
pub migrated_spells : (tree : Tree) → All (IsShortLine First) (tree_lines tree) → length (cuts_needed (tree_lines tree)) ≤ 65536 → SpellsIn Second (migrated_text tree) (cuts_needed (tree_lines tree)) tree
migrated_spells tree short few = record {
  lines = lines_with_names [] (tree_lines tree);
  begins = record {
    spelled = ap (λ (t : List ℕ). head_text_in Second ++ t) (sym (append-nil (texts_in Second (lines_with_names [] (tree_lines tree)))));
    numbers = lines_short [] (tree_lines tree) few short;
  };
  stand = lines_nodes [] (tree_lines tree);
  named = lines_names [] (tree_lines tree);
  last = lines_last [] (tree_lines tree);
}

-- .. and is a log of each network of which the tree is one
pub migrated_log : (network : NetworkOf) (tree : Tree) → IsAllowed network (root_of network) tree → All (IsShortLine First) (tree_lines tree) → length (cuts_needed (tree_lines tree)) ≤ 65536 → IsLog network (migrated_text tree) tree
migrated_log network tree allowed short few = record {
  format = Second;
  cuts = cuts_needed (tree_lines tree);
  spells = migrated_spells tree short few;
  named = record { few = few; each = used_each (InRange network) [] (flat_map cuts_used (tree_lines tree)) (tree_in_range network (root_of network) tree allowed) };
  allowed = allowed;
}
