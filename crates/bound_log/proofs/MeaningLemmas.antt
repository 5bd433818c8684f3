-- What lines of a log stand for, line by line; and that a text spells one tree.
use Rattle.std.proofs.Common.{◌≡◌, ℕ, List, [], ◌∷◌, ◌++◌, All, Option, Some, None, true, arith, refl, ap, sym, ◌∙◌, subst, append-nil, append_assoc}
use Rattle.std.specs.Prelude.{false}
use Rattle.std.proofs.lemmas.Grind.{flat_map-append}
use Rattle.std.proofs.lemmas.List.Elements.{All-cons, All-nil}
use Rattle.geo_model.specs.Network.{NetworkOf, IsNetwork}
use Rattle.bound_log.specs.declared.bound.Bound.{Bound}
use Rattle.bound_log.specs.declared.log_format.LogFormat.{LogFormat}
use Rattle.bound_log.specs.declared.log_format.LogFormat.TheVariants.{First, Second}
use Rattle.bound_log.specs.declared.log_leaf.LogLeaf.TheVariants.{Cost}
use Rattle.bound_log.specs.declared.log_line.LogLine.{LogLine}
use Rattle.bound_log.specs.declared.log_line.LogLine.TheVariants.{Leaf}
use Rattle.bound_log.specs.declared.named_line.NamedLine.{NamedLine}
use Rattle.bound_log.specs.declared.named_line.NamedLine.TheVariants.{Named}
use Rattle.bound_log.specs.CutText.{CutTextOf}
use Rattle.bound_log.specs.Formats.{IsShortLine, LineIn, texts_in}
use Rattle.bound_log.specs.LogText.{head_text, lines_text, log_text}
use Rattle.bound_log.specs.LogTree.{root_of, IsAllowed, IsLog, bound_at, HasBound}
use Rattle.bound_log.specs.Meanings.{Meaning, cuts_named, is_cut_in_range, joined_nodes, lacking, meaning_in, named_in, names_last, nodes_in, nodes_of, standing}
use Rattle.bound_log.specs.SpellsIn.{SpellsIn}
use Rattle.bound_log.specs.Tree.{Tree, tip, tree_lines}
use Rattle.bound_log.proofs.AllowedLemmas.{cost_allowed}
use Rattle.bound_log.proofs.FormatLemmas.{after_head_in, same_format, texts_in-apart}
use Rattle.bound_log.proofs.TreeLemmas.{allowed_numbers, same_tree}

-- ---- lines, one after another

joined_assoc : (a b c : Option (List LogLine)) → joined_nodes (joined_nodes a b) c ≡ joined_nodes a (joined_nodes b c)
joined_assoc None b c = refl
joined_assoc (Some xs) None c = refl
joined_assoc (Some xs) (Some ys) None = refl
joined_assoc (Some xs) (Some ys) (Some zs) = ap Some (append_assoc xs ys zs)

joined_none : (a : Option (List LogLine)) → joined_nodes (Some []) a ≡ a
joined_none None = refl
joined_none (Some xs) = refl

pub cuts_named-append : (format : LogFormat) (xs ys : List (LineIn format)) → cuts_named format (xs ++ ys) ≡ cuts_named format xs ++ cuts_named format ys
cuts_named-append format xs ys = flat_map-append (named_in format) xs ys

-- more lines stand for the lines after those of the ones before them
pub nodes_in-append : (format : LogFormat) (cuts : List CutTextOf) (xs ys : List (LineIn format)) → nodes_in format cuts (xs ++ ys) ≡ joined_nodes (nodes_in format cuts xs) (nodes_in format (cuts ++ cuts_named format xs) ys)
nodes_in-append format cuts [] ys =
    sym (joined_none (nodes_in format (cuts ++ []) ys) ∙ ap (λ (c : List CutTextOf). nodes_in format c ys) (append-nil cuts))
nodes_in-append format cuts (x ∷ xs) ys =
    let here = nodes_of (meaning_in format cuts x) in
    let named : (cuts ++ named_in format x) ++ cuts_named format xs ≡ cuts ++ (named_in format x ++ cuts_named format xs) = append_assoc cuts (named_in format x) (cuts_named format xs) in
    ap (joined_nodes here) (nodes_in-append format (cuts ++ named_in format x) xs ys)
    ∙ sym (joined_assoc here (nodes_in format (cuts ++ named_in format x) xs) (nodes_in format ((cuts ++ named_in format x) ++ cuts_named format xs) ys))
    ∙ ap (λ (c : List CutTextOf). joined_nodes (joined_nodes here (nodes_in format (cuts ++ named_in format x) xs)) (nodes_in format c ys)) named

-- one line
pub standing_alone : (format : LogFormat) (cuts : List CutTextOf) (line : LineIn format) (node : LogLine) → meaning_in format cuts line ≡ standing node → nodes_in format cuts (line ∷ []) ≡ Some (node ∷ [])
standing_alone format cuts line node is = ap (λ (m : Meaning). joined_nodes (nodes_of m) (Some [])) is

pub lacking_alone : (format : LogFormat) (cuts : List CutTextOf) (line : LineIn format) → meaning_in format cuts line ≡ lacking → nodes_in format cuts (line ∷ []) ≡ None
lacking_alone format cuts line is = ap (λ (m : Meaning). joined_nodes (nodes_of m) (Some [])) is

-- after a name the lines stand for what they do where its cut is named
pub named_first : (cuts : List CutTextOf) (cut : CutTextOf) (lines : List NamedLine) → nodes_in Second cuts (Named cut ∷ lines) ≡ nodes_in Second (cuts ++ cut ∷ []) lines
named_first cuts cut lines = joined_none (nodes_in Second (cuts ++ cut ∷ []) lines)

-- in format 1 lines stand for themselves, and name no cut
pub nodes_in-first : (cuts : List CutTextOf) (lines : List LogLine) → nodes_in First cuts lines ≡ Some lines
nodes_in-first cuts [] = refl
nodes_in-first cuts (line ∷ lines) = ap (joined_nodes (Some (line ∷ []))) (nodes_in-first (cuts ++ []) lines)

pub cuts_named-first : (lines : List LogLine) → cuts_named First lines ≡ []
cuts_named-first [] = refl
cuts_named-first (line ∷ lines) = cuts_named-first lines

pub names_last-first : (lines : List LogLine) → names_last First lines ≡ false
names_last-first [] = refl
names_last-first (line ∷ []) = refl
names_last-first (line ∷ next ∷ lines) = names_last-first (next ∷ lines)

-- ---- a text spells one tree

pub record SpellSame (a b : LogFormat) (names others : List CutTextOf) (tree other : Tree) : Type 0 where
  pub format : a ≡ b
  pub cuts : names ≡ others
  pub trees : tree ≡ other

some_same : (xs ys : List LogLine) → Some xs ≡ Some ys → xs ≡ ys
some_same xs ys same = cc

pub spell_same_in : (format : LogFormat) (text : List ℕ) (names others : List CutTextOf) (a b : Tree) → SpellsIn format text names a → SpellsIn format text others b → (names ≡ others) × (a ≡ b)
spell_same_in format text names others a b first second =
    let after : texts_in format first.lines ≡ texts_in format second.lines =
    sym (append-nil (texts_in format first.lines)) ∙ after_head_in format text first.lines second.lines [] [] first.begins second.begins ∙ append-nil (texts_in format second.lines) in
    let lines : first.lines ≡ second.lines = texts_in-apart format first.lines second.lines first.begins.numbers second.begins.numbers after in
    let nodes : tree_lines a ≡ tree_lines b = some_same (tree_lines a) (tree_lines b) (sym first.stand ∙ ap (nodes_in format []) lines ∙ second.stand) in
    (sym first.named ∙ ap (cuts_named format) lines ∙ second.named, (same_tree a b [] [] (ap (λ l. l ++ []) nodes)).tree)

pub spell_same : (a b : LogFormat) (text : List ℕ) (names others : List CutTextOf) (tree other : Tree) → SpellsIn a text names tree → SpellsIn b text others other → SpellSame a b names others tree other
spell_same a b text names others tree other first second =
    let format : a ≡ b = same_format a b text first.lines second.lines [] [] first.begins second.begins in
    let both = spell_same_in b text names others tree other (subst (λ (f : LogFormat). SpellsIn f text names tree) format first) second in
    record { format = format; cuts = both.0; trees = both.1 }

-- ---- the text of format 1

pub first_spelled : (text : List ℕ) (cuts : List CutTextOf) (tree : Tree) → SpellsIn First text cuts tree → (text ≡ log_text tree) × (cuts ≡ [])
first_spelled text cuts tree spells =
    let lines : spells.lines ≡ tree_lines tree = some_same spells.lines (tree_lines tree) (sym (nodes_in-first [] spells.lines) ∙ spells.stand) in (
      spells.begins.spelled ∙ ap (λ (l : List LogLine). head_text ++ (lines_text l ++ [])) lines ∙ ap (λ (t : List ℕ). head_text ++ t) (append-nil (lines_text (tree_lines tree))),
      sym spells.named ∙ cuts_named-first spells.lines,
    )

pub spells_first : (text : List ℕ) (tree : Tree) → All (IsShortLine First) (tree_lines tree) → text ≡ log_text tree → SpellsIn First text [] tree
spells_first text tree small is = record {
  lines = tree_lines tree;
  begins = record { spelled = is ∙ ap (λ (t : List ℕ). head_text ++ t) (sym (append-nil (lines_text (tree_lines tree)))); numbers = small };
  stand = nodes_in-first [] (tree_lines tree);
  named = cuts_named-first (tree_lines tree);
  last = names_last-first (tree_lines tree);
}

-- a text that is a log of a network is one log
pub one_log : (network : NetworkOf) (text : List ℕ) (a b : Tree) → IsLog network text a → IsLog network text b → a ≡ b
one_log network text a b one other = (spell_same one.format other.format text one.cuts other.cuts a b one.spells other.spells).trees

-- the log of a tree that is allowed, in format 1
pub first_log : (network : NetworkOf) (tree : Tree) → IsNetwork network → IsAllowed network (root_of network) tree → IsLog network (log_text tree) tree
first_log network tree bounds allowed = record {
  format = First;
  cuts = [];
  spells = spells_first (log_text tree) tree (allowed_numbers network (root_of network) tree bounds allowed) refl;
  named = record { few = omega arith; each = All-nil (λ (cut : CutTextOf). is_cut_in_range network cut ≡ true) };
  allowed = allowed;
}

-- the log of the price alone
pub cost_log : (network : NetworkOf) → IsLog network (log_text (tip Cost)) (tip Cost)
cost_log network = record {
  format = First;
  cuts = [];
  spells = spells_first (log_text (tip Cost)) (tip Cost) (All-cons (IsShortLine First) (Leaf Cost) [] tt (All-nil (IsShortLine First))) refl;
  named = record { few = omega arith; each = All-nil (λ (cut : CutTextOf). is_cut_in_range network cut ≡ true) };
  allowed = cost_allowed network (root_of network);
}

-- a text that is a log of a network has one bound
pub one_bound : (network : NetworkOf) (text : List ℕ) (a b : Bound) → HasBound network text a → HasBound network text b → a ≡ b
one_bound network text a b one other = one.least ∙ ap (bound_at network (root_of network)) (one_log network text one.tree other.tree one.log other.log) ∙ sym other.least

-- logs of one tree have one bound
pub one_tree_bound : (network : NetworkOf) (tree : Tree) (text other : List ℕ) (a b : Bound) → IsLog network text tree → IsLog network other tree → HasBound network text a → HasBound network other b → a ≡ b
one_tree_bound network tree text other a b first second has also =
    has.least
    ∙ ap (bound_at network (root_of network)) (one_log network text has.tree tree has.log first ∙ one_log network other tree also.tree second also.log)
    ∙ sym also.least
