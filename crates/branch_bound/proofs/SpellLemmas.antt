-- Texts that go on a log of format 2, one after another.
use Rattle.std.proofs.Common.{◌≡◌, ℕ, false, List, [], ◌∷◌, ◌++◌, All, map, ltb, length, refl, sym, ap, ap₂, ◌∙◌, subst, append-nil, append_assoc, Some}
use Rattle.std.proofs.lemmas.Grind.{flat_map-append}
use Rattle.std.proofs.lemmas.List.{map-append}
use Rattle.std.proofs.lemmas.List.Elements.{All-append, All-cons, All-nil}
use Rattle.geo_model.specs.Network.{NetworkOf}
use Rattle.bound_log.specs.CutText.{CutTextOf}
use Rattle.bound_log.specs.Formats.{IsShortLine, text_in, texts_in}
use Rattle.bound_log.specs.LogTree.{root_of, IsAllowed, IsLog}
use Rattle.bound_log.specs.Meanings.{cuts_named, joined_nodes, named_by, named_meaning, names_last, nodes_in, standing}
use Rattle.bound_log.specs.NamedText.{named_text, second_head_text}
use Rattle.bound_log.specs.SpellsIn.{SpellsIn}
use Rattle.bound_log.specs.Tree.{Tree, tree_lines}
use Rattle.bound_log.specs.declared.log_format.LogFormat.TheVariants.{Second}
use Rattle.bound_log.specs.declared.log_line.LogLine.{LogLine}
use Rattle.bound_log.specs.declared.named_line.NamedLine.{NamedLine}
use Rattle.bound_log.specs.declared.named_line.NamedLine.TheVariants.{Named}
use Rattle.bound_log.proofs.MeaningLemmas.{cuts_named-append, nodes_in-append, standing_alone}
use Rattle.branch_bound.specs.Naming.{AreNamesOnce}
use Rattle.branch_bound.specs.Logged.{NamesEachOnce}
use Rattle.branch_bound.specs.Spelled.{SpellsOn, PutsNames, PutsLine}

-- ---- one after another

last-append : (xs ys : List NamedLine) → names_last Second xs ≡ false → names_last Second ys ≡ false → names_last Second (xs ++ ys) ≡ false
last-append [] ys one two = two
last-append (x ∷ []) [] one two = one
last-append (x ∷ []) (y ∷ ys) one two = two
last-append (x ∷ z ∷ xs) ys one two = last-append (z ∷ xs) ys one two

pub SpellsOn-then : (before middle now : List CutTextOf) (first second : List ℕ) (xs ys : List LogLine) →
    SpellsOn before first xs middle → SpellsOn middle second ys now → SpellsOn before (first ++ second) (xs ++ ys) now
SpellsOn-then before middle now first second xs ys one two = record {
  lines = one.lines ++ two.lines;
  spelled = ap₂ (λ (a b : List ℕ). a ++ b) one.spelled two.spelled ∙ sym (flat_map-append (text_in Second) one.lines two.lines);
  short = All-append (IsShortLine Second) one.lines two.lines one.short two.short;
  stand = nodes_in-append Second before one.lines two.lines
      ∙ ap₂ joined_nodes one.stand (ap (λ (c : List CutTextOf). nodes_in Second c two.lines) (sym one.named) ∙ two.stand);
  named = two.named ∙ ap (λ (c : List CutTextOf). c ++ cuts_named Second two.lines) one.named
      ∙ append_assoc before (cuts_named Second one.lines) (cuts_named Second two.lines)
      ∙ ap (λ (c : List CutTextOf). before ++ c) (sym (cuts_named-append Second one.lines two.lines));
  last = last-append one.lines two.lines one.last two.last;
}

-- ---- names, and then a line of the tree

-- lines that name cuts stand for no line of the tree
naming_nodes : (before cuts : List CutTextOf) → nodes_in Second before (map Named cuts) ≡ Some []
naming_nodes before [] = refl
naming_nodes before (cut ∷ cuts) = ap (joined_nodes (Some [])) (naming_nodes (before ++ cut ∷ []) cuts)

naming_cuts : (cuts : List CutTextOf) → cuts_named Second (map Named cuts) ≡ cuts
naming_cuts [] = refl
naming_cuts (cut ∷ cuts) = ap (λ (more : List CutTextOf). cut ∷ more) (naming_cuts cuts)

last_line : (xs : List NamedLine) (line : NamedLine) → named_by line ≡ [] → names_last Second (xs ++ line ∷ []) ≡ false
last_line [] line none = ap (λ (c : List CutTextOf). ltb 0 (length c)) none
last_line (x ∷ []) line none = ap (λ (c : List CutTextOf). ltb 0 (length c)) none
last_line (x ∷ z ∷ xs) line none = last_line (z ∷ xs) line none

SpellsOn-named : (before cuts now : List CutTextOf) (line : NamedLine) (node : LogLine) → All (IsShortLine Second) (map Named cuts) → IsShortLine Second line →
    now ≡ before ++ cuts → named_meaning now line ≡ standing node → named_by line ≡ [] →
    SpellsOn before (texts_in Second (map Named cuts) ++ named_text line) (node ∷ []) now
SpellsOn-named before cuts now line node short_names short grown means none =
    let names = map Named cuts in
    let all : cuts_named Second (names ++ line ∷ []) ≡ cuts =
    cuts_named-append Second names (line ∷ []) ∙ ap₂ (λ (a b : List CutTextOf). a ++ (b ++ [])) (naming_cuts cuts) none ∙ append-nil cuts in
    let here : named_meaning (before ++ cuts_named Second names) line ≡ standing node =
    ap (λ (c : List CutTextOf). named_meaning (before ++ c) line) (naming_cuts cuts) ∙ ap (λ (c : List CutTextOf). named_meaning c line) (sym grown) ∙ means in
    record {
      lines = names ++ line ∷ [];
      spelled = ap (λ (t : List ℕ). texts_in Second names ++ t) (sym (append-nil (named_text line))) ∙ sym (flat_map-append (text_in Second) names (line ∷ []));
      short = All-append (IsShortLine Second) names (line ∷ []) short_names (All-cons (IsShortLine Second) line [] short (All-nil (IsShortLine Second)));
      stand = nodes_in-append Second before names (line ∷ [])
          ∙ ap₂ joined_nodes (naming_nodes before cuts) (standing_alone Second (before ++ cuts_named Second names) line node here);
      named = grown ∙ ap (λ (c : List CutTextOf). before ++ c) (sym all);
      last = last_line names line none;
    }

pub SpellsOn-line : (names : List CutTextOf) (line : NamedLine) (node : LogLine) → IsShortLine Second line → named_meaning names line ≡ standing node → named_by line ≡ [] →
    SpellsOn names (named_text line) (node ∷ []) names
SpellsOn-line names line node short means none =
    SpellsOn-named names [] names line node (All-nil (IsShortLine Second)) short (sym (append-nil names)) means none

-- ---- what is put at the end of a text

pub PutsNames-none : (before : List CutTextOf) (out : List ℕ) → PutsNames before out out before
PutsNames-none before out = record {
  cuts = [];
  named = sym (append-nil before);
  put = sym (append-nil out);
  short = All-nil (IsShortLine Second);
}

pub PutsNames-one : (before now : List CutTextOf) (cut : CutTextOf) (out out_now : List ℕ) → now ≡ before ++ cut ∷ [] → out_now ≡ out ++ named_text (Named cut) →
    IsShortLine Second (Named cut) → PutsNames before out out_now now
PutsNames-one before now cut out out_now grown put short = record {
  cuts = cut ∷ [];
  named = grown;
  put = put ∙ ap (λ (t : List ℕ). out ++ t) (sym (append-nil (named_text (Named cut))));
  short = All-cons (IsShortLine Second) (Named cut) [] short (All-nil (IsShortLine Second));
}

pub PutsNames-then : (before middle now : List CutTextOf) (out out_then out_now : List ℕ) → PutsNames before out out_then middle → PutsNames middle out_then out_now now →
    PutsNames before out out_now now
PutsNames-then before middle now out out_then out_now one two = record {
  cuts = one.cuts ++ two.cuts;
  named = two.named ∙ ap (λ (c : List CutTextOf). c ++ two.cuts) one.named ∙ append_assoc before one.cuts two.cuts;
  put = two.put ∙ ap (λ (t : List ℕ). t ++ texts_in Second (map Named two.cuts)) one.put
      ∙ append_assoc out (texts_in Second (map Named one.cuts)) (texts_in Second (map Named two.cuts))
      ∙ ap (λ (t : List ℕ). out ++ t) (sym (flat_map-append (text_in Second) (map Named one.cuts) (map Named two.cuts)))
      ∙ ap (λ (l : List NamedLine). out ++ texts_in Second l) (sym (map-append Named one.cuts two.cuts));
  short = subst (λ (l : List NamedLine). All (IsShortLine Second) l) (sym (map-append Named one.cuts two.cuts))
      (All-append (IsShortLine Second) (map Named one.cuts) (map Named two.cuts) one.short two.short);
}

pub PutsLine-named : (before now : List CutTextOf) (out out_then out_now : List ℕ) (line : NamedLine) (node : LogLine) → PutsNames before out out_then now →
    out_now ≡ out_then ++ named_text line → IsShortLine Second line → named_meaning now line ≡ standing node → named_by line ≡ [] →
    PutsLine before out out_now node now
PutsLine-named before now out out_then out_now line node names put short means none = record {
  text = texts_in Second (map Named names.cuts) ++ named_text line;
  put = put ∙ ap (λ (t : List ℕ). t ++ named_text line) names.put ∙ append_assoc out (texts_in Second (map Named names.cuts)) (named_text line);
  spells = SpellsOn-named before names.cuts now line node names.short short names.named means none;
}

pub PutsLine-plain : (names : List CutTextOf) (out out_now : List ℕ) (line : NamedLine) (node : LogLine) → out_now ≡ out ++ named_text line → IsShortLine Second line →
    named_meaning names line ≡ standing node → named_by line ≡ [] → PutsLine names out out_now node names
PutsLine-plain names out out_now line node put short means none =
    PutsLine-named names names out out out_now line node (PutsNames-none names out) put short means none

-- ---- a whole log

pub spells_log : (cuts : List CutTextOf) (text : List ℕ) (tree : Tree) → SpellsOn [] text (tree_lines tree) cuts → SpellsIn Second (second_head_text ++ text) cuts tree
spells_log cuts text tree on = record {
  lines = on.lines;
  begins = record { spelled = ap (λ (t : List ℕ). second_head_text ++ t) (on.spelled ∙ sym (append-nil (texts_in Second on.lines))); numbers = on.short };
  stand = on.stand;
  named = sym on.named;
  last = on.last;
}

pub second_log : (network : NetworkOf) (cuts : List CutTextOf) (text : List ℕ) (tree : Tree) → IsAllowed network (root_of network) tree → AreNamesOnce network cuts →
    SpellsOn [] text (tree_lines tree) cuts → (log : IsLog network (second_head_text ++ text) tree) × NamesEachOnce network (second_head_text ++ text) tree log
second_log network cuts text tree allowed named on =
    let log : IsLog network (second_head_text ++ text) tree =
    record { format = Second; cuts = cuts; spells = spells_log cuts text tree on; named = named.names; allowed = allowed } in
    (log, record { second = refl; once = named.once })
