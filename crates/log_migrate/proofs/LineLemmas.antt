-- The lines of a migrated log: what they stand for, what they name, and their numbers.
use Rattle.std.proofs.Common.{◌≡◌, ℕ, ◌<◌, ◌≤◌, ◌^◌, List, [], ◌∷◌, ◌++◌, All, Option, Some, length, map, arith, refl, ap, ap₂, sym, ◌∙◌, subst, append-nil, append_assoc, length-append}
use Rattle.std.specs.Prelude.{false, flat_map}
use Rattle.std.proofs.lemmas.List.{length-map}
use Rattle.std.proofs.lemmas.List.Elements.{All-nil, All-cons, All-head, All-tail, All-append, All-map}
use Rattle.bound_log.specs.CutText.{CutTextOf, cut_numbers}
use Rattle.bound_log.specs.DualText.{share_numbers}
use Rattle.bound_log.specs.Formats.{IsShortLine}
use Rattle.bound_log.specs.Meanings.{cuts_named, found_share, found_use, joined_nodes, named_by, named_meaning, names_last, nodes_in, standing}
use Rattle.bound_log.specs.Numbers.{AreShort}
use Rattle.bound_log.specs.UseText.{use_numbers}
use Rattle.bound_log.specs.declared.log_format.LogFormat.TheVariants.{First, Second}
use Rattle.bound_log.specs.declared.log_leaf.LogLeaf.TheVariants.{Cost, Pivot, Cut, Dual}
use Rattle.bound_log.specs.declared.log_line.LogLine.{LogLine}
use Rattle.bound_log.specs.declared.log_line.LogLine.TheVariants.{Split, Leaf}
use Rattle.bound_log.specs.declared.named_line.NamedLine.{NamedLine}
use Rattle.bound_log.specs.declared.named_line.NamedLine.TheVariants.{Named}
use Rattle.bound_log.proofs.ItemLemmas.{short_first, short_rest}
use Rattle.bound_log.proofs.MeaningLemmas.{cuts_named-append, named_first, nodes_in-append, standing_alone}
use Rattle.bound_log.proofs.UseRuleLemmas.{dual_means, use_means}
use Rattle.log_migrate.specs.FirstUse.{cuts_used, first_used, line_with_names, lines_with_names, named_after, number_among, numbered_line, numbered_share}
use Rattle.log_migrate.specs.NewLog.{IsShortCut}
use Rattle.log_migrate.proofs.NumberLemmas.{number_most, number_of_cut}
use Rattle.log_migrate.proofs.FirstUseLemmas.{IsKnown, used_append, used_are_known, used_each}

-- ---- what numbers stand for

found_all : (named : List CutTextOf) (shares : List (ℕ × CutTextOf)) → All (IsKnown named) (map (λ share. share.1) shares) →
    map (found_use named) (map (numbered_share named) shares) ≡ map found_share shares
found_all named [] known = refl
found_all named (share ∷ shares) known =
    let here = number_of_cut named share.1 (All-head (IsKnown named) share.1 (map (λ s. s.1) shares) known) in
    ap₂ (λ (s : ℕ × Option CutTextOf) (rest : List (ℕ × Option CutTextOf)). s ∷ rest) (ap (λ (c : Option CutTextOf). (share.0, c)) here)
    (found_all named shares (All-tail (IsKnown named) share.1 (map (λ s. s.1) shares) known))

pub numbered_means : (named : List CutTextOf) (line : LogLine) → All (IsKnown named) (cuts_used line) → named_meaning named (numbered_line named line) ≡ standing line
numbered_means named (Split candidate) known = refl
numbered_means named (Leaf Cost) known = refl
numbered_means named (Leaf (Pivot limit)) known = refl
numbered_means named (Leaf (Cut cut)) known = use_means named (number_among named cut) cut (number_of_cut named cut (All-head (IsKnown named) cut [] known))
numbered_means named (Leaf (Dual divisor shares)) known = dual_means named divisor (map (numbered_share named) shares) shares (found_all named shares known)

-- ---- names

-- names, and the lines after them
pub names_nodes : (named names : List CutTextOf) (lines : List NamedLine) → nodes_in Second named (map Named names ++ lines) ≡ nodes_in Second (named ++ names) lines
names_nodes named [] lines = ap (λ (n : List CutTextOf). nodes_in Second n lines) (sym (append-nil named))
names_nodes named (cut ∷ names) lines =
    named_first named cut (map Named names ++ lines) ∙ names_nodes (named ++ cut ∷ []) names lines
    ∙ ap (λ (n : List CutTextOf). nodes_in Second n lines) (append_assoc named (cut ∷ []) names)

names_named : (names : List CutTextOf) → cuts_named Second (map Named names) ≡ names
names_named [] = refl
names_named (cut ∷ names) = ap (λ (n : List CutTextOf). cut ∷ n) (names_named names)

-- a numbered line names no cut
numbered_names : (named : List CutTextOf) (line : LogLine) → named_by (numbered_line named line) ≡ []
numbered_names named (Split candidate) = refl
numbered_names named (Leaf Cost) = refl
numbered_names named (Leaf (Pivot limit)) = refl
numbered_names named (Leaf (Cut cut)) = refl
numbered_names named (Leaf (Dual divisor shares)) = refl

-- ---- a line with its names

abbrev fresh : List CutTextOf → LogLine → List CutTextOf
fresh named line = first_used named (cuts_used line)

line_names : (named : List CutTextOf) (line : LogLine) → cuts_named Second (line_with_names named line) ≡ fresh named line
line_names named line =
    cuts_named-append Second (map Named (fresh named line)) (numbered_line (named_after named line) line ∷ [])
    ∙ ap₂ (λ (a b : List CutTextOf). a ++ (b ++ [])) (names_named (fresh named line)) (numbered_names (named_after named line) line)
    ∙ append-nil (fresh named line)

line_nodes : (named : List CutTextOf) (line : LogLine) → nodes_in Second named (line_with_names named line) ≡ Some (line ∷ [])
line_nodes named line =
    let after = named_after named line in
    names_nodes named (fresh named line) (numbered_line after line ∷ [])
    ∙ standing_alone Second after (numbered_line after line) line (numbered_means after line (used_are_known named (cuts_used line)))

-- ---- lines

pub lines_nodes : (named : List CutTextOf) (lines : List LogLine) → nodes_in Second named (lines_with_names named lines) ≡ Some lines
lines_nodes named [] = refl
lines_nodes named (line ∷ lines) =
    let rest = lines_with_names (named_after named line) lines in
    nodes_in-append Second named (line_with_names named line) rest
    ∙ ap (λ (n : List CutTextOf). joined_nodes (nodes_in Second named (line_with_names named line)) (nodes_in Second (named ++ n) rest)) (line_names named line)
    ∙ ap₂ joined_nodes (line_nodes named line) (lines_nodes (named_after named line) lines)

pub lines_names : (named : List CutTextOf) (lines : List LogLine) → cuts_named Second (lines_with_names named lines) ≡ first_used named (flat_map cuts_used lines)
lines_names named [] = refl
lines_names named (line ∷ lines) =
    cuts_named-append Second (line_with_names named line) (lines_with_names (named_after named line) lines)
    ∙ ap₂ (λ (a b : List CutTextOf). a ++ b) (line_names named line) (lines_names (named_after named line) lines)
    ∙ sym (used_append named (cuts_used line) (flat_map cuts_used lines))

-- ---- no name is last

names_before : (names : List CutTextOf) (line : NamedLine) (rest : List NamedLine) → names_last Second (map Named names ++ line ∷ rest) ≡ names_last Second (line ∷ rest)
names_before [] line rest = refl
names_before (cut ∷ []) line rest = refl
names_before (cut ∷ next ∷ names) line rest = names_before (next ∷ names) line rest

line_before : (line : NamedLine) (rest : List NamedLine) → named_by line ≡ [] → names_last Second rest ≡ false → names_last Second (line ∷ rest) ≡ false
line_before line [] none last = rw none refl
line_before line (next ∷ rest) none last = last

pub lines_last : (named : List CutTextOf) (lines : List LogLine) → names_last Second (lines_with_names named lines) ≡ false
lines_last named [] = refl
lines_last named (line ∷ lines) =
    let after = named_after named line in
    let rest = lines_with_names after lines in
    let names = map Named (fresh named line) in
    ap (names_last Second) (append_assoc names (numbered_line after line ∷ []) rest)
    ∙ names_before (fresh named line) (numbered_line after line) rest
    ∙ line_before (numbered_line after line) rest (numbered_names after line) (lines_last after lines)

-- ---- short numbers

shares_short : (shares : List (ℕ × CutTextOf)) → AreShort (flat_map share_numbers shares) → All IsShortCut (map (λ share. share.1) shares)
shares_short [] short = All-nil IsShortCut
shares_short (share ∷ shares) short =
    let rest = flat_map share_numbers shares in
    All-cons IsShortCut share.1 (map (λ s. s.1) shares) (short_first (cut_numbers share.1) rest short.1) (shares_short shares (short_rest (cut_numbers share.1) rest short.1))

pub used_short : (line : LogLine) → IsShortLine First line → All IsShortCut (cuts_used line)
used_short (Split candidate) short = All-nil IsShortCut
used_short (Leaf Cost) short = All-nil IsShortCut
used_short (Leaf (Pivot limit)) short = All-nil IsShortCut
used_short (Leaf (Cut cut)) short = All-cons IsShortCut cut [] short (All-nil IsShortCut)
used_short (Leaf (Dual divisor shares)) short = shares_short shares short.1.1

-- a number of a cut is short
number_short : (named : List CutTextOf) (cut : CutTextOf) → length named ≤ 65536 → number_among named cut < 10 ^ 19
number_short named cut few = omega (arith, few, number_most named cut)

numbered_shares_short : (named : List CutTextOf) (shares : List (ℕ × CutTextOf)) → length named ≤ 65536 → AreShort (flat_map share_numbers shares) → AreShort (flat_map use_numbers (map (numbered_share named) shares))
numbered_shares_short named [] few short = tt
numbered_shares_short named (share ∷ shares) few short =
    (short.0, (number_short named share.1 few, numbered_shares_short named shares few (short_rest (cut_numbers share.1) (flat_map share_numbers shares) short.1)))

numbered_short : (named : List CutTextOf) (line : LogLine) → length named ≤ 65536 → IsShortLine First line → IsShortLine Second (numbered_line named line)
numbered_short named (Split candidate) few short = short
numbered_short named (Leaf Cost) few short = tt
numbered_short named (Leaf (Pivot limit)) few short = short
numbered_short named (Leaf (Cut cut)) few short = (number_short named cut few, tt)
numbered_short named (Leaf (Dual divisor shares)) few short =
    (short.0, (subst (λ n. n < 10 ^ 19) (sym (length-map shares (numbered_share named))) short.1.0, numbered_shares_short named shares few short.1.1))

names_short : (names : List CutTextOf) → All IsShortCut names → All (IsShortLine Second) (map Named names)
names_short names short = All-map (IsShortLine Second) Named names short

-- the cuts that are named after lines and further ones
named_on : (named : List CutTextOf) (line : LogLine) (lines : List LogLine) →
    named ++ first_used named (flat_map cuts_used (line ∷ lines)) ≡ named_after named line ++ first_used (named_after named line) (flat_map cuts_used lines)
named_on named line lines =
    let rest = flat_map cuts_used lines in
    ap (λ (f : List CutTextOf). named ++ f) (used_append named (cuts_used line) rest)
    ∙ sym (append_assoc named (fresh named line) (first_used (named_after named line) rest))

pub lines_short : (named : List CutTextOf) (lines : List LogLine) → length (named ++ first_used named (flat_map cuts_used lines)) ≤ 65536 → All (IsShortLine First) lines →
    All (IsShortLine Second) (lines_with_names named lines)
lines_short named [] few short = All-nil (IsShortLine Second)
lines_short named (line ∷ lines) few short =
    let after = named_after named line in
    let here = All-head (IsShortLine First) line lines short in
    let all : length (after ++ first_used after (flat_map cuts_used lines)) ≤ 65536 = subst (λ (n : List CutTextOf). length n ≤ 65536) (named_on named line lines) few in
    let fewer : length after ≤ 65536 = omega (arith, all, length-append after (first_used after (flat_map cuts_used lines))) in
    All-append (IsShortLine Second) (line_with_names named line) (lines_with_names after lines)
    (All-append (IsShortLine Second) (map Named (fresh named line)) (numbered_line after line ∷ [])
    (names_short (fresh named line) (used_each IsShortCut named (cuts_used line) (used_short line here)))
    (All-cons (IsShortLine Second) (numbered_line after line) [] (numbered_short after line fewer here) (All-nil (IsShortLine Second))))
    (lines_short after lines all (All-tail (IsShortLine First) line lines short))

pub each_share_short : (divisor : ℕ) (shares : List (ℕ × CutTextOf)) → IsShortLine First (Leaf (Dual divisor shares)) → All (λ share. IsShortCut share.1) shares
each_share_short divisor shares short = by shares short.1.1
  where
    by : (those : List (ℕ × CutTextOf)) → AreShort (flat_map share_numbers those) → All (λ (share : ℕ × CutTextOf). IsShortCut share.1) those
    by [] short = All-nil (λ (share : ℕ × CutTextOf). IsShortCut share.1)
    by (share ∷ rest) short =
        All-cons (λ (s : ℕ × CutTextOf). IsShortCut s.1) share rest (short_first (cut_numbers share.1) (flat_map share_numbers rest) short.1)
        (by rest (short_rest (cut_numbers share.1) (flat_map share_numbers rest) short.1))
