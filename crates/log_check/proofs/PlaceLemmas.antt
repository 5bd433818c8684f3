-- The places of open nodes, and copies of plans.
use Rattle.std.proofs.Common.{◌≡◌, ℕ, ◌+◌, ◌-◌, ◌<◌, ◌≤◌, Bool, true, false, List, [], ◌∷◌, ◌++◌, length, replicate, get_or, take, drop, All, Some, eqb, arith, refl, ap, sym, ◌∙◌, subst}
use Rattle.std.specs.Prelude.{slice_get, slice_set}
use Rattle.std.proofs.lemmas.Bool.{eqb-true, eq-eqb}
use Rattle.std.proofs.lemmas.List.{take_more_set, take_more, drop_more, get_or-replicate, length-replicate, length-drop, length-set, drop-set}
use Rattle.std.proofs.lemmas.List.Elements.{All-set}
use Rattle.std.proofs.lemmas.Option.{get_or_from_slice_get, slice_get-get_or}
use Rattle.std.proofs.Math.ListN.{drop_of_length-le}
use Rattle.std.proofs.Math.Seq.{take-length}
use Rattle.geo_model.specs.declared.plan.Node.{Node}
use Rattle.geo_model.specs.Network.{NetworkOf}
use Rattle.geo_model.specs.Nodes.{all_plans}
use Rattle.bound_log.specs.LogTree.{with_chosen, without_chosen}
use Rattle.bound_log.specs.Rules.{IsAllowedLine}
use Rattle.bound_log.specs.Meanings.{AreNames, Meaning, naming, standing, lacking, may_name, meaning_in}
use Rattle.bound_log.specs.OpenCount.{open_count}
use Rattle.bound_log.specs.declared.log_line.LogLine.{LogLine}
use Rattle.bound_log.specs.declared.log_line.LogLine.TheVariants.{Split, Leaf}
use Rattle.bound_log.proofs.AllowedLemmas.{split_open}
use Rattle.bound_log.proofs.OpenLemmas.{open_count-root, open_count-with, open_count-without, open_below}
use Rattle.bound_log.proofs.SoundLemmas.{at_place}
use Rattle.log_check.specs.Places.{OpenOf, HasEntries, ArePlaces, HasRoom, IsReady}
use Rattle.log_check.specs.Running.{opened, LeadsTo}
use Rattle.log_check.specs.FirstFault.{KeepsRules}
use Rattle.log_check.specs.Taking.{Does, TakesLine, at_head, at_node}
use Rattle.log_check.specs.declared.progress.Progress.{Progress}
use Rattle.log_check.proofs.FormatRuns.{kept_rule, names_more}

-- ---- copies of plans

-- one more entry is copied
pub copied_more : (from to : List Bool) (i : ℕ) (b : Bool) → i < length to → i < length from → take i to ≡ take i from → slice_get from i ≡ Some b → take (i + 1) (slice_set to i b) ≡ take (i + 1) from
copied_more from to i b inside within so_far here =
    take_more_set to i b inside
    ∙ ap (λ (front : List Bool). front ++ b ∷ []) so_far
    ∙ ap (λ (c : Bool). take i from ++ c ∷ []) (sym (get_or_from_slice_get from i b b here))
    ∙ sym (take_more from i b within)

-- all entries are copied
pub copied_all : (from to : List Bool) (n : ℕ) → length to ≡ n → length from ≡ n → take n to ≡ take n from → to ≡ from
copied_all from to n long also same =
    sym (take-length to) ∙ ap (λ (k : ℕ). take k to) long ∙ same ∙ ap (λ (k : ℕ). take k from) (sym also) ∙ take-length from

-- ---- places that are made

all_plans_long : (count : ℕ) → HasEntries count (all_plans count)
all_plans_long count = record { inside_long = length-replicate count false; upper_long = length-replicate count true }

-- the last place holds the one open node
pub last_place : {X : Type 0} (places : List X) (x : X) (n : ℕ) → places ≡ replicate (n + 1) x → drop n places ≡ x ∷ []
last_place places x n made =
    let long : length places ≡ n + 1 = ap length made ∙ length-replicate (n + 1) x in
    let inside : n < length places = omega arith in
    drop_more places n x inside
    ∙ ap (λ y. y ∷ drop (n + 1) places) (ap (λ l. get_or l n x) made ∙ get_or-replicate (n + 1) n x x (omega arith))
    ∙ ap (λ l. x ∷ l) (drop_of_length-le places (omega arith))

pub places_made : (count : ℕ) (places : List Node) → places ≡ replicate 257 (all_plans count) → drop 256 places ≡ all_plans count ∷ []
places_made count places made = last_place places (all_plans count) 256 made

-- ---- open nodes in their places

-- a list that isn't empty
pub record HeadTail {X : Type 0} (xs : List X) : Type 0 where
  pub first : X
  pub rest : List X
  pub is : xs ≡ first ∷ rest

pub head_tail : {X : Type 0} (xs : List X) → 0 < length xs → HeadTail xs
head_tail [] some = absurd (omega arith)
head_tail (x ∷ xs) some = record { first = x; rest = xs; is = refl }

-- no node is open exactly where all places are free
pub empty_test : (places nodes : List Node) (free : ℕ) → length places ≡ 257 → free ≤ 257 → drop free places ≡ nodes → (eqb free 257 ≡ true → nodes ≡ []) × (nodes ≡ [] → eqb free 257 ≡ true)
empty_test places nodes free many within view = (
  λ yes'. let all : free ≡ 257 = eqb-true free 257 yes' in sym view ∙ drop_of_length-le places (omega arith),
  λ none.
      let long : length (drop free places) ≡ 0 = ap length (view ∙ none) in
      let all : free ≡ 257 = omega (arith, length-drop free places) in
      eq-eqb free 257 all,
)

-- a free place is before the first open node
pub open_within : {X : Type 0} (places : List X) (first : X) (rest : List X) (free : ℕ) → drop free places ≡ first ∷ rest → free < length places
open_within places first rest free view =
    let long : length (drop free places) ≡ length (first ∷ rest) = ap length view in
    omega (arith, length-drop free places)

pub popped : {X : Type 0} (places : List X) (first : X) (rest : List X) (free : ℕ) → drop free places ≡ first ∷ rest → drop (free + 1) places ≡ rest
popped places first rest free view =
    let both : get_or places free first ∷ drop (free + 1) places ≡ first ∷ rest = sym (drop_more places free first (open_within places first rest free view)) ∙ view in
    cc

pub first_named : {X : Type 0} (places : List X) (first : X) (rest : List X) (free : ℕ) → drop free places ≡ first ∷ rest → slice_get places free ≡ Some first
first_named places first rest free view =
    let inside : free < length places = open_within places first rest free view in
    let both : get_or places free first ∷ drop (free + 1) places ≡ first ∷ rest = sym (drop_more places free first inside) ∙ view in
    let here : get_or places free first ≡ first = cc in
    slice_get-get_or places free first inside ∙ ap Some here

-- the two children stand where the node stood and in the place before
pub children_stand : {X : Type 0} (places : List X) (with_it without_it : X) (free : ℕ) → 0 < free → free < length places → drop (free - 1) (slice_set (slice_set places free without_it) (free - 1) with_it) ≡ with_it ∷ without_it ∷ drop (free + 1) places
children_stand places with_it without_it free before inside =
    let back : (free - 1) + 1 ≡ free = omega arith in
    let long : free - 1 < length (slice_set places free without_it) = omega (arith, length-set places free without_it) in
    drop-set (slice_set places free without_it) (free - 1) with_it long
    ∙ ap (λ rest. with_it ∷ rest) (ap (λ n. drop n (slice_set places free without_it)) back ∙ drop-set places free without_it inside)

-- ---- plans of nodes have an entry for each candidate

pub with_long : (count : ℕ) (node : Node) (candidate : ℕ) → HasEntries count node → HasEntries count (with_chosen node candidate)
with_long count node candidate long = record { inside_long = length-set node.inside candidate true ∙ long.inside_long; upper_long = long.upper_long }

pub without_long : (count : ℕ) (node : Node) (candidate : ℕ) → HasEntries count node → HasEntries count (without_chosen node candidate)
without_long count node candidate long = record { inside_long = long.inside_long; upper_long = length-set node.upper candidate false ∙ long.upper_long }

pub places_split : (count : ℕ) (places now : List Node) (node spare spare_now : Node) (free candidate : ℕ) → ArePlaces count places spare free → 0 < free → slice_get places free ≡ Some node → now ≡ slice_set (slice_set places free (without_chosen node candidate)) (free - 1) (with_chosen node candidate) → slice_get places (free - 1) ≡ Some spare_now → ArePlaces count now spare_now (free - 1)
places_split count places now node spare spare_now free candidate are before here is out =
    let long : HasEntries count node = at_place (HasEntries count) places free node are.long here in
    record {
      many = ap length is ∙ length-set (slice_set places free (without_chosen node candidate)) (free - 1) (with_chosen node candidate) ∙ length-set places free (without_chosen node candidate) ∙ are.many;
      within = omega (arith, are.within);
      long = subst (All (HasEntries count)) (sym is)
          (All-set (HasEntries count) (slice_set places free (without_chosen node candidate)) (free - 1) (with_chosen node candidate) (with_long count node candidate long)
          (All-set (HasEntries count) places free (without_chosen node candidate) (without_long count node candidate long) are.long));
      spare_long = at_place (HasEntries count) places (free - 1) spare_now are.long out;
    }

-- ---- room for the nodes of lines

pub room_after : (network : NetworkOf) (count : ℕ) (node : Node) (rest : List Node) (line : LogLine) → HasRoom count (node ∷ rest) → IsAllowedLine network node line → HasRoom count (opened node line ++ rest)
room_after network count node rest (Split candidate) room allowed =
    let here = split_open network node candidate allowed in (
      with_long count node candidate room.0,
      omega (arith, room.1, open_count-with node.inside node.upper candidate here.in_upper here.not_inside),
      (without_long count node candidate room.0, omega (arith, room.1, open_count-without node.inside node.upper candidate here.in_upper here.not_inside), room.2),
    )
room_after network count node rest (Leaf end) room allowed = room.2

pub room_along : (network : NetworkOf) (count : ℕ) (nodes final : List Node) (lines : List LogLine) → HasRoom count nodes → LeadsTo network nodes lines final → HasRoom count final
room_along network count nodes final [] room leads = subst (HasRoom count) leads room
room_along network count [] final (x ∷ lines) room leads = absurd leads
room_along network count (node ∷ nodes) final (x ∷ lines) room leads =
    room_along network count (opened node x ++ nodes) final lines (room_after network count node nodes x room leads.0) leads.1

pub room_at_root : (count : ℕ) → HasRoom count (all_plans count ∷ [])
room_at_root count = let all : open_count (replicate count false) (replicate count true) ≡ count = open_count-root count in (all_plans_long count, omega arith, tt)

-- the open nodes before the first line
pub ready_root : (network : NetworkOf) → length network.candidates ≤ 256 → IsReady network (record { candidates = length network.candidates; nodes = all_plans (length network.candidates) ∷ [] })
ready_root network few = record { few = few; count = refl; room = room_at_root (length network.candidates) }

-- the next node of a network
pub next_long : (network : NetworkOf) (stack : OpenOf) (node : Node) (rest : List Node) → IsReady network stack → stack.nodes ≡ node ∷ rest → HasEntries (length network.candidates) node
next_long network stack node rest ready is = let room : HasRoom (length network.candidates) (node ∷ rest) = subst (HasRoom (length network.candidates)) is ready.room in room.0

-- a split fits
pub record SplitFits (network : NetworkOf) (stack : OpenOf) (candidate : ℕ) : Type 0 where
  pub few : length stack.nodes < 257
  pub within : candidate < stack.candidates
  pub small : candidate < 256

pub split_fits : (network : NetworkOf) (stack : OpenOf) (candidate : ℕ) → IsReady network stack → 0 < length stack.nodes → ((node : Node) (rest : List Node) → stack.nodes ≡ node ∷ rest → IsAllowedLine network node (Split candidate)) → SplitFits network stack candidate
split_fits network stack candidate ready some allowed =
    let top = head_tail stack.nodes some in
    let here = split_open network top.first candidate (allowed top.first top.rest top.is) in
    let room : HasRoom (length network.candidates) (top.first ∷ top.rest) = subst (HasRoom (length network.candidates)) top.is ready.room in
    let one : 0 < open_count top.first.inside top.first.upper = open_below top.first.inside top.first.upper candidate here.in_upper here.not_inside in
    let long : length stack.nodes ≡ length (top.first ∷ top.rest) = ap length top.is in
    record { few = omega (arith, room.1, ready.few); within = omega (arith, ready.count, here.in_range); small = omega (arith, ready.few, here.in_range) }

pub not_empty : {X : Type 0} (xs : List X) → (xs ≡ [] → ⊥) → HeadTail xs
not_empty [] some = absurd (some refl)
not_empty (x ∷ xs) some = record { first = x; rest = xs; is = refl }

-- ---- after a line that was taken

ready_does : (network : NetworkOf) (node : Node) (rest : List Node) (said : Meaning) (before now : Progress) → IsReady network before.stack → before.stack.nodes ≡ node ∷ rest → KeepsRules network before.cuts node said → Does network node rest said before now → IsReady network now.stack
ready_does network node rest (naming cut) before now ready top keeps does = subst (λ (s : OpenOf). IsReady network s) (sym does.stack) ready
ready_does network node rest (standing line) before now ready top keeps does =
    let count : ℕ = length network.candidates in
    let room : HasRoom count (node ∷ rest) = subst (HasRoom count) top ready.room in
    record {
      few = ready.few;
      count = ap (λ (s : OpenOf). s.candidates) does.stack ∙ ready.count;
      room = subst (HasRoom count) (sym (ap (λ (s : OpenOf). s.nodes) does.stack)) (room_after network count node rest line room keeps);
    }
ready_does network node rest lacking before now ready top keeps does = absurd does

pub ready_next : (network : NetworkOf) (text : List ℕ) (ended : Bool) (before now : Progress) → IsReady network before.stack → TakesLine network text ended before now → IsReady network now.stack
ready_next network text ended before now ready (at_head head) = subst (λ (s : OpenOf). IsReady network s) (sym head.stack) ready
ready_next network text ended before now ready (at_node middle some takes is) =
    let said = takes.body.said in
    subst (λ (s : OpenOf). IsReady network s) (sym (ap (λ (p : Progress). p.stack) is))
    (ready_does network said.node said.rest (meaning_in before.format before.cuts takes.body.line) before middle ready said.top said.keeps said.does)

names_does : (network : NetworkOf) (node : Node) (rest : List Node) (said : Meaning) (before now : Progress) → AreNames network before.cuts → KeepsRules network before.cuts node said → Does network node rest said before now → AreNames network now.cuts
names_does network node rest (naming cut) before now names keeps does =
    subst (AreNames network) (sym does.named) (names_more network before.cuts cut names (kept_rule (may_name network before.cuts cut) keeps))
names_does network node rest (standing line) before now names keeps does = subst (AreNames network) (sym does.named) names
names_does network node rest lacking before now names keeps does = absurd does

pub names_next : (network : NetworkOf) (text : List ℕ) (ended : Bool) (before now : Progress) → AreNames network before.cuts → TakesLine network text ended before now → AreNames network now.cuts
names_next network text ended before now names (at_head head) = subst (AreNames network) (sym head.cuts) names
names_next network text ended before now names (at_node middle some takes is) =
    let said = takes.body.said in
    subst (AreNames network) (sym (ap (λ (p : Progress). p.cuts) is))
    (names_does network said.node said.rest (meaning_in before.format before.cuts takes.body.line) before middle names said.keeps said.does)
