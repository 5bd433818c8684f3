-- That no split of a tree is idle, line by line.
use Rattle.std.proofs.Common.{◌≡◌, ◌<◌, ◌⊎◌, inl, inr, ℕ, suc, List, [], ◌∷◌, ◌++◌, length, get_or, zero, arith, refl, ap, ap₂, sym, ◌∙◌, subst, append_assoc}
use Rattle.std.specs.Prelude.{min}
use Rattle.std.proofs.lemmas.Bool.{cases_lt}
use Rattle.geo_model.specs.Network.{NetworkOf}
use Rattle.geo_model.specs.declared.plan.Node.{Node}
use Rattle.bound_log.specs.Bound.{lesser}
use Rattle.bound_log.specs.LogTree.{with_chosen, without_chosen, leaf_bound, bound_at}
use Rattle.bound_log.specs.Placed.{placed}
use Rattle.bound_log.specs.Tree.{Tree, fork, tip}
use Rattle.bound_log.specs.declared.bound.Bound.{Bound}
use Rattle.bound_log.specs.declared.bound.Bound.TheVariants.{NoPlan, AtLeast}
use Rattle.bound_log.specs.declared.log_line.LogLine.{LogLine}
use Rattle.bound_log.specs.declared.log_line.LogLine.TheVariants.{Split, Leaf}
use Rattle.bound_log.proofs.BoundLemmas.{lesser_none, lesser_assoc}
use Rattle.idle_splits.specs.Idle.{IsIdle, IsNoMore}
use Rattle.idle_splits.specs.NoIdle.{HasNoIdle, placed_line_bound, IsEarlier, NoSplitIsIdle}
use Rattle.idle_splits.proofs.Falls.{IsIdle-falls}

abbrev Placed : Type 0
Placed = Node × LogLine

-- ---- the least bound of lines

abbrev least_bound : NetworkOf → List Placed → Bound
least_bound network [] = NoPlan
least_bound network (line ∷ rest) = lesser (placed_line_bound network line) (least_bound network rest)

least_bound-append : (network : NetworkOf) (xs ys : List Placed) → least_bound network (xs ++ ys) ≡ lesser (least_bound network xs) (least_bound network ys)
least_bound-append network [] ys = refl
least_bound-append network (x ∷ xs) ys =
    ap (lesser (placed_line_bound network x)) (least_bound-append network xs ys)
    ∙ sym (lesser_assoc (placed_line_bound network x) (least_bound network xs) (least_bound network ys))

placed_bound : (network : NetworkOf) (node : Node) (tree : Tree) → least_bound network (placed node tree) ≡ bound_at network node tree
placed_bound network node (tip end) = lesser_none (leaf_bound network node end)
placed_bound network node (fork candidate with_it without_it) =
    least_bound-append network (placed (with_chosen node candidate) with_it) (placed (without_chosen node candidate) without_it)
    ∙ ap₂ lesser (placed_bound network (with_chosen node candidate) with_it) (placed_bound network (without_chosen node candidate) without_it)

-- the lesser of two bounds is one of them
lesser_cases : (a b : Bound) → (lesser a b ≡ a) ⊎ (lesser a b ≡ b)
lesser_cases NoPlan b = inr refl
lesser_cases (AtLeast x) NoPlan = inl refl
lesser_cases (AtLeast x) (AtLeast y) =
    elim (cases_lt x y) [
      | inl less ↦ inl (let is : min x y ≡ x = omega arith in ap AtLeast is)
      | inr le ↦ inr (let is : min x y ≡ y = omega arith in ap AtLeast is)
    ]

-- .. and no more than either
lesser-left : (a b : Bound) → IsNoMore (lesser a b) a
lesser-left NoPlan b = tt
lesser-left (AtLeast x) NoPlan = omega arith
lesser-left (AtLeast x) (AtLeast y) = omega arith

lesser-right : (a b c : Bound) → IsNoMore b c → IsNoMore (lesser a b) c
lesser-right NoPlan b c less = less
lesser-right (AtLeast x) b NoPlan less = tt
lesser-right (AtLeast x) NoPlan (AtLeast z) less = absurd less
lesser-right (AtLeast x) (AtLeast y) (AtLeast z) less = omega arith

-- ---- the least bound is an earlier one, and no more than any

IsEarlier-here : (network : NetworkOf) (line : Placed) (rest : List Placed) (bound : Bound) → placed_line_bound network line ≡ bound → IsEarlier network (line ∷ rest) bound
IsEarlier-here network line rest NoPlan is = tt
IsEarlier-here network line rest (AtLeast price) is = (0, line, omega arith, refl, is)

IsEarlier-later : (network : NetworkOf) (line : Placed) (rest : List Placed) (bound : Bound) → IsEarlier network rest bound → IsEarlier network (line ∷ rest) bound
IsEarlier-later network line rest NoPlan found = tt
IsEarlier-later network line rest (AtLeast price) found = (suc found.0, found.1, omega (arith, found.2), found.3, found.4)

least_is_earlier : (network : NetworkOf) (lines : List Placed) → IsEarlier network lines (least_bound network lines)
least_is_earlier network [] = tt
least_is_earlier network (line ∷ rest) =
    elim (lesser_cases (placed_line_bound network line) (least_bound network rest)) [
      | inl first ↦ IsEarlier-here network line rest (lesser (placed_line_bound network line) (least_bound network rest)) (sym first)
      | inr later ↦
          subst (λ (b : Bound). IsEarlier network (line ∷ rest) b) (sym later)
          (IsEarlier-later network line rest (least_bound network rest) (least_is_earlier network rest))
    ]

no_more_than_line : (network : NetworkOf) (lines : List Placed) (k : ℕ) (line : Placed) (price : ℕ) → k < length lines → get_or lines k line ≡ line → placed_line_bound network line ≡ AtLeast price
    → IsNoMore (least_bound network lines) (AtLeast price)
no_more_than_line network [] k line price inside here is = absurd (omega arith)
no_more_than_line network (first ∷ rest) zero line price inside here is =
    subst (λ (b : Bound). IsNoMore (lesser (placed_line_bound network first) (least_bound network rest)) b) (ap (placed_line_bound network) here ∙ is)
    (lesser-left (placed_line_bound network first) (least_bound network rest))
no_more_than_line network (first ∷ rest) (suc k) line price inside here is =
    lesser-right (placed_line_bound network first) (least_bound network rest) (AtLeast price) (no_more_than_line network rest k line price (omega arith) here is)

no_more_than_earlier : (network : NetworkOf) (lines : List Placed) (bound : Bound) → IsEarlier network lines bound → IsNoMore (least_bound network lines) bound
no_more_than_earlier network lines NoPlan found = tt
no_more_than_earlier network lines (AtLeast price) found = no_more_than_line network lines found.0 found.1 price found.2 found.3 found.4

-- ---- line by line

abbrev IsIdleLine : NetworkOf → Bound → Placed → Type 0
IsIdleLine network earlier (node, Split candidate) = IsIdle network node earlier
IsIdleLine network earlier (node, Leaf end) = ⊥

abbrev NoneIdle : NetworkOf → Bound → List Placed → Type 0
NoneIdle network earlier [] = Unit {0}
NoneIdle network earlier (line ∷ rest) = (IsIdleLine network earlier line → ⊥) × NoneIdle network (lesser earlier (placed_line_bound network line)) rest

abbrev after : NetworkOf → Bound → List Placed → Bound
after network earlier lines = lesser earlier (least_bound network lines)

NoneIdle-join : (network : NetworkOf) (earlier : Bound) (xs ys : List Placed) → NoneIdle network earlier xs → NoneIdle network (after network earlier xs) ys → NoneIdle network earlier (xs ++ ys)
NoneIdle-join network earlier [] ys first second = subst (λ (b : Bound). NoneIdle network b ys) (lesser_none earlier) second
NoneIdle-join network earlier (x ∷ xs) ys first second = (
  first.0,
  NoneIdle-join network (lesser earlier (placed_line_bound network x)) xs ys first.1
      (subst (λ (b : Bound). NoneIdle network b ys) (sym (lesser_assoc earlier (placed_line_bound network x) (least_bound network xs))) second),
)

NoneIdle-front : (network : NetworkOf) (earlier : Bound) (xs ys : List Placed) → NoneIdle network earlier (xs ++ ys) → NoneIdle network earlier xs
NoneIdle-front network earlier [] ys both = tt
NoneIdle-front network earlier (x ∷ xs) ys both = (both.0, NoneIdle-front network (lesser earlier (placed_line_bound network x)) xs ys both.1)

NoneIdle-back : (network : NetworkOf) (earlier : Bound) (xs ys : List Placed) → NoneIdle network earlier (xs ++ ys) → NoneIdle network (after network earlier xs) ys
NoneIdle-back network earlier [] ys both = subst (λ (b : Bound). NoneIdle network b ys) (sym (lesser_none earlier)) both
NoneIdle-back network earlier (x ∷ xs) ys both =
    subst (λ (b : Bound). NoneIdle network b ys) (lesser_assoc earlier (placed_line_bound network x) (least_bound network xs))
    (NoneIdle-back network (lesser earlier (placed_line_bound network x)) xs ys both.1)

-- what stands before a second child
before_second : (network : NetworkOf) (earlier : Bound) (node : Node) (tree : Tree) → lesser earlier (bound_at network node tree) ≡ after network (lesser earlier NoPlan) (placed node tree)
before_second network earlier node tree = ap₂ lesser (sym (lesser_none earlier)) (sym (placed_bound network node tree))

to_lines : (network : NetworkOf) (node : Node) (earlier : Bound) (tree : Tree) → HasNoIdle network node earlier tree → NoneIdle network earlier (placed node tree)
to_lines network node earlier (tip end) has = ((λ idle. idle), tt)
to_lines network node earlier (fork candidate with_it without_it) has =
    let one = with_chosen node candidate in
    let two = without_chosen node candidate in (
      has.0,
      NoneIdle-join network (lesser earlier NoPlan) (placed one with_it) (placed two without_it)
          (subst (λ (b : Bound). NoneIdle network b (placed one with_it)) (sym (lesser_none earlier)) (to_lines network one earlier with_it has.1))
          (subst (λ (b : Bound). NoneIdle network b (placed two without_it)) (before_second network earlier one with_it)
          (to_lines network two (lesser earlier (bound_at network one with_it)) without_it has.2)),
    )

from_lines : (network : NetworkOf) (node : Node) (earlier : Bound) (tree : Tree) → NoneIdle network earlier (placed node tree) → HasNoIdle network node earlier tree
from_lines network node earlier (tip end) none = tt
from_lines network node earlier (fork candidate with_it without_it) none =
    let one = with_chosen node candidate in
    let two = without_chosen node candidate in (
      none.0,
      from_lines network one earlier with_it
          (subst (λ (b : Bound). NoneIdle network b (placed one with_it)) (lesser_none earlier)
          (NoneIdle-front network (lesser earlier NoPlan) (placed one with_it) (placed two without_it) none.1)),
      from_lines network two (lesser earlier (bound_at network one with_it)) without_it
          (subst (λ (b : Bound). NoneIdle network b (placed two without_it)) (sym (before_second network earlier one with_it))
          (NoneIdle-back network (lesser earlier NoPlan) (placed one with_it) (placed two without_it) none.1)),
    )

-- ---- the statement over the lines

no_split : (network : NetworkOf) (lines : List Placed) → NoneIdle network NoPlan lines → NoSplitIsIdle network lines
no_split network lines none before behind node candidate earlier is found idle =
    let whole : NoneIdle network NoPlan (before ++ ((node, Split candidate) ∷ behind)) = subst (λ (l : List Placed). NoneIdle network NoPlan l) is none in
    let here = NoneIdle-back network NoPlan before ((node, Split candidate) ∷ behind) whole in
    here.0 (IsIdle-falls network node (least_bound network before) earlier (no_more_than_earlier network before earlier found) idle)

not_idle : (network : NetworkOf) (before : List Placed) (line : Placed) (behind : List Placed) → NoSplitIsIdle network (before ++ (line ∷ behind)) → IsIdleLine network (least_bound network before) line → ⊥
not_idle network before (node, Split candidate) behind none idle = none before behind node candidate (least_bound network before) refl (least_is_earlier network before) idle
not_idle network before (node, Leaf end) behind none idle = idle

from_splits : (network : NetworkOf) (before lines : List Placed) → NoSplitIsIdle network (before ++ lines) → NoneIdle network (least_bound network before) lines
from_splits network before [] none = tt
from_splits network before (line ∷ rest) none = (
  not_idle network before line rest none,
  subst (λ (b : Bound). NoneIdle network b rest)
      (least_bound-append network before (line ∷ []) ∙ ap (lesser (least_bound network before)) (lesser_none (placed_line_bound network line)))
      (from_splits network (before ++ (line ∷ [])) rest (subst (λ (l : List Placed). NoSplitIsIdle network l) (sym (append_assoc before (line ∷ []) rest)) none)),
)

pub tree_to_splits : (network : NetworkOf) (node : Node) (tree : Tree) → HasNoIdle network node NoPlan tree → NoSplitIsIdle network (placed node tree)
tree_to_splits network node tree has = no_split network (placed node tree) (to_lines network node NoPlan tree has)

pub splits_to_tree : (network : NetworkOf) (node : Node) (tree : Tree) → NoSplitIsIdle network (placed node tree) → HasNoIdle network node NoPlan tree
splits_to_tree network node tree none = from_lines network node NoPlan tree (from_splits network [] (placed node tree) none)
