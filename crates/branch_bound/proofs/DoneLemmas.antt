use Rattle.std.proofs.Common.{◌≡◌, ◌<◌, ◌≤◌, ℕ, Bool, true, false, List, [], ◌∷◌, length, get_or, arith, refl, ap, sym, ◌∙◌, subst, Some, ◌⊎◌, inl, inr}
use Rattle.std.specs.Prelude.{slice_get}
use Rattle.std.proofs.lemmas.Bool.{cases_lt, cases_Bool, false≢true}
use Rattle.std.proofs.lemmas.Option.{slice_get_within, slice_get-get_or}
use Rattle.geo_model.specs.Energy.{IsWithin}
use Rattle.geo_model.specs.Prices.{price_of, prices_of}
use Rattle.geo_model.specs.Limit.{IsInForce}
use Rattle.geo_model.specs.Network.{NetworkOf, IsNetwork, IsLimit}
use Rattle.geo_model.specs.declared.plan.Node.{Node}
use Rattle.geo_model.specs.declared.verdict.Verdict.TheVariants.{Met}
use Rattle.geo_model.proofs.PriceLemmas.{plan_price-grows, network_stations}
use Rattle.geo_model.proofs.PlanLemmas.{IsWithin-with, IsWithin-without, IsWithin-length}
use Rattle.pivot_chain.specs.Verdict.{verdict_of}
use Rattle.pivot_chain.proofs.Verdicts.{certified_meets, met_sound, refuted_fails}
use Rattle.bound_log.specs.declared.bound.Bound.{Bound}
use Rattle.bound_log.specs.declared.bound.Bound.TheVariants.{NoPlan, AtLeast}
use Rattle.bound_log.specs.Bound.{IsAtMost, lesser}
use Rattle.bound_log.specs.CutText.{CutTextOf, displaced_by}
use Rattle.bound_log.specs.LogTree.{IsBrokenBy, IsOpenAt, IsNodeRefutedBy, leaf_bound, with_chosen, without_chosen}
use Rattle.bound_log.specs.Rules.{IsAllowedLine}
use Rattle.bound_log.specs.Tree.{tip}
use Rattle.bound_log.specs.declared.log_leaf.LogLeaf.{LogLeaf}
use Rattle.bound_log.specs.declared.log_line.LogLine.TheVariants.{Leaf}
use Rattle.bound_log.proofs.SoundLemmas.{IsInForce-grows, at_place, bound_for-below, broken_fails}
use Rattle.idle_splits.specs.Idle.{IsNoMore}
use Rattle.branch_bound.specs.declared.best.Best.{Best}
use Rattle.branch_bound.specs.declared.best.Best.TheVariants as best
use Rattle.branch_bound.specs.Found.{best_bound, IsTrueBest, IsCovered, IsBelow, IsPast, IsStart, IsOffered, IsDone}
use Rattle.branch_bound.specs.Searched.{IsCertified, IsUnsettled}
use Rattle.branch_bound.proofs.BoundOrder.{no_more_same, no_more_then, no_more_both, lesser_left, lesser_right}

-- How the best plan is brought up to the plans of a node.

not_le : (a b : ℕ) → (a ≤ b → ⊥) → b < a
not_le a b not = elim (cases_lt b a) [ inl less ↦ less | inr more ↦ absurd (not more) ]

not_lt : (a b : ℕ) → (a < b → ⊥) → b ≤ a
not_lt a b not = elim (cases_lt a b) [ inl less ↦ absurd (not less) | inr more ↦ more ]

less_than_bound : (a b : ℕ) → a < b → a ≤ b
less_than_bound a b less = omega arith

-- a plan that costs no less than a covered one is covered
IsCovered-dearer : (network : NetworkOf) (found : Best) (plan other : List Bool) → price_of network plan ≤ price_of network other →
    IsCovered network found plan → IsCovered network found other
IsCovered-dearer network best.NoPlan plan other le covered = covered
IsCovered-dearer network (best.Certified kept) plan other le covered = omega arith
IsCovered-dearer network (best.Unsettled kept) plan other le covered = omega arith

covered_price : (network : NetworkOf) (found : Best) (plan : List Bool) → IsCovered network found plan →
    IsNoMore (best_bound network found) (AtLeast (price_of network plan))
covered_price network best.NoPlan plan covered = absurd covered
covered_price network (best.Certified kept) plan covered = covered
covered_price network (best.Unsettled kept) plan covered = less_than_bound (price_of network kept) (price_of network plan) covered

uncovered_price : (network : NetworkOf) (found : Best) (plan : List Bool) → (IsCovered network found plan → ⊥) →
    IsNoMore (AtLeast (price_of network plan)) (best_bound network found)
uncovered_price network best.NoPlan plan uncovered = tt
uncovered_price network (best.Certified kept) plan uncovered =
    less_than_bound (price_of network plan) (price_of network kept) (not_le (price_of network kept) (price_of network plan) uncovered)
uncovered_price network (best.Unsettled kept) plan uncovered = not_lt (price_of network kept) (price_of network plan) uncovered

-- a plan that isn't covered costs less than each one that is
uncovered_less : (network : NetworkOf) (found : Best) (plan other : List Bool) → (IsCovered network found plan → ⊥) → IsCovered network found other →
    price_of network plan < price_of network other
uncovered_less network best.NoPlan plan other uncovered covered = absurd covered
uncovered_less network (best.Certified kept) plan other uncovered covered =
    let less = not_le (price_of network kept) (price_of network plan) uncovered in omega arith
uncovered_less network (best.Unsettled kept) plan other uncovered covered =
    let less = not_lt (price_of network kept) (price_of network plan) uncovered in omega arith

above_price : (network : NetworkOf) (found : Best) (plan : List Bool) → (IsBelow (price_of network plan) (best_bound network found) → ⊥) →
    IsNoMore (best_bound network found) (AtLeast (price_of network plan))
above_price network best.NoPlan plan above = absurd (above tt)
above_price network (best.Certified kept) plan above = not_lt (price_of network plan) (price_of network kept) above
above_price network (best.Unsettled kept) plan above = not_lt (price_of network plan) (price_of network kept) above

-- the best plan stays, whose price is no more than the bound
IsDone-stays : (network : NetworkOf) (node : Node) (bound : Bound) (found : Best) → IsTrueBest network found → IsNoMore (best_bound network found) bound →
    ((other : List Bool) → IsCertified network other → IsWithin node.inside other → IsWithin other node.upper → IsCovered network found other) →
    IsDone network node bound found found
IsDone-stays network node bound found kept price covered = record {
  price = price;
  falls = no_more_same (best_bound network found);
  reached = inl refl;
  kept = kept;
  covered = covered;
  still = λ other was. was;
}

-- what is no less than a price past the best plan is past it
past_more : (network : NetworkOf) (found : Best) (price more : ℕ) → price ≤ more → IsPast network found price → IsPast network found more
past_more network best.NoPlan price more le past = past
past_more network (best.Certified plan) price more le past = omega (arith, le, past)
past_more network (best.Unsettled plan) price more le past = omega (arith, le, past)

past_price : (network : NetworkOf) (found : Best) (price : ℕ) → IsPast network found price → IsNoMore (best_bound network found) (AtLeast price)
past_price network best.NoPlan price past = absurd past
past_price network (best.Certified plan) price past = past
past_price network (best.Unsettled plan) price past = less_than_bound (price_of network plan) price past

-- a node is cut off by the bound of a leaf
pub IsDone-past : (network : NetworkOf) (node : Node) (end : LogLeaf) (price : ℕ) (found : Best) → IsNetwork network → IsTrueBest network found →
    IsAllowedLine network node (Leaf end) → leaf_bound network node end ≡ AtLeast price → IsPast network found price →
    IsDone network node (leaf_bound network node end) found found
IsDone-past network node end price found bounds kept allowed is past =
    IsDone-stays network node (leaf_bound network node end) found kept (subst (λ b. IsNoMore (best_bound network found) b) (sym is) (past_price network found price past))
    (λ other certified above below.
    let least : IsAtMost (leaf_bound network node end) (price_of network other) =
    bound_for-below (prices_of network) network node (tip end) (network_stations network bounds) bounds allowed other above below (certified_meets network other bounds certified.certified) in
    past_more network found price (price_of network other) (subst (λ b. IsAtMost b (price_of network other)) is least) past)

-- a node is cut off by its price
pub IsDone-cut_off : (network : NetworkOf) (node : Node) (found : Best) → IsTrueBest network found → IsCovered network found node.inside →
    IsDone network node (AtLeast (price_of network node.inside)) found found
IsDone-cut_off network node found kept cut =
    IsDone-stays network node (AtLeast (price_of network node.inside)) found kept (covered_price network found node.inside cut)
    (λ other certified above below. IsCovered-dearer network found node.inside other (plan_price-grows (prices_of network) node.inside other above) cut)

-- no plan of a node that a limit refutes is certified
refuted_empty : (network : NetworkOf) (node : Node) (number : ℕ) (other : List Bool) → IsNetwork network → IsNodeRefutedBy network node number →
    IsCertified network other → IsWithin node.inside other → IsWithin other node.upper → ⊥
refuted_empty network node number other bounds refuted certified above below =
    let met : verdict_of network other refuted.limit ≡ Met =
    at_place (λ l. IsInForce l other → verdict_of network other l ≡ Met) network.limits number refuted.limit certified.certified refuted.named (IsInForce-grows refuted.limit node.inside other above refuted.owned) in
    let kept : IsLimit network refuted.limit = at_place (IsLimit network) network.limits number refuted.limit bounds.each_limit refuted.named in
    refuted_fails network other node.upper refuted.limit bounds kept below refuted.refuted (met_sound network other refuted.limit bounds kept met)

-- no plan of a node that breaks a cut is certified
broken_empty : (network : NetworkOf) (node : Node) (cut : CutTextOf) (other : List Bool) → IsNetwork network → IsBrokenBy network node cut →
    IsCertified network other → IsWithin node.inside other → IsWithin other node.upper → ⊥
broken_empty network node cut other bounds broken certified above below =
    let met : verdict_of network other broken.limit ≡ Met =
    at_place (λ l. IsInForce l other → verdict_of network other l ≡ Met) network.limits cut.limit broken.limit certified.certified broken.named (IsInForce-grows broken.limit node.inside other above broken.owned) in
    let kept : IsLimit network broken.limit = at_place (IsLimit network) network.limits cut.limit broken.limit bounds.each_limit broken.named in
    broken_fails network other node.upper broken.limit (displaced_by cut.pairs) bounds kept below broken.breaks (met_sound network other broken.limit bounds kept met)

-- a node has no certified plan
IsDone-empty : (network : NetworkOf) (node : Node) (found : Best) → IsTrueBest network found →
    ((other : List Bool) → IsCertified network other → IsWithin node.inside other → IsWithin other node.upper → ⊥) → IsDone network node NoPlan found found
IsDone-empty network node found kept empty =
    IsDone-stays network node NoPlan found kept tt (λ other certified above below. absurd (empty other certified above below))

-- a limit refutes a node
pub IsDone-refuted : (network : NetworkOf) (node : Node) (number : ℕ) (found : Best) → IsNetwork network → IsTrueBest network found →
    IsNodeRefutedBy network node number → IsDone network node NoPlan found found
IsDone-refuted network node number found bounds kept refuted =
    IsDone-empty network node found kept (λ other. refuted_empty network node number other bounds refuted)

-- all plans of a node break a cut
pub IsDone-broken : (network : NetworkOf) (node : Node) (cut : CutTextOf) (found : Best) → IsNetwork network → IsTrueBest network found →
    IsBrokenBy network node cut → IsDone network node NoPlan found found
IsDone-broken network node cut found bounds kept broken =
    IsDone-empty network node found kept (λ other. broken_empty network node cut other bounds broken)

-- another plan becomes the best one, whose price is the bound
IsDone-offered : (network : NetworkOf) (node : Node) (found offered : Best) (bound : Bound) → best_bound network offered ≡ bound → IsTrueBest network offered →
    IsNoMore bound (best_bound network found) →
    ((other : List Bool) → IsCertified network other → IsWithin node.inside other → IsWithin other node.upper → IsCovered network offered other) →
    ((other : List Bool) → IsCovered network found other → IsCovered network offered other) → IsDone network node bound found offered
IsDone-offered network node found offered bound is kept falls covered still = record {
  price = subst (λ b. IsNoMore (best_bound network offered) b) is (no_more_same (best_bound network offered));
  falls = subst (λ b. IsNoMore b (best_bound network found)) (sym is) falls;
  reached = inr (inr (subst (λ b. IsNoMore b (best_bound network offered)) is (no_more_same (best_bound network offered))));
  kept = kept;
  covered = covered;
  still = still;
}

-- the inner plan is certified, and becomes the best one
pub IsDone-certified : (network : NetworkOf) (node : Node) (found : Best) (plan : List Bool) → plan ≡ node.inside → IsCertified network node.inside →
    (IsCovered network found node.inside → ⊥) → IsDone network node (AtLeast (price_of network node.inside)) found (best.Certified plan)
IsDone-certified network node found plan same certified uncovered =
    subst (λ (p : List Bool). IsDone network node (AtLeast (price_of network node.inside)) found (best.Certified p)) (sym same)
    (IsDone-offered network node found (best.Certified node.inside) (AtLeast (price_of network node.inside)) refl certified
    (uncovered_price network found node.inside uncovered)
    (λ other _ above below. plan_price-grows (prices_of network) node.inside other above)
    (λ other covered. less_than_bound (price_of network node.inside) (price_of network other) (uncovered_less network found node.inside other uncovered covered)))

-- plans within one another are the same
within_both : (a b : List Bool) → IsWithin a b → IsWithin b a → a ≡ b
within_both [] [] below above = refl
within_both [] (y ∷ b) below above = absurd below
within_both (x ∷ a) [] below above = absurd below
within_both (true ∷ a) (true ∷ b) below above = ap (λ rest. true ∷ rest) (within_both a b below.1 above.1)
within_both (true ∷ a) (false ∷ b) below above = absurd (false≢true (below.0 refl))
within_both (false ∷ a) (true ∷ b) below above = absurd (false≢true (above.0 refl))
within_both (false ∷ a) (false ∷ b) below above = ap (λ rest. false ∷ rest) (within_both a b below.1 above.1)

-- a node of one plan that is unsettled has no certified one
unsettled_empty : (network : NetworkOf) (node : Node) (other : List Bool) → node.inside ≡ node.upper → IsUnsettled network node.inside →
    IsCertified network other → IsWithin node.inside other → IsWithin other node.upper → ⊥
unsettled_empty network node other same unsettled certified above below =
    let alike : other ≡ node.inside = within_both other node.inside (subst (λ (p : List Bool). IsWithin other p) (sym same) below) above in
    unsettled.unsettled.0 (subst (λ (p : List Bool). IsCertified network p) alike certified).certified

-- the inner plan is the node's only one and unsettled, and becomes the best one
pub IsDone-unsettled : (network : NetworkOf) (node : Node) (found : Best) (plan : List Bool) → plan ≡ node.inside → node.inside ≡ node.upper →
    IsUnsettled network node.inside → (IsCovered network found node.inside → ⊥) →
    IsDone network node (AtLeast (price_of network node.inside)) found (best.Unsettled plan)
IsDone-unsettled network node found plan copied same unsettled uncovered =
    subst (λ (p : List Bool). IsDone network node (AtLeast (price_of network node.inside)) found (best.Unsettled p)) (sym copied)
    (IsDone-offered network node found (best.Unsettled node.inside) (AtLeast (price_of network node.inside)) refl unsettled
    (uncovered_price network found node.inside uncovered)
    (λ other certified above below. absurd (unsettled_empty network node other same unsettled certified above below))
    (λ other covered. uncovered_less network found node.inside other uncovered covered))

-- .. or stays behind one that is as cheap
pub IsDone-undercut : (network : NetworkOf) (node : Node) (found : Best) → IsTrueBest network found → node.inside ≡ node.upper →
    IsUnsettled network node.inside → (IsBelow (price_of network node.inside) (best_bound network found) → ⊥) →
    IsDone network node (AtLeast (price_of network node.inside)) found found
IsDone-undercut network node found kept same unsettled above_it =
    IsDone-stays network node (AtLeast (price_of network node.inside)) found kept (above_price network found node.inside above_it)
    (λ other certified above below. absurd (unsettled_empty network node other same unsettled certified above below))

-- a plan has a candidate or lacks it
has_or_lacks : (plan : List Bool) (i : ℕ) → i < length plan → (slice_get plan i ≡ Some true) ⊎ (slice_get plan i ≡ Some false)
has_or_lacks plan i inside = elim (cases_Bool (get_or plan i false)) [
  | inl has ↦ inl (slice_get-get_or plan i false inside ∙ ap Some has)
  | inr lacks ↦ inr (slice_get-get_or plan i false inside ∙ ap Some lacks)
]

-- where the best plan was found
abbrev IsReached : NetworkOf → Bound → Best → Best → Type 0
IsReached network bound before now = (now ≡ before) ⊎ (IsStart network now ⊎ IsNoMore bound (best_bound network now))

-- both children are done: where another plan was found, it is certified, or a child's bound is no more than its price
reached_split : (network : NetworkOf) (first second : Bound) (before middle now : Best) → IsReached network first before middle → IsReached network second middle now →
    IsReached network (lesser first second) before now
reached_split network first second before middle now one (inr (inl begun)) = inr (inl begun)
reached_split network first second before middle now one (inr (inr reached)) = inr (inr (lesser_right first second (best_bound network now) reached))
reached_split network first second before middle now (inl same) (inl stays) = inl (stays ∙ same)
reached_split network first second before middle now (inr (inl begun)) (inl stays) = inr (inl (subst (λ (b : Best). IsStart network b) (sym stays) begun))
reached_split network first second before middle now (inr (inr reached)) (inl stays) =
    inr (inr (lesser_left first second (best_bound network now) (subst (λ (b : Best). IsNoMore first (best_bound network b)) (sym stays) reached)))

pub IsDone-split : (network : NetworkOf) (node : Node) (candidate : ℕ) (first second : Bound) (before middle now : Best) →
    IsOpenAt network node candidate → IsDone network (with_chosen node candidate) first before middle →
    IsDone network (without_chosen node candidate) second middle now → IsDone network node (lesser first second) before now
IsDone-split network node candidate first second before middle now is_open one two = record {
  price = no_more_both (best_bound network now) first second (no_more_then (best_bound network now) (best_bound network middle) first two.falls one.price) two.price;
  falls = no_more_then (best_bound network now) (best_bound network middle) (best_bound network before) two.falls one.falls;
  reached = reached_split network first second before middle now one.reached two.reached;
  kept = two.kept;
  covered = λ other certified above below.
      let inside : candidate < length other =
      omega (arith, IsWithin-length other node.upper below, slice_get_within node.upper candidate true is_open.in_upper) in
      elim (has_or_lacks other candidate inside) [
        | inl has ↦ two.still other (one.covered other certified (IsWithin-with node.inside other candidate above has) below)
        | inr lacks ↦ two.covered other certified above (IsWithin-without other node.upper candidate below lacks)
      ];
  still = λ other covered. two.still other (one.still other covered);
}

-- a plan is offered first
reached_offered : (network : NetworkOf) (bound : Bound) (before middle now : Best) → (middle ≡ before) ⊎ IsStart network middle → IsReached network bound middle now → IsReached network bound before now
reached_offered network bound before middle now one (inr reached) = inr reached
reached_offered network bound before middle now (inl same) (inl stays) = inl (stays ∙ same)
reached_offered network bound before middle now (inr begun) (inl stays) = inr (inl (subst (λ (b : Best). IsStart network b) (sym stays) begun))

pub IsDone-after : (network : NetworkOf) (node : Node) (bound : Bound) (before middle now : Best) → IsOffered network before middle → IsDone network node bound middle now →
    IsDone network node bound before now
IsDone-after network node bound before middle now offered done = record {
  price = done.price;
  falls = no_more_then (best_bound network now) (best_bound network middle) (best_bound network before) done.falls offered.falls;
  reached = reached_offered network bound before middle now offered.same done.reached;
  kept = done.kept;
  covered = done.covered;
  still = λ other covered. done.still other (offered.still other covered);
}

-- no plan is offered
pub IsOffered-none : (network : NetworkOf) (found : Best) → IsTrueBest network found → IsOffered network found found
IsOffered-none network found kept = record {
  same = inl refl;
  falls = no_more_same (best_bound network found);
  kept = kept;
  still = λ other covered. covered;
}

-- a certified plan is offered that is cheaper than the best one
cheaper_falls : (network : NetworkOf) (found : Best) (plan : List Bool) → IsBelow (price_of network plan) (best_bound network found) →
    IsNoMore (AtLeast (price_of network plan)) (best_bound network found)
cheaper_falls network best.NoPlan plan below = tt
cheaper_falls network (best.Certified kept) plan below = less_than_bound (price_of network plan) (price_of network kept) below
cheaper_falls network (best.Unsettled kept) plan below = less_than_bound (price_of network plan) (price_of network kept) below

cheaper_still : (network : NetworkOf) (found : Best) (plan other : List Bool) → IsBelow (price_of network plan) (best_bound network found) → IsCovered network found other →
    price_of network plan ≤ price_of network other
cheaper_still network best.NoPlan plan other below covered = absurd covered
cheaper_still network (best.Certified kept) plan other below covered = omega (arith, below, covered)
cheaper_still network (best.Unsettled kept) plan other below covered = omega (arith, below, covered)

pub IsOffered-cheaper : (network : NetworkOf) (found : Best) (plan : List Bool) → IsCertified network plan → IsBelow (price_of network plan) (best_bound network found) →
    IsOffered network found (best.Certified plan)
IsOffered-cheaper network found plan certified below = record {
  same = inr certified;
  falls = cheaper_falls network found plan below;
  kept = certified;
  still = λ other covered. cheaper_still network found plan other below covered;
}
