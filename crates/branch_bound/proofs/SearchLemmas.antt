use Rattle.std.proofs.Common.{replicate, true, false, ◌≡◌, ◌⊎◌, inl, inr, ℕ, Bool, List, [], ◌++◌, length, map, refl, sym, ap, ◌∙◌, subst, Some}
use Rattle.shelf_io.specs.Files.{Files, IsHeld}
use Rattle.geo_model.specs.Network.{NetworkOf, IsNetwork}
use Rattle.geo_model.specs.Prices.{price_of, prices_of}
use Rattle.geo_model.specs.Energy.{IsWithin}
use Rattle.geo_model.specs.declared.answer.Answer.{Answer}
use Rattle.geo_model.specs.declared.answer.Counts.{Counts}
use Rattle.geo_model.specs.declared.answer.SearchDone.{SearchDone}
use Rattle.geo_model.specs.declared.plan.Node.{Node}
use Rattle.geo_model.proofs.PlanLemmas.{IsWithin-none, IsWithin-all}
use Rattle.geo_model.proofs.PriceLemmas.{network_stations}
use Rattle.pivot_chain.proofs.Verdicts.{certified_meets}
use Rattle.bound_log.specs.declared.bound.Bound.{Bound}
use Rattle.bound_log.specs.declared.bound.Bound.TheVariants.{NoPlan, AtLeast}
use Rattle.bound_log.specs.Bound.{IsAtMost}
use Rattle.bound_log.specs.Counted.{counts_with, no_counts}
use Rattle.bound_log.specs.Lines.{kind_of}
use Rattle.bound_log.proofs.AllowedLemmas.{cost_allowed}
use Rattle.bound_log.proofs.SoundLemmas.{bound_for-below}
use Rattle.bound_log.specs.CutText.{CutTextOf}
use Rattle.bound_log.specs.NamedText.{second_head_text}
use Rattle.bound_log.specs.LogTree.{root_of, IsAllowed, IsLog, bound_at}
use Rattle.bound_log.specs.declared.log_leaf.LogLeaf.TheVariants.{Cost}
use Rattle.bound_log.specs.Tree.{Tree, tip, tree_lines}
use Rattle.idle_splits.specs.NoIdle.{HasNoIdle}
use Rattle.idle_splits.proofs.Lines.{tree_to_splits}
use Rattle.branch_bound.specs.declared.search_fault.SearchFault.{SearchFault}
use Rattle.branch_bound.specs.declared.search_fault.SearchFault.TheVariants as fault
use Rattle.idle_splits.specs.Idle.{IsNoMore}
use Rattle.branch_bound.specs.declared.best.Best.{Best}
use Rattle.branch_bound.specs.declared.best.Best.TheVariants as best
use Rattle.shelf_io.specs.States.{ShelfState}
use Rattle.branch_bound.specs.Explored.{AddsText, BreaksText, Explores, BreaksTree}
use Rattle.branch_bound.specs.Found.{IsDone, IsAnswerOf, IsTrueBest, IsStart}
use Rattle.branch_bound.specs.Logged.{Searches, BreaksLog, NamesEachOnce}
use Rattle.branch_bound.specs.Naming.{AreNamesOnce}
use Rattle.branch_bound.specs.Spelled.{SpellsOn}
use Rattle.branch_bound.specs.Searched.{IsAnswer, IsCertified}
use Rattle.branch_bound.proofs.BoundOrder.{no_more_twice}
use Rattle.branch_bound.proofs.ExploreLemmas.{cost_text, SpellsOn-cost}
use Rattle.branch_bound.proofs.NamingLemmas.{no_names}
use Rattle.branch_bound.proofs.SpellLemmas.{second_log}
use Rattle.branch_bound.proofs.PieceLemmas.{BreaksText-nothing, AddsText-then, BreaksText-after, BreaksText-longer}

-- How the head and the exploration of the root make a search.

-- a log of the price alone, which names no cut
cost_log : (network : NetworkOf) → (log : IsLog network (second_head_text ++ cost_text) (tip Cost)) × NamesEachOnce network (second_head_text ++ cost_text) (tip Cost) log
cost_log network = second_log network [] cost_text (tip Cost) (cost_allowed network (root_of network)) (no_names network) (SpellsOn-cost [])

-- memory ran out before anything was written
pub BreaksLog-nothing : (network : NetworkOf) (name : List ℕ) (state : ShelfState) → ((files : Files) → state.held ≡ Some files → IsHeld files name) →
    BreaksLog network name fault.NoMemory state state
BreaksLog-nothing network name state told =
    let whole = cost_log network in
    record { tree = tip Cost; text = second_head_text ++ cost_text; log = whole.0; names = whole.1; broken = BreaksText-nothing name (second_head_text ++ cost_text) state told }

-- the head was begun
pub BreaksLog-head : (network : NetworkOf) (name : List ℕ) (why : SearchFault) (before now : ShelfState) → BreaksText name second_head_text why before now →
    BreaksLog network name why before now
BreaksLog-head network name why before now broken =
    let whole = cost_log network in
    record { tree = tip Cost; text = second_head_text ++ cost_text; log = whole.0; names = whole.1; broken = BreaksText-longer name second_head_text cost_text why before now broken }

-- the tree was begun
pub BreaksLog-tree : (network : NetworkOf) (node : Node) (name : List ℕ) (cuts : List CutTextOf) (why : SearchFault) (before middle now : ShelfState) → node ≡ root_of network → cuts ≡ [] →
    AddsText name second_head_text before middle → BreaksTree network node name cuts why middle now → BreaksLog network name why before now
BreaksLog-tree network node name cuts why before middle now root none added broken =
    let at_root : BreaksTree network (root_of network) name [] why middle now =
    subst (λ (c : List CutTextOf). BreaksTree network (root_of network) name c why middle now) none (subst (λ n. BreaksTree network n name cuts why middle now) root broken) in
    let whole = second_log network at_root.cuts_then at_root.text at_root.tree at_root.allowed at_root.named at_root.spells in
    record { tree = at_root.tree; text = second_head_text ++ at_root.text; log = whole.0; names = whole.1; broken = BreaksText-after name second_head_text at_root.text why before middle now added at_root.broken }

-- what a search begins with
pub IsStart-same : (network : NetworkOf) (first begun : Best) → begun ≡ first → IsStart network first → IsStart network begun
IsStart-same network first begun same is = subst (λ (b : Best). IsStart network b) (sym same) is

pub IsTrueBest-start : (network : NetworkOf) (first : Best) → IsStart network first → IsTrueBest network first
IsTrueBest-start network best.NoPlan begun = tt
IsTrueBest-start network (best.Certified plan) begun = begun
IsTrueBest-start network (best.Unsettled plan) begun = absurd begun

-- at the root each plan of the network lies in the node
root_above : (network : NetworkOf) (plan : List Bool) → length plan ≡ length network.candidates → IsWithin (root_of network).inside plan
root_above network plan long = subst (λ (n : ℕ). IsWithin (replicate n false) plan) long (IsWithin-none plan)

root_below : (network : NetworkOf) (plan : List Bool) → length plan ≡ length network.candidates → IsWithin plan (root_of network).upper
root_below network plan long = subst (λ (n : ℕ). IsWithin plan (replicate n true)) long (IsWithin-all plan)

-- a bound that is at most a price
at_most_no_more : (bound : Bound) (price : ℕ) → IsAtMost bound price → IsNoMore bound (AtLeast price)
at_most_no_more NoPlan price below = absurd below
at_most_no_more (AtLeast a) price below = below

-- the price of a certified plan is the bound of a log whose lines prove no more than it
certified_price : (network : NetworkOf) (tree : Tree) (plan : List Bool) → IsNetwork network → IsAllowed network (root_of network) tree → IsCertified network plan →
    IsNoMore (AtLeast (price_of network plan)) (bound_at network (root_of network) tree) → bound_at network (root_of network) tree ≡ AtLeast (price_of network plan)
certified_price network tree plan bounds allowed certified price =
    no_more_twice (bound_at network (root_of network) tree) (AtLeast (price_of network plan))
    (at_most_no_more (bound_at network (root_of network) tree) (price_of network plan)
    (bound_for-below (prices_of network) network (root_of network) tree (network_stations network bounds) bounds allowed plan (root_above network plan certified.long) (root_below network plan certified.long)
    (certified_meets network plan bounds certified.certified)))
    price

-- the bound of a log with no plan
no_price : (bound : Bound) → IsNoMore NoPlan bound → bound ≡ NoPlan
no_price NoPlan price = refl
no_price (AtLeast a) price = absurd price

-- the price of an unsettled plan, which isn't what the search began with
unsettled_price : (network : NetworkOf) (bound : Bound) (first : Best) (plan : List Bool) → IsStart network first →
    (best.Unsettled plan ≡ first) ⊎ (IsStart network (best.Unsettled plan) ⊎ IsNoMore bound (AtLeast (price_of network plan))) → IsNoMore bound (AtLeast (price_of network plan))
unsettled_price network bound first plan begun (inl same) = absurd (subst (λ (b : Best). IsStart network b) (sym same) begun)
unsettled_price network bound first plan begun (inr (inl certified)) = absurd certified
unsettled_price network bound first plan begun (inr (inr reached)) = reached

-- the answer that the best plan makes fits its bound
answer_fits : (network : NetworkOf) (tree : Tree) (first found : Best) (made : Answer) → IsNetwork network → IsAllowed network (root_of network) tree → IsStart network first →
    IsDone network (root_of network) (bound_at network (root_of network) tree) first found →
    IsAnswerOf network found made → IsAnswer network (bound_at network (root_of network) tree) made
answer_fits network tree first best.NoPlan made bounds allowed begun done is =
    subst (λ a. IsAnswer network (bound_at network (root_of network) tree) a) (sym is) (no_price (bound_at network (root_of network) tree) done.price)
answer_fits network tree first (best.Certified plan) made bounds allowed begun done is =
    subst (λ a. IsAnswer network (bound_at network (root_of network) tree) a) (sym is)
    (record { certified = done.kept; price = certified_price network tree plan bounds allowed done.kept done.price })
answer_fits network tree first (best.Unsettled plan) made bounds allowed begun done is =
    subst (λ a. IsAnswer network (bound_at network (root_of network) tree) a) (sym is.says) (record {
      unsettled = done.kept;
      price = no_more_twice (bound_at network (root_of network) tree) (AtLeast (price_of network plan))
          (unsettled_price network (bound_at network (root_of network) tree) first plan begun done.reached) done.price;
      dearer = λ other certified. done.covered other certified (root_above network other certified.long) (root_below network other certified.long);
      open_limit = is.open_limit;
    })

-- the search is done
pub Searches-done : (network : NetworkOf) (node : Node) (name : List ℕ) (cuts cuts_now : List CutTextOf) (found found_now : Best) (counts counts_now : Counts) (done : SearchDone) (before middle now : ShelfState) →
    IsNetwork network → node ≡ root_of network → cuts ≡ [] → AreNamesOnce network cuts_now → IsStart network found → counts ≡ no_counts → AddsText name second_head_text before middle →
    Explores network node name cuts cuts_now found found_now counts counts_now middle now → IsAnswerOf network found_now done.answer → done.counts ≡ counts_now →
    Searches network name done before now
Searches-done network node name cuts cuts_now found found_now counts counts_now done before middle now bounds root none named begun none_counted added explored answered counted_all =
    let allowed : IsAllowed network (root_of network) explored.tree = subst (λ n. IsAllowed network n explored.tree) root explored.allowed in
    let whole = second_log network cuts_now explored.text explored.tree allowed named (subst (λ (c : List CutTextOf). SpellsOn c explored.text (tree_lines explored.tree) cuts_now) none explored.spells) in
    record {
      tree = explored.tree;
      text = second_head_text ++ explored.text;
      log = whole.0;
      names = whole.1;
      searched = record {
        allowed = allowed;
        counted = counted_all ∙ explored.counted ∙ ap (λ c. counts_with c (map kind_of (tree_lines explored.tree))) none_counted;
        no_idle = tree_to_splits network (root_of network) explored.tree (subst (λ (n : Node). HasNoIdle network n NoPlan explored.tree) root (explored.no_idle NoPlan tt));
        answered = answer_fits network explored.tree found found_now done.answer bounds allowed begun
            (subst (λ (n : Node). IsDone network n (bound_at network n explored.tree) found found_now) root explored.done)
            answered;
      };
      added = AddsText-then name second_head_text explored.text before middle now added explored.added;
    }
