use Rattle.std.proofs.Common.{◌≡◌, ◌↔◌, ◌<◌, ℕ, Bool, true, IsTrue, List, [], ◌∷◌, ◌++◌, length, refl, ap, sym, ◌∙◌, subst, Some}
use Rattle.std.specs.Prelude.{slice_get, ℤ}
use Rattle.whole_algebra.specs.Matrices.{at}
use Rattle.geo_model.specs.Limit.{LimitOf, IsInForce}
use Rattle.geo_model.specs.Meeting.{Breaks}
use Rattle.geo_model.specs.Network.{NetworkOf}
use Rattle.geo_model.specs.Row.{IsNarrow}
use Rattle.geo_model.specs.declared.plan.Node.{Node}
use Rattle.pivot_chain.proofs.CertifiedLemmas.{limit_named}
use Rattle.cut_pool.specs.Cut.{CutOf, IsCutOf}
use Rattle.bound_log.specs.CutText.{CutTextOf, text_of_cut}
use Rattle.bound_log.specs.LogTree.{IsBrokenBy}
use Rattle.bound_log.specs.declared.log_line.LogLine.TheVariants as line
use Rattle.bound_log.proofs.AllowedLemmas.{cut_broken}
use Rattle.bound_log.proofs.MoveLemmas.{cut_line_allowed}
use Rattle.bound_log.specs.DualText.{text_or_none}
use Rattle.branch_bound.specs.Cuts.{SearchCuts, IsCutFor, AreCutsFor, GotCuts, IsBrokenCut, log_line_of, named_cuts}
use Rattle.branch_bound.specs.Explored.{IsLineAt}
use Rattle.branch_bound.specs.Spelled.{PutsLine, SpellsOn}
use Rattle.branch_bound.proofs.GrownLemmas.{named_same}
use Rattle.branch_bound.specs.declared.best.Best.{Best}
use Rattle.branch_bound.specs.declared.node_line.NodeLine.{NodeLine}
use Rattle.branch_bound.specs.declared.node_line.NodeLine.TheVariants.{Split, Cost, Pivot, Cut, UnitDual, Dual}

-- Laws of the cuts of a search and of the lines that it writes.

-- the line of a split is a split
pub split_line : (pool : List CutOf) (found : NodeLine) (candidate : ℕ) → found ≡ Split candidate → log_line_of pool found ≡ line.Split candidate
split_line pool found candidate is = ap (λ (l : NodeLine). log_line_of pool l) is

-- and no other line is
pub unsplit_line : (pool : List CutOf) (found : NodeLine) → ((candidate : ℕ) → found ≡ Split candidate → ⊥) → (candidate : ℕ) → log_line_of pool found ≡ line.Split candidate → ⊥
unsplit_line pool (Split k) none candidate is = none k refl
unsplit_line pool Cost none candidate is = absurd (cc)
unsplit_line pool (Pivot k) none candidate is = absurd (cc)
unsplit_line pool (Cut k) none candidate is = absurd (cc)
unsplit_line pool (UnitDual share) none candidate is = absurd (cc)
unsplit_line pool (Dual dual) none candidate is = absurd (cc)

-- a cut is broken where its limit is in force for the inner plan and its displacement breaks it under the upper plan
pub cut_breaks : (network : NetworkOf) (node : Node) (cut : CutOf) (in_force broken : Bool) → IsCutFor network cut → IsNarrow (at cut.x) →
    ((l : LimitOf) → slice_get network.limits cut.limit ≡ Some l → IsTrue in_force ↔ IsInForce l node.inside) → in_force ≡ true →
    ((l : LimitOf) → slice_get network.limits cut.limit ≡ Some l → IsTrue broken ↔ Breaks network node.upper l (at cut.x)) → broken ≡ true →
    IsBrokenBy network node (text_of_cut cut)
cut_breaks network node cut in_force broken is narrow forced held tests breaks =
    let named = limit_named network.limits cut.limit is.in_range in
    cut_broken network node (text_of_cut cut)
    (cut_line_allowed network node cut named.0 is.places narrow named.1 ((forced named.0 named.1).0 held) ((tests named.0 named.1).0 breaks))

-- a cut of a pool by its number
pub broken_number : (network : NetworkOf) (node : Node) (cuts : SearchCuts) (number : ℕ) (cut : CutOf) → number < length cuts.pool → slice_get cuts.pool number ≡ Some cut →
    IsBrokenBy network node (text_of_cut cut) → IsBrokenCut network node cuts number
broken_number network node cuts number cut inside named broken = record {
  in_range = inside;
  broken = subst (λ o. IsBrokenBy network node (text_or_none o)) (sym named) broken;
}

-- the cut of a limit and a displacement is one of the network's
pub is_cut_for : (network : NetworkOf) (limit : ℕ) (x : List ℤ) (cut : CutOf) → limit < length network.limits → length x ≡ length network.unknowns → IsNarrow (at x) →
    IsCutOf network limit x cut → IsCutFor network cut
is_cut_for network limit x cut inside places narrow is = record {
  in_range = subst (λ (n : ℕ). n < length network.limits) (sym is.named) inside;
  places = ap length is.moved ∙ places;
  narrow = subst (λ (y : List ℤ). IsNarrow (at y)) (sym is.moved) narrow;
  exact = subst (λ (n : ℕ). IsCutOf network n cut.x cut) (sym is.named) (subst (λ (y : List ℤ). IsCutOf network limit y cut) (sym is.moved) is);
}

-- the line that was put where nothing stood, of a pool that stays, spells what the line of the node says
pub line_taken : (network : NetworkOf) (before at_line now : SearchCuts) (found : NodeLine) (out out_now : List ℕ) → AreCutsFor network before → GotCuts network before at_line →
    now.pool ≡ at_line.pool → out ≡ [] → PutsLine (named_cuts at_line) out out_now (log_line_of at_line.pool found) (named_cuts now) →
    SpellsOn (named_cuts before) out_now (log_line_of now.pool found ∷ []) (named_cuts now)
line_taken network before at_line now found out out_now for got pool cleared puts =
    let text : puts.text ≡ out_now = sym (puts.put ∙ ap (λ (t : List ℕ). t ++ puts.text) cleared) in
    subst (λ (named : List CutTextOf). SpellsOn named out_now (log_line_of now.pool found ∷ []) (named_cuts now)) (named_same network before at_line for got)
    (subst (λ (p : List CutOf). SpellsOn (named_cuts at_line) out_now (log_line_of p found ∷ []) (named_cuts now)) (sym pool)
    (subst (λ (t : List ℕ). SpellsOn (named_cuts at_line) t (log_line_of at_line.pool found ∷ []) (named_cuts now)) text puts.spells))

-- the line of a node over a pool that stays
pub line_kept : (network : NetworkOf) (node : Node) (best best_now : Best) (before now : List CutOf) (found : NodeLine) → now ≡ before →
    IsLineAt network node best best_now (log_line_of before found) → IsLineAt network node best best_now (log_line_of now found)
line_kept network node best best_now before now found same here = subst (λ (p : List CutOf). IsLineAt network node best best_now (log_line_of p found)) (sym same) here
