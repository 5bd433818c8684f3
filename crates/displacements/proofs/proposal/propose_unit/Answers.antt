use Rattle.std.proofs.Common.{◌≡◌, ◌<◌, Bool, true, false, List, length, set, replicate, ℤ, pos, Some, sym, ◌∙◌, ap, arith}
use Rattle.std.specs.Prelude.{slice_get}
use borrow.Author.Count.{below_more}
use Rattle.std.proofs.lemmas.Bool.{false≢true}
use Rattle.whole_algebra.specs.Matrices.{at}
use Rattle.geo_model.specs.Row.{unit_at}
use Rattle.geo_model.specs.Limit.{LimitOf}
use Rattle.geo_model.specs.Meeting.{Breaks}
use Rattle.geo_model.proofs.EnergyLemmas.{Breaks-same}
use Rattle.displacements.proofs.UnitMoves.{moved_back}
use Rattle.displacements.proofs.proposal.propose_unit.Goals as goal
use Rattle.normal_matrix.proofs.SumSteps.{unit_at-list}

apart : (b : Bool) → b ≡ false → b ≡ true → ⊥
apart b e h = false≢true (sym e ∙ h)

pub loop-unknown-preserved : goal.loop-unknown-preserved
loop-unknown-preserved c =
    let network = c.args.network.now in
    let n = length network.unknowns in
    let u = c.loop-unknown.unknown in
    let inside : u < n = omega (arith, c.loop-unknown.invariant.size) in
    let moved : c.set.new.self ≡ set (replicate n (pos 0)) u (pos 1) = c.set.ensures ∙ ap (λ (xs : List ℤ). set xs u (pos 1)) c.loop-unknown.invariant.still in
    record {
      still = c.set-in-loop-unknown.ensures ∙ ap (λ (xs : List ℤ). set xs u (pos 0)) moved ∙ moved_back n u;
      size = c.loop-unknown.invariant.size;
      none = below_more (λ i. (limit : LimitOf) → slice_get network.limits c.args.limit ≡ Some limit → Breaks network c.args.plan.now limit (unit_at i) → ⊥) u c.loop-unknown.invariant.none
          (λ limit found broken. apart c.breaks.result c.if-breaks.false ((c.breaks.ensures limit found).1
          (Breaks-same network c.args.plan.now limit (unit_at u) (at c.set.new.self) (λ i. unit_at-list n u inside i ∙ ap (λ (xs : List ℤ). at xs i) (sym moved)) broken)));
    }
