use Rattle.std.proofs.Common.{rules, ◌≡◌, [], length, sym, ◌∙◌, ap, ap₂, subst, arith, w64, FitsSigned}
use Rattle.std.specs.Prelude.{reverse}
use Rattle.std.proofs.lemmas.Int.{to_z-of_z}
use Rattle.std.proofs.lemmas.List.Elements.{All-nil, All-same}
use Rattle.geo_model.specs.Limit.{LimitOf}
use Rattle.geo_model.proofs.SumSteps.{same_limit}
use Rattle.limit_forms.specs.Grid.{grid_of}
use Rattle.limit_forms.proofs.GridReads.{length-grid_of}
use Rattle.factor_stack.specs.Stored.{images_before, AreHeldFactors, AreCounted, HaveCounted, IsSaved}
use Rattle.factor_stack.specs.Running.{IsRoom}
use Rattle.factor_stack.specs.Stack.{IsImage}
use Rattle.factor_stack.proofs.Verdicts.{computed}
use Rattle.factor_stack.proofs.stack.FactorStack.new.Goals as goal

pub invariant_of-result : goal.invariant_of-result
invariant_of-result c =
    let f : FitsSigned w64 c.form.inside.alpha = search rules in
    let tall = length-grid_of c.args.network.now c.form.inside.alpha c.as_slice-squares.result.now c.in_ok-grid.grid (simp (to_z-of_z, f) at c.in_ok-grid.ensures) in
    let none = c.new-6.ensures.items in
    let size = ap length none in
    record {
      held_rows = subst (λ k. AreHeldFactors k c.compute.new.factors) (sym tall) c.compute.ensures.held;
      room_rows = subst (λ k. IsRoom k c.compute.new.room) (sym tall) c.compute.ensures.room;
      few = omega arith;
      each = All-same (IsSaved (length c.in_ok-grid.grid.order) (length c.in_ok-held.held.plan)) c.new-6.result.items [] none (All-nil (IsSaved (length c.in_ok-grid.grid.order) (length c.in_ok-held.held.plan)));
      counted = subst (λ saves. AreCounted (length c.in_ok-grid.grid.order) (record { plan = c.in_ok-held.held.plan; factors = c.compute.new.factors }) (reverse saves)) (sym none)
          (subst (λ k. HaveCounted k c.compute.new.factors) (sym tall) c.compute.ensures.counted);
    }

pub returns-clause-made : goal.returns-clause-made
returns-clause-made c =
    let f : FitsSigned w64 c.form.inside.alpha = search rules in
    let network = c.args.network.now in
    let form = c.index-limits-limit.result in
    let alpha : c.form.inside.alpha ≡ form.alpha = ap (λ (v : LimitOf). v.alpha) c.form.view_is in
    let squares : c.as_slice-squares.result.now ≡ form.squares = c.as_slice-squares.ensures.value ∙ ap (λ (v : LimitOf). v.squares) c.form.view_is in
    record {
      limit = c.requires.limit;
      normal = c.bring_to.ensures.sum;
      grid = λ l found.
          let same = same_limit network c.limits.result.now c.args.limit form l c.limits.ensures.value c.index-limits-limit.is found in
          (simp (to_z-of_z, f) at c.in_ok-grid.ensures) ∙ ap₂ (grid_of network) (alpha ∙ ap (λ (v : LimitOf). v.alpha) same) (squares ∙ ap (λ (v : LimitOf). v.squares) same);
      now = λ l found.
          let same = same_limit network c.limits.result.now c.args.limit form l c.limits.ensures.value c.index-limits-limit.is found in
          record {
            places = ap length c.in_ok-held.ensures.plan ∙ c.requires.plan;
            exact = computed network l c.in_ok-held.held.plan c.bring_to.new.normal.plan c.form.inside.alpha c.as_slice-squares.result.now c.compute.new.factors
                (c.bring_to.ensures.plan ∙ sym c.in_ok-held.ensures.plan) (alpha ∙ ap (λ (v : LimitOf). v.alpha) same) (squares ∙ ap (λ (v : LimitOf). v.squares) same)
                (simp (to_z-of_z, f) at c.compute.ensures.lower) (simp (to_z-of_z, f) at c.compute.ensures.upper);
          };
      before = λ l found.
          All-same (IsImage network l) _ [] (ap (λ s. reverse (images_before (record { plan = c.in_ok-held.held.plan; factors = c.compute.new.factors }) (reverse s))) c.new-6.ensures.items) (All-nil (IsImage network l));
    }
