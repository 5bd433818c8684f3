use Rattle.std.proofs.Common.{rules, ◌≡◌, ◌++◌, ◌∷◌, [], ◌<◌, length, length-set, sym, ◌∙◌, ap, ap₂, subst, arith, not, w64, FitsSigned, slice_get, slice_set, ℕ, get_or}
use Rattle.std.specs.Prelude.{reverse}
use Rattle.std.proofs.lemmas.Int.{to_z-of_z}
use Rattle.std.proofs.lemmas.Option.{slice_get_within}
use Rattle.std.proofs.lemmas.List.Elements.{All-push, All-same}
use Rattle.geo_model.specs.Limit.{LimitOf}
use Rattle.geo_model.proofs.SumSteps.{same_limit}
use Rattle.limit_forms.specs.Grid.{grid_of}
use Rattle.pivot_chain.proofs.Judged.{load_of, limit_at}
use Rattle.pivot_chain.proofs.Values.{found_at}
use Rattle.factor_stack.specs.declared.held.Held.{Held}
use Rattle.factor_stack.specs.Stored.{AreHeldFactors, HaveCounted, images_before}
use Rattle.factor_stack.specs.Running.{IsRoom}
use Rattle.factor_stack.specs.Stack.{StackOf, IsImage, IsKeptStack}
use Rattle.factor_stack.proofs.Counted.{counted_now, still_counted}
use Rattle.factor_stack.proofs.Stacks.{depth_of}
use Rattle.factor_stack.proofs.Untouched.{agree_before}
use Rattle.factor_stack.proofs.CarriedGrids.{IsChanging, lower_known, upper_known}
use Rattle.factor_stack.proofs.Verdicts.{held_told, computed}
use Rattle.factor_stack.proofs.Changes.{order_long, HasSaved, has_place, back_again, before_change, saved_is, kept_more, some_at, inside_plan, plan_long}
use Rattle.factor_stack.proofs.stack.FactorStack.change.Goals as goal

pub first_place-first-requires-clause-inside : goal.first_place-first-requires-clause-inside
first_place-first-requires-clause-inside g c = inside_plan c.args.network.now c.args.self.now c.args.i (not c.args.chosen) c.requires.made c.requires.differs

pub save-requires-clause-candidate : goal.save-requires-clause-candidate
save-requires-clause-candidate g c =
    let inside = slice_get_within c.args.self.now.now.plan c.args.i (not c.args.chosen) c.requires.differs in
    let long = ap (λ (v : StackOf). length v.now.plan) c.self.view_is in
    omega arith

pub save-requires-clause-factors : goal.save-requires-clause-factors
save-requires-clause-factors g c =
    let tall = ap (λ (v : StackOf). length v.grid.order) c.self.view_is in
    let long = order_long c.args.network.now c.args.self.now c.requires.made in
    let within = c.first_place-first.ensures.within in
    has_place (length c.self.inside.grid.order) c.first_place-first.result c.self.inside.held.factors c.self.invariant.held_rows (omega arith)

pub set-requires : goal.set-requires
set-requires g c =
    let inside = slice_get_within c.args.self.now.now.plan c.args.i (not c.args.chosen) c.requires.differs in
    let long = ap (λ (v : StackOf). length v.now.plan) c.self.view_is in
    omega arith

pub bring_to-requires-clause-places : goal.bring_to-requires-clause-places
bring_to-requires-clause-places g c =
    ap length c.set.ensures ∙ (length-set c.self.inside.held.plan c.args.i c.args.chosen
    ∙ (ap (λ (v : StackOf). length v.now.plan) c.self.view_is ∙ plan_long c.args.network.now c.args.self.now c.requires.made))

pub recompute-requires-clause-made : goal.recompute-requires-clause-made
recompute-requires-clause-made g c =
    let f : FitsSigned w64 c.form.inside.alpha = search rules in
    let network = c.args.network.now in
    let form = c.index-limits-self.result in
    let limit = ap (λ (v : StackOf). v.limit) c.self.view_is in
    let lt : c.self.inside.limit < length network.limits = subst (λ k. k < length network.limits) (sym limit) c.requires.made.limit in
    let alpha : c.form.inside.alpha ≡ form.alpha = ap (λ (v : LimitOf). v.alpha) c.form.view_is in
    let squares : c.as_slice.result.now ≡ form.squares = c.as_slice.ensures.value ∙ ap (λ (v : LimitOf). v.squares) c.form.view_is in
    let found = found_at network.limits c.limits.result.now c.args.self.now.limit form c.limits.ensures.value c.requires.made.limit (c.index-limits-self.is ∙ ap (λ (k : ℕ). get_or c.limits.result.now k form) limit) in
    let is_limit = limit_at network c.limits.result.now c.self.inside.limit form c.limits.ensures.bounds c.limits.ensures.value lt c.index-limits-self.is in
    simp (to_z-of_z, f)
    (record {
      normal_made = c.bring_to.ensures.sum;
      load = load_of network form c.form.inside.alpha c.as_slice.result.now is_limit alpha squares;
      grid_made = ap (λ (v : StackOf). v.grid) c.self.view_is ∙ (c.requires.made.grid form found ∙ ap₂ (grid_of network) (sym alpha) (sym squares));
    })

pub recompute-requires-clause-known : goal.recompute-requires-clause-known
recompute-requires-clause-known g c =
    let f : FitsSigned w64 c.form.inside.alpha = search rules in
    let network = c.args.network.now in
    let held = c.self.inside.held in
    let form = c.index-limits-self.result in
    let first = c.first_place-first.result in
    let limit = ap (λ (v : StackOf). v.limit) c.self.view_is in
    let lt : c.self.inside.limit < length network.limits = subst (λ k. k < length network.limits) (sym limit) c.requires.made.limit in
    let alpha : c.form.inside.alpha ≡ form.alpha = ap (λ (v : LimitOf). v.alpha) c.form.view_is in
    let squares : c.as_slice.result.now ≡ form.squares = c.as_slice.ensures.value ∙ ap (λ (v : LimitOf). v.squares) c.form.view_is in
    let found = found_at network.limits c.limits.result.now c.args.self.now.limit form c.limits.ensures.value c.requires.made.limit (c.index-limits-self.is ∙ ap (λ (k : ℕ). get_or c.limits.result.now k form) limit) in
    let is_limit = limit_at network c.limits.result.now c.self.inside.limit form c.limits.ensures.bounds c.limits.ensures.value lt c.index-limits-self.is in
    let inside = inside_plan network c.args.self.now c.args.i (not c.args.chosen) c.requires.made c.requires.differs in
    let one = some_at network.candidates c.args.i inside in
    let tall = ap (λ (v : StackOf). length v.grid.order) c.self.view_is ∙ order_long network c.args.self.now c.requires.made in
    let changing : IsChanging network form held (slice_set held.plan c.args.i c.args.chosen) first = record {
      bounds = c.limits.ensures.bounds;
      load = is_limit.bounded;
      image = held_told network form held c.args.self.now.now (ap (λ (v : StackOf). v.now) c.self.view_is) (c.requires.made.now form found);
      rows = subst (λ n. AreHeldFactors n held.factors) tall c.self.invariant.held_rows;
      within = c.first_place-first.ensures.within;
      agree = agree_before network form one.0 held.plan c.args.i first (not c.args.chosen) c.args.chosen (ap (λ (v : StackOf). slice_get v.now.plan c.args.i) c.self.view_is ∙ c.requires.differs) inside one.1
          (c.first_place-first.ensures.value form one.0 found one.1);
    } in
    let plan = c.bring_to.ensures.plan ∙ c.set.ensures in
    simp (to_z-of_z, f)
    (record {
      lower = lower_known network form held (slice_set held.plan c.args.i c.args.chosen) c.bring_to.new.normal.plan first c.form.inside.alpha c.as_slice.result.now changing plan alpha squares;
      upper = upper_known network form held (slice_set held.plan c.args.i c.args.chosen) c.bring_to.new.normal.plan first c.form.inside.alpha c.as_slice.result.now changing plan alpha squares;
      lower_gaps = changing.rows.lower_gaps ∙ sym changing.rows.lower.places;
      upper_gaps = changing.rows.upper_gaps ∙ sym changing.rows.upper.places;
      counted = still_counted held.factors (length network.unknowns) first changing.within
          (subst (λ n. HaveCounted n held.factors) tall (counted_now (length c.self.inside.grid.order) held (reverse c.self.inside.saves.items) c.self.invariant.counted));
    })

pub recompute-requires-clause-room : goal.recompute-requires-clause-room
recompute-requires-clause-room g c =
    subst (λ n. IsRoom n c.self.inside.room) (ap (λ (v : StackOf). length v.grid.order) c.self.view_is ∙ order_long c.args.network.now c.args.self.now c.requires.made) c.self.invariant.room_rows

pub invariant_of-self : goal.invariant_of-self
invariant_of-self g c =
    subst (λ saves. IsKeptStack (length c.self.inside.grid.order) c.self.inside.held c.self.inside.room saves) (sym c.in_err-push.ensures.items) c.self.invariant

pub invariant_of-self-2 : goal.invariant_of-self-2
invariant_of-self-2 g c =
    let network = c.args.network.now in
    let held = c.self.inside.held in
    let n = length c.self.inside.grid.order in
    let first = c.first_place-first.result in
    let tall = ap (λ (v : StackOf). length v.grid.order) c.self.view_is ∙ order_long network c.args.self.now c.requires.made in
    let within = c.first_place-first.ensures.within in
    let depth = c.requires.depth in
    let count = depth_of held c.self.inside.saves.items in
    let same = ap (λ (v : StackOf). length v.before) c.self.view_is in
    let inside = slice_get_within c.args.self.now.now.plan c.args.i (not c.args.chosen) c.requires.differs in
    let long = ap (λ (v : StackOf). length v.now.plan) c.self.view_is in
    let saved : HasSaved held c.in_ok-saved.saved c.args.i first = record {
      candidate = c.in_ok-saved.ensures.candidate;
      chosen = c.in_ok-saved.ensures.chosen;
      place = c.in_ok-saved.ensures.first;
      factors = c.in_ok-saved.ensures.factors;
    } in
    kept_more n c.args.i held c.args.chosen c.set.new.self c.recompute.new.factors c.self.inside.room c.recompute.new.room c.self.inside.saves.items c.push.new.self.items c.in_ok-saved.saved
    c.self.invariant c.set.ensures (subst (λ k. AreHeldFactors k c.recompute.new.factors) (sym tall) c.recompute.ensures.held) (subst (λ k. IsRoom k c.recompute.new.room) (sym tall) c.recompute.ensures.room)
    (saved_is n c.args.i first held c.in_ok-saved.saved saved c.self.invariant.held_rows (omega arith) (omega arith)) c.in_ok-push.ensures.items (omega arith)
    (back_again held c.in_ok-saved.saved c.args.i first c.args.chosen c.set.new.self c.recompute.new.factors saved c.set.ensures c.recompute.ensures.kept (has_place n first held.factors c.self.invariant.held_rows (omega arith)))
    (subst (λ k. HaveCounted k c.recompute.new.factors) (sym tall) c.recompute.ensures.counted)

before_now : goal.returns-clause-before
before_now g c =
    let network = c.args.network.now in
    let held = c.self.inside.held in
    let first = c.first_place-first.result in
    let tall = ap (λ (v : StackOf). length v.grid.order) c.self.view_is in
    let wide = order_long network c.args.self.now c.requires.made in
    let within = c.first_place-first.ensures.within in
    let saved : HasSaved held c.in_ok-saved.saved c.args.i first = record {
      candidate = c.in_ok-saved.ensures.candidate;
      chosen = c.in_ok-saved.ensures.chosen;
      place = c.in_ok-saved.ensures.first;
      factors = c.in_ok-saved.ensures.factors;
    } in
    let again = back_again held c.in_ok-saved.saved c.args.i first c.args.chosen c.set.new.self c.recompute.new.factors saved c.set.ensures c.recompute.ensures.kept
    (has_place (length c.self.inside.grid.order) first held.factors c.self.invariant.held_rows (omega arith)) in
    let new : Held = record { plan = c.set.new.self; factors = c.recompute.new.factors } in
    ap (λ s. reverse (images_before new (reverse s))) c.in_ok-push.ensures.items
    ∙ (before_change held new c.self.inside.saves.items c.in_ok-saved.saved again
    ∙ ap (λ (v : StackOf). v.before ++ v.now ∷ []) c.self.view_is)

pub returns-clause-before : goal.returns-clause-before
returns-clause-before g c = before_now g c

pub returns-clause-made : goal.returns-clause-made
returns-clause-made g c =
    let f : FitsSigned w64 c.form.inside.alpha = search rules in
    let network = c.args.network.now in
    let form = c.index-limits-self.result in
    let limit = ap (λ (v : StackOf). v.limit) c.self.view_is in
    let alpha : c.form.inside.alpha ≡ form.alpha = ap (λ (v : LimitOf). v.alpha) c.form.view_is in
    let squares : c.as_slice.result.now ≡ form.squares = c.as_slice.ensures.value ∙ ap (λ (v : LimitOf). v.squares) c.form.view_is in
    record {
      limit = subst (λ k. k < length network.limits) (sym limit) c.requires.made.limit;
      normal = c.bring_to.ensures.sum;
      grid = λ l found. ap (λ (v : StackOf). v.grid) c.self.view_is ∙ c.requires.made.grid l (ap (slice_get network.limits) (sym limit) ∙ found);
      now = λ l found.
          let same = same_limit network c.limits.result.now c.self.inside.limit form l c.limits.ensures.value c.index-limits-self.is found in
          record {
            places = ap length c.set.ensures ∙ (length-set c.self.inside.held.plan c.args.i c.args.chosen ∙ (ap (λ (v : StackOf). length v.now.plan) c.self.view_is ∙ plan_long network c.args.self.now c.requires.made));
            exact = computed network l c.set.new.self c.bring_to.new.normal.plan c.form.inside.alpha c.as_slice.result.now c.recompute.new.factors
                c.bring_to.ensures.plan (alpha ∙ ap (λ (v : LimitOf). v.alpha) same) (squares ∙ ap (λ (v : LimitOf). v.squares) same)
                (simp (to_z-of_z, f) at c.recompute.ensures.lower) (simp (to_z-of_z, f) at c.recompute.ensures.upper);
          };
      before = λ l found.
          let there = ap (slice_get network.limits) (sym limit) ∙ found in
          All-same (IsImage network l) _ (c.args.self.now.before ++ c.args.self.now.now ∷ []) (before_now g c)
          (All-push (IsImage network l) c.args.self.now.before c.args.self.now.now (c.requires.made.before l there) (c.requires.made.now l there));
    }

pub returns-clause-cost : goal.returns-clause-cost
returns-clause-cost g c = λ limit candidate found there.
    let place = c.first_place-first.ensures.value limit candidate found there in
    let within = c.first_place-first.ensures.within in
    let cost = c.recompute.ensures.cost in
    omega arith

pub returns-clause-plan : goal.returns-clause-plan
returns-clause-plan g c = c.set.ensures ∙ ap (λ (v : StackOf). slice_set v.now.plan c.args.i c.args.chosen) c.self.view_is
