use Rattle.std.proofs.Common.{◌≡◌, List, Bool, [], ◌∷◌, length, ap, sym, ◌∙◌, subst, arith, length-append, length-set}
use Rattle.std.specs.Prelude.{All}
use Rattle.std.specs.List.{range_with_len}
use Rattle.std.proofs.lemmas.List.{with_items_is}
use Rattle.std.proofs.lemmas.Option.{slice_get_within}
use Rattle.std.proofs.lemmas.List.Elements.{All-push, All-same}
use Rattle.factor_stack.specs.Stack.{StackOf}
use Rattle.trial.specs.Stacks.{AreStacks, CanChange}
use Rattle.trial.proofs.StackLists.{can_change, changed_session}
use Rattle.trial.proofs.session.Session.change_plan.Goals as goal

pub change_stacks-requires : goal.change_stacks-requires
change_stacks-requires c =
    let self = c.args.self.now in
    let network = c.args.network.now in
    subst (λ (s : List StackOf). All (CanChange c.args.network.now c.args.candidate c.args.chosen) s) (sym c.as_mut_slice.ensures.value)
    (can_change network self.plan self.before.items (range_with_len 0 (length network.limits)) self.stacks.items c.args.candidate c.args.chosen c.requires.differs c.requires.made.few c.requires.made.stacks)

pub set-requires : goal.set-requires
set-requires c = slice_get_within c.args.self.now.plan c.args.candidate _ c.requires.differs

pub returns-clause-made : goal.returns-clause-made
returns-clause-made c =
    let self = c.args.self.now in
    let network = c.args.network.now in
    let fits = λ (plan : List Bool). length plan ≡ length c.args.network.now.candidates in
    let one : length c.in_ok-copy.field-0 ≡ length c.args.network.now.candidates = ap length c.in_ok-copy.ensures ∙ c.requires.made.plan in
    let size = ap length c.in_ok-push.ensures.items ∙ length-append self.before.items (c.in_ok-copy.field-0 ∷ []) in
    record {
      plan = ap length c.set.ensures ∙ length-set self.plan c.args.candidate c.args.chosen ∙ c.requires.made.plan;
      before = All-same (λ (plan : List Bool). length plan ≡ length c.args.network.now.candidates) _ _ c.in_ok-push.ensures.items
          (All-push (λ (plan : List Bool). length plan ≡ length c.args.network.now.candidates) self.before.items c.in_ok-copy.field-0 c.requires.made.before one);
      few = omega arith;
      shows = c.requires.made.shows;
      stacks = subst (λ (s : List StackOf). AreStacks c.args.network.now c.set.new.self c.push.new.self.items (length c.args.network.now.limits) s) (sym (with_items_is self.stacks c.change_stacks.new.stacks (omega arith)))
          (changed_session network self.plan c.set.new.self c.in_ok-copy.field-0 self.before.items c.push.new.self.items (range_with_len 0 (length network.limits)) c.args.candidate c.args.chosen
          c.as_mut_slice.result.now self.stacks.items c.change_stacks.new.stacks c.set.ensures c.in_ok-push.ensures.items c.in_ok-copy.ensures c.as_mut_slice.ensures.value c.requires.made.stacks c.in_ok-change_stacks.ensures);
    }
