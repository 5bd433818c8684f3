use Rattle.std.proofs.Common.{◌≡◌, ◌<◌, List, Bool, [], ◌∷◌, length, ap, sym, ◌∙◌, subst, arith, length-append, Some}
use Rattle.std.specs.Prelude.{All}
use Rattle.std.specs.List.{AllZip, range_with_len}
use Rattle.std.proofs.lemmas.List.{with_items_is}
use Rattle.std.proofs.lemmas.List.Elements.{All-pop}
use Rattle.factor_stack.specs.Stack.{StackOf}
use Rattle.trial.specs.Stacks.{AreStacks, IsUndone}
use Rattle.trial.proofs.StackLists.{can_undo, undone_stacks}
use Rattle.trial.proofs.session.Session.undo.Goals as goal

pub undo_stacks-requires : goal.undo_stacks-requires
undo_stacks-requires c =
    let self = c.args.self.now in
    let network = c.requires.0 in
    let size = ap length c.in-Some.ensures.items ∙ length-append c.pop.new.self.items (c.in-Some.plan ∷ []) in
    let some : 0 < length c.args.self.now.before.items = omega arith in
    subst (λ (s : List StackOf). All (λ (stack : StackOf). 0 < length stack.before) s) (sym c.as_mut_slice.ensures.value)
    (can_undo network self.plan self.before.items (range_with_len 0 (length network.limits)) self.stacks.items some c.requires.1.stacks)

pub returns-clause-made : goal.returns-clause-made
returns-clause-made c = λ network is.
    let self = c.args.self.now in
    let size = ap length c.in-Some.ensures.items ∙ length-append c.pop.new.self.items (c.in-Some.plan ∷ []) in
    let few = is.few in
    let both = All-pop (λ (plan : List Bool). length plan ≡ length network.candidates) self.before.items c.pop.new.self.items (Some c.in-Some.plan) c.in-Some.ensures.items is.before in
    record {
      plan = both.1;
      before = both.0;
      few = omega arith;
      shows = is.shows;
      stacks = subst (λ (s : List StackOf). AreStacks network c.in-Some.plan c.pop.new.self.items (length network.limits) s) (sym (with_items_is self.stacks c.undo_stacks.new.stacks (omega arith)))
          (undone_stacks network self.plan c.in-Some.plan self.before.items c.pop.new.self.items (range_with_len 0 (length network.limits)) self.stacks.items c.undo_stacks.new.stacks
          c.in-Some.ensures.items is.stacks (subst (λ (s : List StackOf). AllZip IsUndone s c.undo_stacks.new.stacks) c.as_mut_slice.ensures.value c.undo_stacks.ensures));
    }
