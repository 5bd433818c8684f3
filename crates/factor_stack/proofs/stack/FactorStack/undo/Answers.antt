use Rattle.std.proofs.Common.{◌++◌, ◌∷◌, [], length, sym, ◌∙◌, ap, subst}
use Rattle.std.specs.Prelude.{reverse}
use Rattle.factor_stack.specs.declared.held.Held.{Held}
use Rattle.factor_stack.specs.Stored.{images_before, held_image}
use Rattle.factor_stack.specs.Stack.{StackOf, IsKeptStack}
use Rattle.factor_stack.proofs.Stacks.{kept_back, undone, before_undo}
use Rattle.factor_stack.proofs.stack.FactorStack.undo.Goals as goal

pub invariant_of-self : goal.invariant_of-self
invariant_of-self c =
    subst (λ held. IsKeptStack (length c.self.inside.grid.order) held c.self.inside.room c.pop.new.self.items) (sym c.take_back.ensures)
    (kept_back (length c.self.inside.grid.order) c.self.inside.held c.self.inside.room c.self.inside.saves.items c.pop.new.self.items c.in-Some.saved c.self.invariant c.in-Some.ensures.items)

pub returns-in-Some-clause-made : goal.returns-in-Some-clause-made
returns-in-Some-clause-made c = λ network is.
    undone network c.args.self.now _
    (sym (ap (λ (v : StackOf). v.before) c.self.view_is)
    ∙ (ap (λ s. reverse (images_before c.self.inside.held (reverse s))) c.in-Some.ensures.items
    ∙ (before_undo c.self.inside.held c.pop.new.self.items c.in-Some.saved
    ∙ ap (λ (held : Held). reverse (images_before held (reverse c.pop.new.self.items)) ++ held_image held ∷ []) (sym c.take_back.ensures))))
    (ap (λ (v : StackOf). v.limit) c.self.view_is) (ap (λ (v : StackOf). v.normal) c.self.view_is) (ap (λ (v : StackOf). v.grid) c.self.view_is) is
