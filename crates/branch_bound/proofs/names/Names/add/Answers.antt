use Rattle.std.proofs.Common.{rules, ◌≡◌, ℕ, List, Some, slice_get, length, sym, subst}
use Rattle.branch_bound.specs.Naming.{TellsNames}
use Rattle.branch_bound.proofs.TellLemmas.{tells-more, tells-reached}
use Rattle.branch_bound.proofs.names.Names.add.Goals as goal

pub invariant_of-self : goal.invariant_of-self
invariant_of-self c = tells-reached c.self.inside.names.items c.reach.new.names.items c.self.inside.numbers.items c.reach.ensures.same c.self.invariant

pub invariant_of-self-in_err-push : goal.invariant_of-self-in_err-push
invariant_of-self-in_err-push c =
    let kept : c.push.new.self.items ≡ c.self.inside.numbers.items = search rules in
    subst (λ (numbers : List ℕ). TellsNames c.reach.new.names.items numbers) (sym kept)
    (tells-reached c.self.inside.names.items c.reach.new.names.items c.self.inside.numbers.items c.reach.ensures.same c.self.invariant)

pub invariant_of-self-2 : goal.invariant_of-self-2
invariant_of-self-2 c =
    let name : c.len-name.result ≡ length c.self.inside.numbers.items = search rules in
    tells-more c.reach.new.names.items c.self.inside.numbers.items c.push.new.self.items c.args.number c.len-name.result
    (tells-reached c.self.inside.names.items c.reach.new.names.items c.self.inside.numbers.items c.reach.ensures.same c.self.invariant)
    c.in_ok-reach.ensures.long
    (λ name is. c.requires.absent name (subst (λ (numbers : List ℕ). slice_get numbers name ≡ Some c.args.number) c.self.view_is is))
    name c.in_ok-push.ensures.items
