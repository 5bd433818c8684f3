use Rattle.std.proofs.Common.{rules, ◌≡◌, ◌<◌, ◌≤◌, ◌∙◌, ap, ℕ, List, Some, slice_get, length, subst, sym}
use Rattle.std.proofs.lemmas.Option.{slice_get-get_or}
use Rattle.branch_bound.specs.Naming.{TellsNames}
use Rattle.branch_bound.proofs.TellLemmas.{told_none, told_past, told_some}
use Rattle.branch_bound.proofs.names.Names.get.Goals as goal

pub returns-then-number-len-clause-none : goal.returns-then-number-len-clause-none
returns-then-number-len-clause-none c =
    let past : length c.self.inside.names.items ≤ c.args.number = search rules in
    let tells : TellsNames c.self.inside.names.items c.args.self.now = subst (λ (ns : List ℕ). TellsNames c.self.inside.names.items ns) c.self.view_is c.self.invariant in
    told_past c.self.inside.names.items c.args.self.now c.args.number tells past

pub returns-clause-some : goal.returns-clause-some
returns-clause-some c =
    let inside : c.args.number < length c.self.inside.names.items = search rules in
    let here : slice_get c.self.inside.names.items c.args.number ≡ Some c.index.result.now =
    slice_get-get_or c.self.inside.names.items c.args.number c.index.result.now inside ∙ ap Some (sym c.index.ensures) in
    let tells : TellsNames c.self.inside.names.items c.args.self.now = subst (λ (ns : List ℕ). TellsNames c.self.inside.names.items ns) c.self.view_is c.self.invariant in
    told_some c.self.inside.names.items c.args.self.now c.args.number c.index.result.now tells here

pub returns-clause-none : goal.returns-clause-none
returns-clause-none c =
    let inside : c.args.number < length c.self.inside.names.items = search rules in
    let here : slice_get c.self.inside.names.items c.args.number ≡ Some c.index.result.now =
    slice_get-get_or c.self.inside.names.items c.args.number c.index.result.now inside ∙ ap Some (sym c.index.ensures) in
    let tells : TellsNames c.self.inside.names.items c.args.self.now = subst (λ (ns : List ℕ). TellsNames c.self.inside.names.items ns) c.self.view_is c.self.invariant in
    told_none c.self.inside.names.items c.args.self.now c.args.number c.index.result.now tells here
