use Rattle.std.proofs.Common.{not, length, sym, ◌∙◌, ap, arith}
use Rattle.std.proofs.lemmas.Option.{get_or_from_slice_get}
use Rattle.std.proofs.lemmas.List.Sums.{prefix_len-le-length}
use Rattle.factor_stack.specs.Image.{touches}
use Rattle.factor_stack.specs.Stack.{StackOf}
use Rattle.factor_stack.proofs.Changes.{order_long, first_place_is}
use Rattle.factor_stack.proofs.stack.FactorStack.first_place.Goals as goal

pub first_place_in-requires : goal.first_place_in-requires
first_place_in-requires c =
    ap length c.unknowns.ensures.value ∙ (sym (order_long c.args.network.now c.args.self.now c.requires.made) ∙ sym (ap (λ (v : StackOf). length v.grid.order) c.self.view_is))

pub returns-clause-value : goal.returns-clause-value
returns-clause-value c = λ limit candidate found there.
    first_place_is c.args.network.now limit candidate c.index-candidates-i.result c.self.inside.grid c.first_place_in.result
    (ap (λ (v : StackOf). v.grid) c.self.view_is ∙ c.requires.made.grid limit found)
    (c.index-candidates-i.is ∙ get_or_from_slice_get c.candidates.result.now c.args.i candidate c.index-candidates-i.result (rw c.candidates.ensures.value there))
    c.first_place_in.ensures

pub returns-clause-within : goal.returns-clause-within
returns-clause-within c =
    let le = prefix_len-le-length (λ u. not (touches c.index-candidates-i.result u)) c.self.inside.grid.order in
    let long = ap (λ (v : StackOf). length v.grid.order) c.self.view_is ∙ order_long c.args.network.now c.args.self.now c.requires.made in
    let is = c.first_place_in.ensures in
    omega arith
