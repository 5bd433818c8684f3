use Rattle.std.proofs.Common.{◌≡◌, length, ap, sym, ◌∙◌, subst, FitsSigned, w64}
use Rattle.std.proofs.lemmas.Int.{to_z-of_z}
use Rattle.limit_forms.specs.Grid.{GridOf, IsGrid}
use Rattle.limit_forms.proofs.GridSteps.{written_whole, made_grid, IsGrid-grid_of}
use Rattle.limit_forms.proofs.grid.LimitGrid.retake_known.Goals as goal

pub invariant_of-self : goal.invariant_of-self
invariant_of-self c =
    let f : FitsSigned w64 c.args.alpha = c.ranges.alpha in
    let n : length c.self.inside.order.items ≡ length c.args.network.now.unknowns = ap (λ (v : GridOf). length v.order) c.self.view_is ∙ c.requires.places in
    let places : length c.as_mut_slice.result.now ≡ length c.args.network.now.unknowns = c.as_mut_slice.ensures.len ∙ c.self.inside.order.ok.0 ∙ n in
    let count : length c.as_mut_slice-2.result.now ≡ length c.args.network.now.unknowns = c.as_mut_slice-2.ensures.len ∙ c.self.inside.exponents.ok.0 ∙ c.self.invariant.exponents ∙ n in
    let exponents = simp to_z-of_z at c.exponents_of.ensures in
    let same = made_grid c.args.network.now c.args.alpha c.args.squares.now c.take_order.new.order c.exponents_of.new.exponents (length c.as_mut_slice.result.now) (length c.as_mut_slice-2.result.now) places count c.take_order.ensures exponents in
    rw (written_whole c.take_order.new.order c.self.inside.order.items c.self.inside.order.len (c.take_order.auto.order ∙ c.as_mut_slice.ensures.len), written_whole c.exponents_of.new.exponents c.self.inside.exponents.items c.self.inside.exponents.len (c.exponents_of.auto.exponents ∙ c.as_mut_slice-2.ensures.len))
    (subst IsGrid (sym same) (IsGrid-grid_of c.args.network.now c.args.alpha c.args.squares.now c.candidates-bounds.ensures.bounds))

pub returns : goal.returns
returns c =
    let f : FitsSigned w64 c.args.alpha = c.ranges.alpha in
    let n : length c.self.inside.order.items ≡ length c.args.network.now.unknowns = ap (λ (v : GridOf). length v.order) c.self.view_is ∙ c.requires.places in
    let places : length c.as_mut_slice.result.now ≡ length c.args.network.now.unknowns = c.as_mut_slice.ensures.len ∙ c.self.inside.order.ok.0 ∙ n in
    let count : length c.as_mut_slice-2.result.now ≡ length c.args.network.now.unknowns = c.as_mut_slice-2.ensures.len ∙ c.self.inside.exponents.ok.0 ∙ c.self.invariant.exponents ∙ n in
    let exponents = simp to_z-of_z at c.exponents_of.ensures in
    let same = made_grid c.args.network.now c.args.alpha c.args.squares.now c.take_order.new.order c.exponents_of.new.exponents (length c.as_mut_slice.result.now) (length c.as_mut_slice-2.result.now) places count c.take_order.ensures exponents in
    rw (written_whole c.take_order.new.order c.self.inside.order.items c.self.inside.order.len (c.take_order.auto.order ∙ c.as_mut_slice.ensures.len), written_whole c.exponents_of.new.exponents c.self.inside.exponents.items c.self.inside.exponents.len (c.exponents_of.auto.exponents ∙ c.as_mut_slice-2.ensures.len))
    same
