use Rattle.std.proofs.Common.{◌≡◌, length, arith, ap}
use Rattle.limit_forms.specs.Grid.{GridOf}
use Rattle.limit_forms.proofs.GridSteps.{found_somewhere}
use Rattle.limit_forms.proofs.grid.LimitGrid.place.Goals as goal

pub unreachable-requires : goal.unreachable-requires
unreachable-requires c =
    let grid : GridOf = record { order = c.self.inside.order.items; exponents = c.self.inside.exponents.items } in
    let long : length c.self.inside.order.items ≡ length c.args.self.now.order = ap (λ (v : GridOf). length v.order) c.self.view_is in
    let size = ap length c.as_slice-at_place-items.ensures.value in
    let inside = c.requires in
    found_somewhere c.args.unknown grid c.as_slice-at_place-items.result.now c.self.invariant c.as_slice-at_place-items.ensures.value (omega arith)
    (λ k lt e. c.loop-place.invariant k (omega arith) e)
