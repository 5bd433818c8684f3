use Rattle.std.proofs.Common.{◌+◌, pos, sym, ◌∙◌, subst}
use Rattle.pivot_chain.specs.Room.{HasEachLength}
use Rattle.pivot_chain.proofs.Squares.{no_lengths, one_longer}
use Rattle.pivot_chain.proofs.row_squares.squares_by_length.Goals as goal

pub lengths-init : goal.lengths-init
lengths-init c = subst (HasEachLength 0) (sym c.new-squares.ensures.items) no_lengths

pub lengths-preserved : goal.lengths-preserved
lengths-preserved c =
    subst (HasEachLength (c.lengths.count + 1)) (sym c.in_ok-push.ensures.items)
    (one_longer c.lengths.count c.lengths.squares.items (record { beta = pos 1; entries = c.in_ok-entries.entries.items }) c.lengths.invariant (sym c.in_ok-entries.entries.ok.0 ∙ c.in_ok-entries.ensures.len))
