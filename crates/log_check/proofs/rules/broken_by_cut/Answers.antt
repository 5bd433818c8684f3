use Rattle.std.proofs.Common.{◌≤◌, length, arith, refl, ap, sym, ◌∙◌, ◌<◌}
use Rattle.bound_log.specs.Rules.{is_displacement}
use Rattle.bound_log.proofs.AllowedLemmas.{item_at}
use Rattle.log_check.proofs.RuleLemmas.{cut_out_of_range, moves_broken}
use Rattle.log_check.proofs.rules.broken_by_cut.Goals as goal

pub returns-then-number-limits-clause-rule : goal.returns-then-number-limits-clause-rule
returns-then-number-limits-clause-rule c =
    let cut = c.args.cut.now in
    let past : length c.args.network.now.limits ≤ cut.limit = omega (arith, ap length c.limits-limits.ensures.value, c.if-number-limits.true, c.limit-number.ensures) in
    sym (cut_out_of_range c.args.network.now c.args.node.now cut past)

pub returns-then-not-write_moves-clause-rule : goal.returns-then-not-write_moves-clause-rule
returns-then-not-write_moves-clause-rule c =
    let cut = c.args.cut.now in
    let inside : cut.limit < length c.args.network.now.limits = omega (arith, ap length c.limits-limits.ensures.value, c.if-number-limits.false, c.limit-number.ensures) in
    let limit = item_at c.args.network.now.limits cut.limit inside in
    sym (moves_broken c.args.network.now c.args.node.now cut limit.item limit.named
    (ap (λ n. is_displacement n cut.pairs) (sym c.requires.room.moves) ∙ sym c.if-not-write_moves.ensures.are))

pub returns-clause-rule : goal.returns-clause-rule
returns-clause-rule c =
    let cut = c.args.cut.now in
    c.broken_by_moves.ensures cut (sym c.limit-number.ensures)
    (ap (λ n. is_displacement n cut.pairs) (sym c.requires.room.moves) ∙ sym c.if-not-write_moves.ensures.are)
    (c.if-not-write_moves.ensures.written refl)
