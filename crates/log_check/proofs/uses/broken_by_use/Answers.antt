use Rattle.std.proofs.Common.{◌<◌, ◌≤◌, length, arith, ap, sym, ◌∙◌}
use Rattle.bound_log.specs.Meanings.{cut_named}
use Rattle.bound_log.specs.Rules.{is_displacement}
use Rattle.log_check.proofs.NamingLemmas.{in_range_at}
use Rattle.log_check.proofs.UsingLemmas.{use_missing, use_rules}
use Rattle.log_check.proofs.uses.broken_by_use.Goals as goal

pub returns-then-number-count-clause-rule : goal.returns-then-number-count-clause-rule
returns-then-number-count-clause-rule c =
    let past : length c.args.cuts.now ≤ c.args.number = omega (arith, c.count.ensures, c.if-number-count.true) in
    sym (use_missing c.args.network.now c.args.cuts.now c.args.node.now c.args.number past)

pub write-requires-clause-displacement : goal.write-requires-clause-displacement
write-requires-clause-displacement c =
    let cuts = c.args.cuts.now in
    let inside : c.args.number < length cuts = omega (arith, c.count.ensures, c.if-number-count.false) in
    ap (λ n. is_displacement n (cut_named cuts c.args.number).pairs) c.requires.room.moves ∙ (in_range_at c.args.network.now cuts c.args.number c.requires.names inside).displacement

pub broken_by_moves-requires-clause-limit : goal.broken_by_moves-requires-clause-limit
broken_by_moves-requires-clause-limit c =
    let cuts = c.args.cuts.now in
    let inside : c.args.number < length cuts = omega (arith, c.count.ensures, c.if-number-count.false) in
    omega (arith, c.limit.ensures, (in_range_at c.args.network.now cuts c.args.number c.requires.names inside).within)

pub returns-clause-rule : goal.returns-clause-rule
returns-clause-rule c =
    let cuts = c.args.cuts.now in
    let inside : c.args.number < length cuts = omega (arith, c.count.ensures, c.if-number-count.false) in
    c.broken_by_moves.ensures (cut_named cuts c.args.number) (sym c.limit.ensures) (in_range_at c.args.network.now cuts c.args.number c.requires.names inside).displacement c.write.ensures.written
    ∙ use_rules c.args.network.now cuts c.args.node.now c.args.number inside
