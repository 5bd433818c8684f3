use Rattle.std.proofs.Common.{◌∙◌, arith, ap, sym}
use Rattle.bound_log.specs.Meanings.{cut_named}
use Rattle.bound_log.specs.Rules.{is_displacement}
use Rattle.log_check.proofs.NamingLemmas.{in_range_at}
use Rattle.log_check.proofs.dual_uses.weigh_use.Goals as goal

pub write-requires-clause-displacement : goal.write-requires-clause-displacement
write-requires-clause-displacement c =
    let cuts = c.args.cuts.now in
    ap (λ n. is_displacement n (cut_named cuts c.args.number).pairs) c.requires.room.moves ∙ (in_range_at c.args.network.now cuts c.args.number c.requires.names c.requires.number).displacement

pub weigh_moves-requires-clause-limit : goal.weigh_moves-requires-clause-limit
weigh_moves-requires-clause-limit c =
    omega (arith, c.limit.ensures, (in_range_at c.args.network.now c.args.cuts.now c.args.number c.requires.names c.requires.number).within)

pub returns-clause-paid : goal.returns-clause-paid
returns-clause-paid c = c.weigh_moves.ensures.paid (cut_named c.args.cuts.now c.args.number) (sym c.limit.ensures) c.write.ensures.written

pub returns-clause-taken : goal.returns-clause-taken
returns-clause-taken c = c.weigh_moves.ensures.taken (cut_named c.args.cuts.now c.args.number) (sym c.limit.ensures) c.write.ensures.written
