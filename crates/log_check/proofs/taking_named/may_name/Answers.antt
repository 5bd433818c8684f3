use Rattle.std.proofs.Common.{◌<◌, ◌≤◌, length, arith, refl, ap, sym, ◌∙◌}
use Rattle.std.proofs.lemmas.Bool.{false≢true}
use Rattle.bound_log.specs.Rules.{is_displacement}
use Rattle.log_check.proofs.NamingLemmas.{full_not, limit_not, named_may, not_full}
use Rattle.log_check.proofs.taking_named.may_name.Goals as goal

pub returns-then-is_full-clause-may : goal.returns-then-is_full-clause-may
returns-then-is_full-clause-may c = sym (full_not c.args.network.now c.args.cuts.now c.args.cut.now (c.if-is_full.ensures.0 refl))

pub returns-then-limit-limits-clause-may : goal.returns-then-limit-limits-clause-may
returns-then-limit-limits-clause-may c =
    let past : length c.args.network.now.limits ≤ c.args.cut.now.limit = omega (arith, ap length c.limits-limits.ensures.value, c.if-limit-limits.true, c.limit.ensures) in
    sym (limit_not c.args.network.now c.args.cuts.now c.args.cut.now past)

pub returns-clause-may : goal.returns-clause-may
returns-clause-may c =
    let cut = c.args.cut.now in
    let few : length c.args.cuts.now < 65536 = not_full (length c.args.cuts.now) (λ full. false≢true (c.if-is_full.ensures.1 full)) in
    let inside : cut.limit < length c.args.network.now.limits = omega (arith, ap length c.limits-limits.ensures.value, c.if-limit-limits.false, c.limit.ensures) in
    c.write_moves.ensures.are ∙ ap (λ n. is_displacement n cut.pairs) c.requires.moves ∙ sym (named_may c.args.network.now c.args.cuts.now cut few inside)
