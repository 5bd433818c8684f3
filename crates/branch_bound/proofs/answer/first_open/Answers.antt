use Rattle.std.proofs.Common.{◌<◌, length, arith, ap, below_more}
use Rattle.branch_bound.proofs.VerdictLemmas.{first_open_by, some_open}
use Rattle.branch_bound.proofs.answer.first_open.Goals as goal

pub returns-in-Some : goal.returns-in-Some
returns-in-Some c =
    first_open_by c.args.network.now c.args.plan.now c.in-Some.found.limit c.in-Some.found.step c.in-Some.found.lo c.in-Some.found.hi c.in-Some.ensures.found
    (λ k below. let inside : k < c.loop-limit.limit = omega (arith, c.in-Some.ensures.number) in c.loop-limit.invariant.none k inside)

pub loop-limit-preserved : goal.loop-limit-preserved
loop-limit-preserved c = record {
  verdicts = c.open_limit.ensures.verdicts;
  none = below_more _ _ c.loop-limit.invariant.none c.in_default.ensures.none;
}

pub unreachable-requires : goal.unreachable-requires
unreachable-requires c =
    some_open c.args.network.now c.args.plan.now c.requires.unsettled
    (λ k within. let inside : k < c.loop-limit.limit = omega (arith, ap length c.limits.ensures.value) in c.loop-limit.invariant.none k inside)
