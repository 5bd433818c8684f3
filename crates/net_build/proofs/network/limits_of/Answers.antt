use Rattle.std.proofs.Common.{◌∙◌, ◌++◌, List, ap}
use Rattle.geo_model.specs.Limit.{LimitOf}
use Rattle.net_build.specs.Build.{redundancy_limits}
use Rattle.net_build.proofs.PartFacts.{limits-none, limits-some}
use Rattle.net_build.proofs.network.limits_of.Goals as goal

pub returns-then-q-eq0-clause-limits : goal.returns-then-q-eq0-clause-limits
returns-then-q-eq0-clause-limits c =
    c.in_ok-limits.ensures.limits ∙ limits-none c.args.q c.args.points.now c.args.columns.now c.args.candidates.now c.if-q-eq0.true

pub returns-clause-limits : goal.returns-clause-limits
returns-clause-limits c =
    c.in_ok-push_redundancies.ensures
    ∙ ap (λ (l : List LimitOf). l ++ redundancy_limits c.args.q c.args.candidates.now) c.in_ok-limits.ensures.limits
    ∙ limits-some c.args.q c.args.points.now c.args.columns.now c.args.candidates.now c.if-q-eq0.false
