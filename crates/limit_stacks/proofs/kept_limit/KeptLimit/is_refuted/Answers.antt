use Rattle.std.proofs.Common.{rules}
use Rattle.std.proofs.lemmas.Bool.{false≢true}
use Rattle.limit_stacks.proofs.Keeping.{not_refuted, met_not_refuted, witness_of_verdict}
use Rattle.limit_stacks.proofs.kept_limit.KeptLimit.is_refuted.Goals as goal

pub returns-then-has_within-clause-exact : goal.returns-then-has_within-clause-exact
returns-then-has_within-clause-exact c = λ l named. (
  λ no. absurd (false≢true no),
  λ refuted. absurd (not_refuted c.args.network.now c.args.plan.now c.args.limit c.args.self.now.witnesses c.candidates.ensures.bounds c.requires.kept.witnesses (c.has_within.ensures c.if-has_within.true) l named refuted),
)

pub returns-then-branch-clause-exact : goal.returns-then-branch-clause-exact
returns-then-branch-clause-exact c = λ l named. (
  λ no. absurd (false≢true no),
  λ refuted. absurd (met_not_refuted c.args.network.now c.args.plan.now c.args.limit c.candidates.ensures.bounds l named (c.in_ok-has_small_plan.ensures.met c.if-branch.true l named) refuted),
)

pub keep_witness-requires-clause-witness : goal.keep_witness-requires-clause-witness
keep_witness-requires-clause-witness c =
    witness_of_verdict c.args.network.now c.args.plan.now c.args.limit _ c.candidates.ensures.bounds c.requires.plan c.in_ok-verdict.ensures.exact (search rules)
