use Rattle.std.proofs.Common.{ap₂, ◌∙◌}
use Rattle.net_build.specs.Build.{network_fault, network_of}
use Rattle.gen_feasible.proofs.Tables.{tables-feasible}
use Rattle.gen_bench.proofs.TableLemmas.{never_faulty}
use Rattle.gen_bench.proofs.network.seed_network.Goals as goal

pub returns-in-Ok-clause-network : goal.returns-in-Ok-clause-network
returns-in-Ok-clause-network c = c.in-Ok.ensures.answer.1 ∙ ap₂ (λ points candidates. network_of points candidates 200) c.in_ok-points.ensures.points c.in_ok-candidates.ensures.candidates

pub unreachable-requires : goal.unreachable-requires
unreachable-requires c =
    never_faulty _ _ _ c.build.result c.build.ensures.answer c.in-Err-Fault.field-0 _
    (ap₂ network_fault c.in_ok-points.ensures.points c.in_ok-candidates.ensures.candidates ∙ (tables-feasible c.args.seed).network_accepted)
    c.in-Err-Fault.is c.in-Err-Fault.field-0-is
