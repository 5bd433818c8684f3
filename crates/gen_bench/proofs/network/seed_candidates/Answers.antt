use Rattle.std.proofs.Common.{ap₂, ◌∙◌}
use Rattle.candidate_tables.specs.CandidateTable.{candidates_fault, candidates_of}
use Rattle.gen_feasible.proofs.Tables.{tables-feasible}
use Rattle.gen_bench.proofs.TableLemmas.{never_faulty}
use Rattle.gen_bench.proofs.network.seed_candidates.Goals as goal

pub returns-in-Ok-clause-candidates : goal.returns-in-Ok-clause-candidates
returns-in-Ok-clause-candidates c = c.in-Ok.ensures.answer.1 ∙ ap₂ candidates_of c.requires.points (c.as_slice.ensures.value ∙ c.in_ok-text.ensures)

pub unreachable-requires : goal.unreachable-requires
unreachable-requires c =
    never_faulty _ _ _ c.read_candidates.result c.read_candidates.ensures.answer c.in-Err-Fault.field-0 _
    (ap₂ candidates_fault c.requires.points (c.as_slice.ensures.value ∙ c.in_ok-text.ensures) ∙ (tables-feasible c.args.seed).candidates_accepted)
    c.in-Err-Fault.is c.in-Err-Fault.field-0-is
