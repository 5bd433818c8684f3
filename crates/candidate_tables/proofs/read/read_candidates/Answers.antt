use Rattle.std.proofs.Common.{◌∙◌}
use Rattle.point_tables.specs.declared.fault.TableName.TheVariants as table
use Rattle.point_tables.proofs.RecordFacts.{answers-refused}
use Rattle.candidate_tables.specs.CandidateTable.{candidates_fault, candidates_of}
use Rattle.candidate_tables.proofs.read.read_candidates.Goals as goal

pub returns-in-Ok-clause-answer : goal.returns-in-Ok-clause-answer
unfolding candidates_fault candidates_of
returns-in-Ok-clause-answer c = (c.in-Ok.ensures.answer.0, c.of.ensures ∙ c.in-Ok.ensures.answer.1)

pub returns-in-Err-clause-answer : goal.returns-in-Err-clause-answer
unfolding candidates_fault
returns-in-Err-clause-answer c =
    rw c.of-in-Err.ensures
    (answers-refused table.Candidates (candidates_fault c.args.points.now c.args.bytes.now) (candidates_of c.args.points.now c.args.bytes.now) c.in-Err.refusal
    c.in-Err.ensures.answer)
