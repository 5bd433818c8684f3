use Rattle.gen_records.proofs.CountFacts.{points-counted, candidates-counted}
use Rattle.gen_records.proofs.counts.generated_records_are_counted.Goals as goal

pub returns-clause-points : goal.returns-clause-points
returns-clause-points c = points-counted

pub returns-clause-candidates : goal.returns-clause-candidates
returns-clause-candidates c = candidates-counted
