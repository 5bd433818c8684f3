use Rattle.std.proofs.Common.{◌≡◌, sym, subst, true}
use Rattle.table_columns.specs.Names.{is_name}
use Rattle.candidate_tables.specs.Accepted.{IsCandidateRecord}
use Rattle.candidate_tables.proofs.AcceptedFacts.{record-accepted}
use Rattle.candidate_tables.proofs.RecordFacts.{read-candidate}
use Rattle.candidate_tables.proofs.read.CandidateTableNamedTable.read_columns.Goals as goal

pub returns-in-Ok-clause-value : goal.returns-in-Ok-clause-value
returns-in-Ok-clause-value c = (
  c.in-Ok.ensures.0,
  read-candidate c.args.self.now.points.now c.args.row.now c.args.name c.in-Ok.ends c.in-Ok.figures c.requires.name c.in-Ok.ensures.1,
)

pub returns-in-Ok-clause-right : goal.returns-in-Ok-clause-right
returns-in-Ok-clause-right c =
    subst (IsCandidateRecord c.args.self.now.points.now)
    (sym (read-candidate c.args.self.now.points.now c.args.row.now c.args.name c.in-Ok.ends c.in-Ok.figures c.requires.name c.in-Ok.ensures.1))
    (record-accepted c.args.self.now.points.now c.args.row.now (subst (λ name. is_name name ≡ true) c.requires.name c.requires.is_name) c.in-Ok.ensures.0)
