use Rattle.std.proofs.Common.{◌∙◌}
use Rattle.station_tables.specs.StationTable.{read_stations, stations_fault}
use Rattle.station_tables.proofs.StationFacts.{stations-refused}
use Rattle.station_tables.proofs.read.read_stations.Goals as goal

pub returns-in-Ok-clause-answer : goal.returns-in-Ok-clause-answer
unfolding stations_fault read_stations
returns-in-Ok-clause-answer c = (c.in-Ok.ensures.answer.0, c.of.ensures ∙ c.in-Ok.ensures.answer.1)

pub returns-in-Err-clause-answer : goal.returns-in-Err-clause-answer
unfolding stations_fault
returns-in-Err-clause-answer c =
    rw c.of-in-Err.ensures
    (stations-refused (stations_fault c.args.points.now c.args.bytes.now) (read_stations c.args.points.now c.args.bytes.now) c.in-Err.refusal c.in-Err.ensures.answer)
