use Rattle.table_rows.proofs.LeastFault.{first_fault-least}
use Rattle.station_tables.specs.StationTable.{stations_fault, stations_table}
use Rattle.station_tables.proofs.laws.first_station_fault_is_least.Goals as goal

pub returns : goal.returns
unfolding stations_fault
returns c = λ points bytes. first_fault-least (stations_table points) bytes
