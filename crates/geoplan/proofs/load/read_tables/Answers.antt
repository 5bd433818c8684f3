use Rattle.geoplan.specs.CommandView.{command_view}
use Rattle.geoplan.proofs.LoadLemmas.{FailsLoad-points, FailsLoad-candidates, FailsLoad-stations, ReadsTableBytes-read}
use Rattle.geoplan.proofs.load.read_tables.Goals as goal

pub returns-in-Err-clause-fault : goal.returns-in-Err-clause-fault
returns-in-Err-clause-fault g c =
    FailsLoad-points (command_view c.args.command.now) c.requires c.in-Err.why
    (g.H.Shelf.state c.args.shelf.now) (g.H.Shelf.state c.read_file.new.shelf)
    c.in-Err.ensures.fault

pub returns-in-Err-read_file-clause-fault : goal.returns-in-Err-read_file-clause-fault
returns-in-Err-read_file-clause-fault g c =
    FailsLoad-candidates (command_view c.args.command.now) c.requires c.in-Ok.points.items
    (g.H.Shelf.state c.args.shelf.now) (g.H.Shelf.state c.read_file.new.shelf) c.in-Ok.ensures.read
    c.in-Err-read_file.why (g.H.Shelf.state c.read_file-2.new.shelf) c.in-Err-read_file.ensures.fault

pub returns-in-Ok-read_station_bytes-clause-read : goal.returns-in-Ok-read_station_bytes-clause-read
returns-in-Ok-read_station_bytes-clause-read g c =
    ReadsTableBytes-read (command_view c.args.command.now) c.requires c.in-Ok.points.items
    (g.H.Shelf.state c.args.shelf.now) (g.H.Shelf.state c.read_file.new.shelf) c.in-Ok.ensures.read
    c.in-Ok-read_file.candidates.items (g.H.Shelf.state c.read_file-2.new.shelf) c.in-Ok-read_file.ensures.read
    _ (g.H.Shelf.state c.read_station_bytes.new.shelf) c.in-Ok-read_station_bytes.ensures.read c.new.result c.new.ensures

pub returns-in-Err-read_station_bytes-clause-fault : goal.returns-in-Err-read_station_bytes-clause-fault
returns-in-Err-read_station_bytes-clause-fault g c =
    FailsLoad-stations (command_view c.args.command.now) c.requires c.in-Ok.points.items
    (g.H.Shelf.state c.args.shelf.now) (g.H.Shelf.state c.read_file.new.shelf) c.in-Ok.ensures.read
    c.in-Ok-read_file.candidates.items (g.H.Shelf.state c.read_file-2.new.shelf) c.in-Ok-read_file.ensures.read
    c.in-Err-read_station_bytes.why (g.H.Shelf.state c.read_station_bytes.new.shelf) c.in-Err-read_station_bytes.ensures.fault
