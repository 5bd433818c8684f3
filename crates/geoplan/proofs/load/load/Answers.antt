use Rattle.geoplan.specs.CommandView.{command_view}
use Rattle.geoplan.proofs.LoadLemmas.{LoadsTables-judged, FailsLoad-out, FailsLoad-more, FailsLoad-refused, refused_as}
use Rattle.geoplan.proofs.load.load.Goals as goal

pub returns-in-Ok-judge-clause-loaded : goal.returns-in-Ok-judge-clause-loaded
returns-in-Ok-judge-clause-loaded g c =
    LoadsTables-judged (command_view c.args.command.now) c.requires.tables c.in-Ok.bytes
    (g.H.Shelf.state c.args.shelf.now) (g.H.Shelf.state c.read_tables.new.shelf) c.in-Ok.ensures.read
    c.in-Ok-judge.tables c.in-Ok-judge.ensures.tables c.in-Ok-judge.ensures.good

pub returns-in_default-clause-fault : goal.returns-in_default-clause-fault
returns-in_default-clause-fault g c =
    FailsLoad-out (command_view c.args.command.now) c.requires.tables c.in-Ok.bytes
    (g.H.Shelf.state c.args.shelf.now) (g.H.Shelf.state c.read_tables.new.shelf) c.in-Ok.ensures.read

pub returns-clause-fault : goal.returns-clause-fault
returns-clause-fault g c =
    FailsLoad-more (command_view c.args.command.now) c.requires.tables c.in-Ok.bytes
    (g.H.Shelf.state c.args.shelf.now) (g.H.Shelf.state c.read_tables.new.shelf) c.in-Ok.ensures.read
    c.in-Err-skip_more.why (g.H.Shelf.state c.skip_more.new.shelf) c.in-Err-skip_more.ensures.fault

pub returns-in-Ok-skip_more-clause-fault : goal.returns-in-Ok-skip_more-clause-fault
returns-in-Ok-skip_more-clause-fault g c =
    FailsLoad-refused (command_view c.args.command.now) c.requires.tables c.in-Ok.bytes
    (g.H.Shelf.state c.args.shelf.now) (g.H.Shelf.state c.read_tables.new.shelf) c.in-Ok.ensures.read
    c.in-Some.refused (g.H.Shelf.state c.skip_more.new.shelf)
    (refused_as _ c.in-Err-judge.why c.judged.result c.in-Some.refused c.in-Err-judge.ensures.refused c.judged.ensures c.in-Some.is) c.in-Ok-skip_more.ensures.read
