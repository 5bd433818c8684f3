use Rattle.geoplan.specs.CommandView.{sources_view}
use Rattle.geoplan.proofs.GenOutcome.{Generates-written, Generates-unwritten, Generates-out}
use Rattle.geoplan.proofs.generate.answer_gen.Goals as goal

pub returns-in-Ok : goal.returns-in-Ok
returns-in-Ok g c =
    Generates-written (sources_view c.args.sources.now) (g.H.Shelf.state c.args.shelf.now) (g.H.Shelf.state c.write_tables.new.shelf)
    c.made.result.status c.made.result.text.items c.written.result c.in-Ok.ensures.written c.written.ensures c.made.ensures

pub returns-in-Err-Failed : goal.returns-in-Err-Failed
returns-in-Err-Failed g c =
    Generates-unwritten (sources_view c.args.sources.now) (g.H.Shelf.state c.args.shelf.now) (g.H.Shelf.state c.write_tables.new.shelf)
    c.silent.result.status c.silent.result.text.items c.in-Err-Failed.field-0 c.in-Err-Failed.ensures.fault c.in-Err-Failed.field-0-is
    c.silent.ensures.status c.silent.ensures.text

pub returns-in-Err-NoMemory : goal.returns-in-Err-NoMemory
returns-in-Err-NoMemory g c =
    Generates-out (sources_view c.args.sources.now) (g.H.Shelf.state c.args.shelf.now) (g.H.Shelf.state c.write_tables.new.shelf)
    c.silent-in-Err-NoMemory.result.status c.silent-in-Err-NoMemory.result.text.items c.in-Err-NoMemory.field-0 c.in-Err-NoMemory.ensures.fault c.in-Err-NoMemory.field-0-is
    c.silent-in-Err-NoMemory.ensures.status c.silent-in-Err-NoMemory.ensures.text
