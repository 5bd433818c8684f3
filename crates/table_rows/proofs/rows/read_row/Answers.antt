use Rattle.std.proofs.Common.{◌≡◌, Ok, true, false, refl}
use Rattle.csv.specs.Records.{fields_of}
use Rattle.table_rows.proofs.ReadingFacts.{read-ended, read-found, was-ok}
use Rattle.table_rows.proofs.rows.read_row.Goals as goal

pub returns-clause-stands : goal.returns-clause-stands
returns-clause-stands c = λ found.
    let e : c.read_byte_record.result ≡ Ok true = was-ok _ _ _ true c.map_err.ensures.cases found in
    let read = (rw e at c.read_byte_record.ensures.reads) c.requires.as_it_stands c.requires.ready in
    let on = (rw e at c.read_byte_record.ensures.reads_on) refl in
    (read-found _ c.args.reader.now c.read_byte_record.new.self (fields_of c.read_byte_record.new.row) c.requires read on).0

pub returns-clause-found : goal.returns-clause-found
returns-clause-found c = λ found.
    let e : c.read_byte_record.result ≡ Ok true = was-ok _ _ _ true c.map_err.ensures.cases found in
    let read = (rw e at c.read_byte_record.ensures.reads) c.requires.as_it_stands c.requires.ready in
    let on = (rw e at c.read_byte_record.ensures.reads_on) refl in
    (read-found _ c.args.reader.now c.read_byte_record.new.self (fields_of c.read_byte_record.new.row) c.requires read on).1

pub returns-clause-ended : goal.returns-clause-ended
returns-clause-ended c = λ found.
    let e : c.read_byte_record.result ≡ Ok false = was-ok _ _ _ false c.map_err.ensures.cases found in
    let read = (rw e at c.read_byte_record.ensures.reads) c.requires.as_it_stands c.requires.ready in
    read-ended _ c.args.reader.now c.read_byte_record.new.self (fields_of c.read_byte_record.new.row) c.requires read
