use Rattle.std.proofs.Common.{◌≡◌, ◌<◌, length, true, arith}
use Rattle.std.specs.List.{list_all}
use Rattle.table_columns.specs.Names.{is_name_byte}
use Rattle.table_columns.proofs.NameFacts.{is_name-other, is_name-utf8}
use Rattle.table_columns.proofs.name.name_text.Goals as goal

pub returns-in-Ok : goal.returns-in-Ok
returns-in-Ok c =
    let low : 0 < length c.args.bytes.now = grind arith in
    let bytes : list_all is_name_byte c.args.bytes.now ≡ true = cc in
    (is_name-utf8 c.args.bytes.now low (omega arith) bytes c.in-Ok.ensures.cases.1, c.in-Ok.ensures.cases.0)

pub returns-in-Err : goal.returns-in-Err
returns-in-Err c =
    let low : 0 < length c.args.bytes.now = grind arith in
    let bytes : list_all is_name_byte c.args.bytes.now ≡ true = cc in
    is_name-other c.args.bytes.now low (omega arith) bytes c.in-Err.ensures.cases.0
