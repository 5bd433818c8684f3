use Rattle.std.proofs.Common.{◌≡◌, drop}
use Rattle.std.specs.List.{list_all}
use Rattle.std.specs.Str.{is_utf8}
use Rattle.table_rows.proofs.row.TableRow.is_utf8.Given as goal

abbrev pub invariant-places : goal.invariant-places
invariant-places l = list_all is_utf8 (drop l.place l.self) ≡ list_all is_utf8 l.self
