use Rattle.std.proofs.Common.{◌≡◌, drop, map}
use Rattle.table_rows.specs.Header.{same_texts}
use Rattle.table_rows.proofs.row.TableRow.has_texts.Given as goal

abbrev pub invariant-places : goal.invariant-places
invariant-places l =
    same_texts (drop l.place l.self) (drop l.place (map (λ text. text.now) l.texts)) ≡ same_texts l.self (map (λ text. text.now) l.texts)
