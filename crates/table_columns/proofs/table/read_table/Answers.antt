use Rattle.std.proofs.Common.{◌≡◌, ◌∙◌, sym, ap, refl, Ok, Some, true, false, map}
use Rattle.std.specs.Prelude.{drop}
use Rattle.std.proofs.lemmas.Result.{err_from_is_err_and}
use Rattle.table_rows.specs.Header.{rows_under}
use Rattle.table_rows.specs.Rows.{table_rows}
use Rattle.table_rows.proofs.FaultFacts.{first_fault-header}
use Rattle.table_columns.proofs.TableFacts.{read-all, read-broken, read-next, read-start}
use Rattle.table_columns.proofs.table.read_table.Goals as goal

pub returns-in_default-clause-answer : goal.returns-in_default-clause-answer
returns-in_default-clause-answer g c =
    rw c.header_kind.ensures (first_fault-header (g.T.Table.asks c.args.table.now) c.args.bytes.now (rw (← c.header.ensures) (sym c.in_ok-rows.ensures ∙ c.in_default.is)))

pub rows-init : goal.rows-init
rows-init g c = record {
  read = read-start (g.T.Table.asks c.args.table.now) (g.T.Table.value_of c.args.table.now) c.in-Some.rows c.in-Some.rows _ refl c.no_records-records.ensures.none;
  right = rw c.no_records-records.ensures.none c.no_records-records.ensures.right;
}

pub rows-preserved : goal.rows-preserved
rows-preserved g c =
    let read : c.next.result ≡ Ok true = c.in_ok-next.was ∙ ap Ok c.if-branch.true in
    let added = c.in_ok-add.ensures.added c.rows.invariant.read.before c.rows.invariant.read.read in record {
      read =
          read-next (g.T.Table.asks c.args.table.now) (g.T.Table.value_of c.args.table.now) c.in-Some.rows c.rows.rows c.next.new.self (g.T.Table.seen c.rows.records)
          (g.T.Table.seen c.add.new.records) c.next.new.row c.rows.invariant.read (c.next.ensures.found read) added.0 added.1;
      right = c.in_ok-add.ensures.right c.rows.invariant.right;
    }

pub returns-in_err-add-clause-answer : goal.returns-in_err-add-clause-answer
returns-in_err-add-clause-answer g c =
    let read : c.next.result ≡ Ok true = c.in_ok-next.was ∙ ap Ok c.if-branch.true in
    let under : rows_under (g.T.Table.asks c.args.table.now).header c.args.bytes.now ≡ Some c.in-Some.rows = rw (← c.header.ensures) (sym c.in_ok-rows.ensures ∙ c.in-Some.is) in
    let p = err_from_is_err_and c.from_residual-in_err-add.result c.from_residual-in_err-add.ensures.1 in
    rw (p.1, p.2)
    (read-broken (g.T.Table.asks c.args.table.now) (g.T.Table.value_of c.args.table.now) c.in-Some.rows c.rows.rows c.next.new.self (g.T.Table.seen c.rows.records)
    (g.T.Table.seen c.add.new.records) c.next.new.row g.T.Table.seen c.args.bytes.now
    (map (g.T.Table.value_of c.args.table.now) (drop 1 (table_rows c.args.bytes.now))) c.in_err-add.field-0.0 under c.rows.invariant.read (c.next.ensures.found read)
    (c.in_err-add.ensures.added c.rows.invariant.read.before c.rows.invariant.read.read))

pub returns-clause-answer : goal.returns-clause-answer
returns-clause-answer g c =
    let read : c.next.result ≡ Ok false = c.in_ok-next.was ∙ ap Ok c.if-branch.false in
    let under : rows_under (g.T.Table.asks c.args.table.now).header c.args.bytes.now ≡ Some c.in-Some.rows = rw (← c.header.ensures) (sym c.in_ok-rows.ensures ∙ c.in-Some.is) in
    read-all (g.T.Table.asks c.args.table.now) (g.T.Table.value_of c.args.table.now) c.args.bytes.now c.in-Some.rows c.rows.rows (g.T.Table.seen c.rows.records) under
    c.rows.invariant.read (c.next.ensures.ended read).0
