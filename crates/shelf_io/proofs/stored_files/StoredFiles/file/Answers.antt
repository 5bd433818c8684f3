use Rattle.std.proofs.Common.{Some, sym, ap, ◌∙◌}
use Rattle.shelf_io.proofs.StoredLaws.{scan, scan-at, files_of-scan}
use Rattle.shelf_io.proofs.stored_files.StoredFiles.file.Goals as goal

pub loop-file-init : goal.loop-file-init
loop-file-init c = files_of-scan _ _ ∙ ap (scan c.args.name.now) (sym c.deref-file-items.ensures.value)

pub returns-then-is_named : goal.returns-then-is_named
returns-then-is_named c =
    ap Some c.content.ensures
    ∙ sym (c.loop-file.invariant ∙ scan-at c.args.name.now c.deref-file-items.result.now c.loop-file.file-index c.file-item.result _ c.loop-file-test.true c.file-item.is c.if-is_named.ensures)

pub loop-file-preserved : goal.loop-file-preserved
loop-file-preserved c = c.loop-file.invariant ∙ scan-at c.args.name.now c.deref-file-items.result.now c.loop-file.file-index c.file-item.result _ c.loop-file-test.true c.file-item.is c.if-is_named.ensures
