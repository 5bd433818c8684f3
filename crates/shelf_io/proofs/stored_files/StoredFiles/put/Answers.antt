use Rattle.std.proofs.Common.{Some, ◌∷◌, ap, sym, ◌∙◌}
use Rattle.shelf_io.specs.Stored.{files_of}
use Rattle.shelf_io.proofs.StoredLaws.{with_bytes-newest}
use Rattle.shelf_io.proofs.stored_files.StoredFiles.put.Goals as goal

pub returns-clause-put : goal.returns-clause-put
returns-clause-put c =
    ap (λ es. Some (files_of es)) c.in_ok-store.ensures.stored
    ∙ ap (λ b. Some (files_of ((c.args.name.now, b) ∷ c.args.self.now.files.items))) c.in_ok-content.ensures.items
    ∙ sym (with_bytes-newest c.args.self.now.files.items c.args.name.now c.args.bytes.now)
