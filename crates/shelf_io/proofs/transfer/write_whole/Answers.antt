use Rattle.std.proofs.Common.{◌≡◌, ℕ, ◌-◌, List, ◌++◌, length, take, drop, sym, ap, ◌∙◌, subst, append_assoc, take-append-drop}
use Rattle.std.proofs.Math.Seq.{take-append_seam}
use Rattle.std.proofs.lemmas.List.{take_rest}
use Rattle.std.specs.Io.KnownBytes.{Appends}
use Rattle.std.proofs.KnownBytes.{Appends-trans, Appends-kept}
use Rattle.shelf_io.proofs.transfer.write_whole.Goals as goal

moves_front : (all done rest : List ℕ) (n : ℕ) → all ≡ done ++ rest → all ≡ (done ++ take n rest) ++ take (length rest - n) (drop n rest)
moves_front all done rest n e =
    e ∙ ap (λ l. done ++ l) (sym (take-append-drop n rest)) ∙ sym (append_assoc done (take n rest) (drop n rest)) ∙ ap (λ l. (done ++ take n rest) ++ l) (sym (take_rest rest n))

front_of : (all done rest : List ℕ) → all ≡ done ++ rest → done ≡ take (length done) all
front_of all done rest e = sym (ap (take (length done)) e ∙ take-append_seam done rest)

pub loop-rest-preserved : goal.loop-rest-preserved
loop-rest-preserved g c =
    let (done, split, appended) = c.loop-rest.invariant in
    let rest = c.loop-rest.rest.now in
    let n = c.in-Ok.taken in
    (done ++ take n rest, moves_front _ done rest n split, Appends-trans _ _ _ _ _ appended c.in-Ok.ensures.bytes)

pub returns-in-Err-clause-stopped : goal.returns-in-Err-clause-stopped
returns-in-Err-clause-stopped g c =
    let (done, split, appended) = c.loop-rest.invariant in
    (length done, subst (Appends _ _) (front_of _ done _ split) (Appends-kept _ _ _ _ appended c.in-Err.ensures.bytes))

pub returns-then-taken-eq0-clause-stopped : goal.returns-then-taken-eq0-clause-stopped
returns-then-taken-eq0-clause-stopped g c =
    let (done, split, appended) = c.loop-rest.invariant in
    let rest = c.loop-rest.rest.now in
    let front = done ++ take c.in-Ok.taken rest in
    (length front, subst (Appends _ _) (front_of _ front _ (moves_front _ done rest c.in-Ok.taken split)) (Appends-trans _ _ _ _ _ appended c.in-Ok.ensures.bytes))
