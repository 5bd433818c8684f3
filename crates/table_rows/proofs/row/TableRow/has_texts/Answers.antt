use Rattle.std.proofs.Common.{◌≡◌, map, true, false, sym, ◌∙◌, Bor, List, ℕ}
use Rattle.std.proofs.lemmas.Bool.{not-false, not-true}
use Rattle.std.specs.Str.{bytes_eq}
use Rattle.table_rows.proofs.HeaderFacts.{at-map, texts-agree, texts-differ}
use Rattle.table_rows.proofs.row.TableRow.has_texts.Goals as goal

pub returns-then-ne : goal.returns-then-ne
returns-then-ne c =
    let text = at-map (λ (text : Bor (List ℕ)). text.now) c.args.texts.now c.places.place _ c.as_bytes.result.now c.places-test.true c.as_bytes.ensures.value in
    let other : bytes_eq c.field.result.now c.as_bytes.result.now ≡ false = not-true _ (sym c.ne.ensures ∙ c.if-ne.true) in
    texts-differ c.args.self.now (map (λ text. text.now) c.args.texts.now) c.places.place _ _ _ c.field.ensures text c.places.invariant other

pub places-preserved : goal.places-preserved
places-preserved c =
    let text = at-map (λ (text : Bor (List ℕ)). text.now) c.args.texts.now c.places.place _ c.as_bytes.result.now c.places-test.true c.as_bytes.ensures.value in
    let same : bytes_eq c.field.result.now c.as_bytes.result.now ≡ true = not-false _ (sym c.ne.ensures ∙ c.if-ne.false) in
    texts-agree c.args.self.now (map (λ text. text.now) c.args.texts.now) c.places.place _ _ _ c.field.ensures text c.places.invariant same
