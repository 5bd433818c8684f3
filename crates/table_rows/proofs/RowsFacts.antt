-- The texts of a record, and the records that aren't blank.
use Rattle.std.proofs.Common.{◌≡◌, ◌<◌, ◌∙◌, ℕ, zero, suc, true, false, List, [], ◌∷◌, Some, None, length, refl, arith}
use Rattle.std.specs.Prelude.{slice_get}
use Rattle.std.proofs.lemmas.Option.{slice_get-map, slice_get-get_or}
use Rattle.std.proofs.lemmas.List.{length-map}
use Rattle.csv.specs.Records.{field_at}
use Rattle.table_rows.specs.FieldText.{field_text}
use Rattle.table_rows.specs.Rows.{is_blank, texts_of, without_blanks}

-- a record that isn't blank stays
pub blanks-kept : (old new : List (List (List ℕ))) (row : List (List ℕ)) → is_blank row ≡ false → old ≡ row ∷ new
    → without_blanks old ≡ row ∷ without_blanks new
unfolding without_blanks
blanks-kept old new row shown e = rw (e, shown) refl

-- a blank one is passed over
pub blanks-passed : (old new : List (List (List ℕ))) (row : List (List ℕ)) → is_blank row ≡ true → old ≡ row ∷ new
    → without_blanks old ≡ without_blanks new
unfolding without_blanks
blanks-passed old new row blank e = rw (e, blank) refl

pub blanks-none : (old : List (List (List ℕ))) → old ≡ [] → without_blanks old ≡ []
unfolding without_blanks
blanks-none old e = rw e refl

-- the field at a place, by both words for it
at-place : (fields : List (List ℕ)) (place : ℕ) → field_at fields place ≡ slice_get fields place
unfolding field_at
at-place [] place = refl
at-place (f ∷ fields) zero = refl
at-place (f ∷ fields) (suc place) = at-place fields place

-- the text of the field at a place
pub text-at : (fields shown : List (List ℕ)) (place : ℕ) (field text : List ℕ) → texts_of fields ≡ shown → Some field ≡ field_at fields place
    → text ≡ field_text field → slice_get shown place ≡ Some text
text-at fields shown place field text e f t =
    rw (← e, slice_get-map field_text fields place, ← at-place fields place, ← f, t) refl

-- there is a field at each place below their number
pub text-within : (fields shown : List (List ℕ)) (place : ℕ) → texts_of fields ≡ shown → None ≡ field_at fields place → place < length shown → ⊥
text-within fields shown place e f within =
    let none : None ≡ slice_get fields place = f ∙ at-place fields place in
    let size : length shown ≡ length fields = rw (← e, length-map) refl in
    let some = slice_get-get_or fields place [] (omega arith) in
    cc (none ∙ some)
