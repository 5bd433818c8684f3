use Rattle.std.proofs.Common.{◌≡◌, ◌≤◌, ℕ, zero, suc, ◌+◌, Bool, true, false, ◌&&◌, List, [], ◌∷◌, length, drop, refl, ap, ◌∙◌, arith, Some, add-one}
use Rattle.std.specs.Prelude.{slice_get}
use Rattle.std.specs.List.{list_all}
use Rattle.std.proofs.lemmas.List.{drop_all, drop_more}
use Rattle.std.proofs.lemmas.Option.{get_or_from_slice_get, slice_get_within}

-- Laws of tests on the words from a place on.

from_place : {X : Type 0} (p : X → Bool) (xs : List X) (k : ℕ) (x : X) → slice_get xs k ≡ Some x → list_all p (drop k xs) ≡ (p x && list_all p (drop (suc k) xs))
from_place p [] k x here = absurd (cc)
from_place p (y ∷ ys) zero x here = let same : y ≡ x = cc in ap (λ z. p z && list_all p ys) same
from_place p (y ∷ ys) (suc k) x here = from_place p ys k x here

-- the word at a place passes, so all from there pass where all after it do
pub list_all-drop_pass : {X : Type 0} (p : X → Bool) (xs : List X) (k : ℕ) (x : X) → slice_get xs k ≡ Some x → p x ≡ true → list_all p (drop k xs) ≡ list_all p (drop (k + 1) xs)
list_all-drop_pass p xs k x here passes = rw add-one (from_place p xs k x here ∙ ap (λ b. b && list_all p (drop (suc k) xs)) passes)

-- the word at a place fails, so not all from there pass
pub list_all-drop_fail : {X : Type 0} (p : X → Bool) (xs : List X) (k : ℕ) (x : X) → slice_get xs k ≡ Some x → p x ≡ false → list_all p (drop k xs) ≡ false
list_all-drop_fail p xs k x here fails = from_place p xs k x here ∙ ap (λ b. b && list_all p (drop (suc k) xs)) fails

-- past the end all pass
pub list_all-drop_past : {X : Type 0} (p : X → Bool) (xs : List X) (k : ℕ) → length xs ≤ k → list_all p (drop k xs) ≡ true
list_all-drop_past p [] zero past = refl
list_all-drop_past p [] (suc k) past = refl
list_all-drop_past p (x ∷ xs) zero past = absurd (omega arith)
list_all-drop_past p (x ∷ xs) (suc k) past = list_all-drop_past p xs k (omega arith)

-- ---- the words at their places

-- the word at a place, and those after it
word_at : (words : List (List ℕ)) (k : ℕ) (word : List ℕ) → slice_get words k ≡ Some word → drop k words ≡ word ∷ drop (k + 1) words
word_at words k word at = drop_more words k word (slice_get_within words k word at) ∙ ap (λ first. first ∷ drop (k + 1) words) (get_or_from_slice_get words k word word at)

-- eight words have six after the first two
pub six_words : (words : List (List ℕ)) (a b c d e f : List ℕ) → length words ≡ 8 →
    slice_get words 2 ≡ Some a → slice_get words 3 ≡ Some b → slice_get words 4 ≡ Some c → slice_get words 5 ≡ Some d → slice_get words 6 ≡ Some e → slice_get words 7 ≡ Some f →
    drop 2 words ≡ a ∷ b ∷ c ∷ d ∷ e ∷ f ∷ []
six_words words a b c d e f long second third fourth fifth sixth seventh =
    let last : drop 7 words ≡ f ∷ [] = word_at words 7 f seventh ∙ ap (λ rest. f ∷ rest) (drop_all 8 words (omega (arith, long))) in
    let three : drop 5 words ≡ d ∷ e ∷ f ∷ [] = word_at words 5 d fifth ∙ ap (λ rest. d ∷ rest) (word_at words 6 e sixth ∙ ap (λ rest. e ∷ rest) last) in
    word_at words 2 a second ∙ ap (λ rest. a ∷ rest) (word_at words 3 b third ∙ ap (λ rest. b ∷ rest) (word_at words 4 c fourth ∙ ap (λ rest. c ∷ rest) three))
