-- Texts that are put together piece by piece.
use Rattle.std.proofs.Common.{ℤ, pos, codes, ◌≡◌, ◌∙◌, ◌+◌, ◌<◌, ℕ, zero, suc, List, [], ◌∷◌, ◌++◌, Some, length, take, refl, sym, ap, arith, slice_get, append-nil, append_assoc}
use Rattle.std.specs.List.{flat_map}
use Rattle.std.proofs.lemmas.List.Concat.{flat_map-append}
use Rattle.text_num.specs.Whole.{whole_text}
use Rattle.geo_model.specs.declared.verdict.Verdict.TheVariants.{Open}
use Rattle.verdict_cli.specs.Answer.{verdict_line}
use Rattle.net_build.proofs.StepFacts.{take-one}

-- a piece behind a piece
pub join : {X : Type 0} (before first second middle after : List X) → middle ≡ before ++ first → after ≡ middle ++ second → after ≡ before ++ (first ++ second)
join before first second middle after e f = f ∙ ap (λ l. l ++ second) e ∙ append_assoc before first second

-- a place within a list has an element
pub at_place : {X : Type 0} (xs : List X) (k : ℕ) → k < length xs → (x : X) × (slice_get xs k ≡ Some x)
at_place [] k lt = absurd (omega (arith, lt))
at_place (x ∷ xs) zero lt = (x, refl)
at_place (x ∷ xs) (suc k) lt = at_place xs k (omega (arith, lt))

-- the text of one more element behind those of the earlier ones
pub one_more : {X : Type 0} (text : X → List ℕ) (start before told after : List ℕ) (xs : List X) (k : ℕ) → k < length xs
    → ((x : X) → slice_get xs k ≡ Some x → told ≡ text x)
    → before ≡ start ++ flat_map text (take k xs) → after ≡ before ++ told → after ≡ start ++ flat_map text (take (k + 1) xs)
one_more text start before told after xs k lt is e f =
    let found = at_place xs k lt in
    join start (flat_map text (take k xs)) told before after e f
    ∙ ap (λ l. start ++ l) (
    ap (λ l. flat_map text (take k xs) ++ l) (is found.0 found.1 ∙ sym (append-nil (text found.0)))
    ∙ sym (ap (flat_map text) (take-one xs k found.0 found.1) ∙ flat_map-append text (take k xs) (found.0 ∷ []))
    )

-- a text and those of the elements that are left, after the first of them is told
pub one_less : {X : Type 0} (text : X → List ℕ) (total before told after : List ℕ) (rest more : List X) (x : X)
    → before ++ flat_map text rest ≡ total → rest ≡ x ∷ more → told ≡ text x → after ≡ before ++ told → after ++ flat_map text more ≡ total
one_less text total before told after rest more x e cut is f =
    ap (λ l. l ++ flat_map text more) f
    ∙ append_assoc before told (flat_map text more)
    ∙ ap (λ l. before ++ (l ++ flat_map text more)) is
    ∙ sym (ap (λ l. before ++ flat_map text l) cut)
    ∙ e

-- .. and where none is left
pub none_left : {X : Type 0} (text : X → List ℕ) (total before : List ℕ) (rest : List X) → before ++ flat_map text rest ≡ total → rest ≡ [] → before ≡ total
none_left text total before rest e cut = sym (append-nil before) ∙ sym (ap (λ l. before ++ flat_map text l) cut) ∙ e

-- the line of an open verdict, which is put piece by piece
pub open_line : (step : ℕ) (told lo hi : ℤ) (start word stepped third low fifth high whole : List ℕ)
    → told ≡ pos step
    → word ≡ start ++ codes "open,"
    → stepped ≡ word ++ whole_text told
    → third ≡ stepped ++ codes ","
    → low ≡ third ++ whole_text lo
    → fifth ≡ low ++ codes ","
    → high ≡ fifth ++ whole_text hi
    → whole ≡ high ++ codes "\n"
    → whole ≡ start ++ verdict_line (Open step lo hi)
unfolding verdict_line
open_line step told lo hi start word stepped third low fifth high whole is e1 e2 e3 e4 e5 e6 e7 =
    let f2 = e2 ∙ ap (λ n. word ++ whole_text n) is in
    let from6 = join fifth (whole_text hi) (codes "\n") high whole e6 e7 in
    let from5 = join low (codes ",") (whole_text hi ++ codes "\n") fifth whole e5 from6 in
    let from4 = join third (whole_text lo) (codes "," ++ (whole_text hi ++ codes "\n")) low whole e4 from5 in
    let from3 = join stepped (codes ",") (whole_text lo ++ (codes "," ++ (whole_text hi ++ codes "\n"))) third whole e3 from4 in
    let from2 = join word (whole_text (pos step)) (codes "," ++ (whole_text lo ++ (codes "," ++ (whole_text hi ++ codes "\n")))) stepped whole f2 from3 in
    join start (codes "open,") (whole_text (pos step) ++ (codes "," ++ (whole_text lo ++ (codes "," ++ (whole_text hi ++ codes "\n"))))) word whole e1 from2
