use Rattle.std.proofs.Common.{◌≡◌, ◌<◌, ℕ, zero, suc, ◌+◌, List, [], ◌∷◌, ◌++◌, length, take, map, get_or, ap, ap₂, sym, ◌∙◌, refl, arith, Some, add-one, append_assoc}
use Rattle.std.specs.Prelude.{slice_get}
use Rattle.std.proofs.lemmas.List.{append-nil}
use Rattle.geo_model.specs.Candidate.{CandidateOf}
use Rattle.geo_model.specs.Network.{NetworkOf}
use Rattle.geo_model.specs.declared.network.Unknown.{Unknown}
use Rattle.limit_lines.proofs.Pieces.{before}
use Rattle.plan_report.specs.RowsText.{numbered, rows_text, unknown_text, candidate_text}

-- Laws of texts that grow.

-- 8 pieces, one after another
pub pieces-8 : (t0 t1 t2 t3 t4 t5 t6 t7 t8 p1 p2 p3 p4 p5 p6 p7 p8 : List ℕ) → t1 ≡ t0 ++ p1 → t2 ≡ t1 ++ p2 → t3 ≡ t2 ++ p3 → t4 ≡ t3 ++ p4 → t5 ≡ t4 ++ p5 → t6 ≡ t5 ++ p6 → t7 ≡ t6 ++ p7 → t8 ≡ t7 ++ p8 → t8 ≡ t0 ++ (p1 ++ (p2 ++ (p3 ++ (p4 ++ (p5 ++ (p6 ++ (p7 ++ (p8))))))))
pieces-8 t0 t1 t2 t3 t4 t5 t6 t7 t8 p1 p2 p3 p4 p5 p6 p7 p8 e1 e2 e3 e4 e5 e6 e7 e8 =
    before t0 t1 t8 p1 (p2 ++ (p3 ++ (p4 ++ (p5 ++ (p6 ++ (p7 ++ (p8))))))) e1 (before t1 t2 t8 p2 (p3 ++ (p4 ++ (p5 ++ (p6 ++ (p7 ++ (p8)))))) e2 (before t2 t3 t8 p3 (p4 ++ (p5 ++ (p6 ++ (p7 ++ (p8))))) e3 (before t3 t4 t8 p4 (p5 ++ (p6 ++ (p7 ++ (p8)))) e4 (before t4 t5 t8 p5 (p6 ++ (p7 ++ (p8))) e5 (before t5 t6 t8 p6 (p7 ++ (p8)) e6 (before t6 t7 t8 p7 p8 e7 e8))))))

-- the value of f at an element
pub map-at : {X Y : Type 0} (f : X → Y) (xs : List X) (k : ℕ) (x : X) (other : Y) → slice_get xs k ≡ Some x → get_or (map f xs) k other ≡ f x
map-at f [] k x other here = absurd (cc)
map-at f (y ∷ xs) zero x other here = let same : y ≡ x = cc in ap f same
map-at f (y ∷ xs) (suc k) x other here = map-at f xs k x other here

step : {X : Type 0} (text : ℕ → X → List ℕ) (first n : ℕ) (xs : List X) (x : X) → n < length xs → x ≡ get_or xs n x → numbered text first (take (suc n) xs) ≡ numbered text first (take n xs) ++ text (first + n) x
step text first n [] x inside here = absurd (omega arith)
step text first zero (y ∷ xs) x inside here =
    let number : first ≡ first + 0 = omega arith in
    append-nil (text first y) ∙ ap₂ text number (sym here)
step text first (suc n) (y ∷ xs) x inside here =
    let later : n < length xs = omega arith in
    let number : (first + 1) + n ≡ first + suc n = omega arith in
    ap (λ t. text first y ++ t) (step text (first + 1) n xs x later here)
    ∙ sym (append_assoc (text first y) (numbered text (first + 1) (take n xs)) (text ((first + 1) + n) x))
    ∙ ap (λ k. (text first y ++ numbered text (first + 1) (take n xs)) ++ text k x) number

-- the texts of one element more
pub numbered-grows : {X : Type 0} (text : ℕ → X → List ℕ) (first n number : ℕ) (xs : List X) (x : X) (t0 t1 t2 : List ℕ) →
    n < length xs → x ≡ get_or xs n x → number ≡ first + n →
    t1 ≡ t0 ++ numbered text first (take n xs) → t2 ≡ t1 ++ text number x →
    t2 ≡ t0 ++ numbered text first (take (n + 1) xs)
numbered-grows text first n number xs x t0 t1 t2 inside here is so_far more =
    let grown : numbered text first (take (n + 1) xs) ≡ numbered text first (take n xs) ++ text number x =
    rw add-one (step text first n xs x inside here ∙ ap (λ k. numbered text first (take n xs) ++ text k x) (sym is)) in
    before t0 t1 t2 (numbered text first (take n xs)) (text number x) so_far more ∙ ap (λ t. t0 ++ t) (sym grown)

-- the whole text, from its two parts
pub rows_text-is : (points names : List (List ℕ)) (network : NetworkOf) (t0 t1 t2 : List ℕ) (unknowns : List Unknown) (candidates : List CandidateOf) →
    t0 ≡ [] → unknowns ≡ network.unknowns → candidates ≡ network.candidates →
    t1 ≡ t0 ++ numbered (unknown_text points) 0 unknowns → t2 ≡ t1 ++ numbered (candidate_text names) 0 candidates →
    t2 ≡ rows_text points names network
unfolding rows_text
rows_text-is points names network t0 t1 t2 unknowns candidates none same_unknowns same_candidates first second =
    second
    ∙ ap₂ (λ (t : List ℕ) (cs : List CandidateOf). t ++ numbered (candidate_text names) 0 cs)
    (first ∙ ap₂ (λ (t : List ℕ) (us : List Unknown). t ++ numbered (unknown_text points) 0 us) none same_unknowns) same_candidates

-- inside a list the other value plays no part
pub get_or-inside : {X : Type 0} (xs : List X) (n : ℕ) (one other : X) → n < length xs → get_or xs n one ≡ get_or xs n other
get_or-inside [] n one other inside = absurd (omega arith)
get_or-inside (x ∷ xs) zero one other inside = refl
get_or-inside (x ∷ xs) (suc n) one other inside = let later : n < length xs = omega arith in get_or-inside xs n one other later
