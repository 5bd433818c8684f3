-- Laws of the lines of a report.
use Rattle.std.proofs.Common.{◌≡◌, ◌≤◌, ℕ, zero, suc, ◌+◌, Bool, true, false, if◌then◌else◌, List, [], ◌∷◌, ◌++◌, length, take, ap, ap₂, sym, ◌∙◌, arith, Some, add-one, append_assoc, refl}
use Rattle.std.specs.Prelude.{slice_get}
use Rattle.std.proofs.lemmas.List.{append-nil, length-map, take_all}
use Rattle.std.proofs.lemmas.Option.{slice_get-map}
use Rattle.candidate_tables.specs.declared.record.CandidateRecord.{CandidateRecord}
use Rattle.candidate_tables.specs.CandidateTable.{candidate_names}
use Rattle.limit_lines.proofs.Pieces.{before}
use Rattle.plan_report.specs.ReportText.{take_text, takes_text}

step : (n : ℕ) (names : List (List ℕ)) (plan : List Bool) (name : List ℕ) (chosen : Bool) → slice_get names n ≡ Some name → slice_get plan n ≡ Some chosen → takes_text (take (suc n) names) plan ≡ takes_text (take n names) plan ++ (if chosen then take_text name else [])
step n [] plan name chosen here flag = absurd (cc)
step n (first ∷ rest) [] name chosen here flag = absurd (cc)
step zero (first ∷ rest) (b ∷ plan) name chosen here flag =
    let same : b ≡ chosen = cc in
    let called : first ≡ name = cc in
    append-nil (if b then take_text first else []) ∙ ap₂ (λ (t : Bool) (m : List ℕ). if t then take_text m else []) same called
step (suc n) (first ∷ rest) (b ∷ plan) name chosen here flag =
    ap (λ t. (if b then take_text first else []) ++ t) (step n rest plan name chosen here flag)
    ∙ sym (append_assoc (if b then take_text first else []) (takes_text (take n rest) plan) (if chosen then take_text name else []))

chosen_line : (b : Bool) (line : List ℕ) → b ≡ true → (if b then line else []) ≡ line
chosen_line b line is = ap (λ (v : Bool). if v then line else []) is

left_line : (b : Bool) (line : List ℕ) → b ≡ false → (if b then line else []) ≡ []
left_line b line is = ap (λ (v : Bool). if v then line else []) is

name_at : (n : ℕ) (candidates : List CandidateRecord) (candidate : CandidateRecord) → slice_get candidates n ≡ Some candidate → slice_get (candidate_names candidates) n ≡ Some candidate.name
name_at n candidates candidate here = rw (slice_get-map (λ (c : CandidateRecord). c.name) candidates n, here) refl

-- the lines of one candidate more, where it is chosen
pub takes_text-chosen : (n : ℕ) (candidates : List CandidateRecord) (plan : List Bool) (candidate : CandidateRecord) (chosen : Bool) → slice_get candidates n ≡ Some candidate → slice_get plan n ≡ Some chosen → chosen ≡ true → takes_text (take (n + 1) (candidate_names candidates)) plan ≡ takes_text (take n (candidate_names candidates)) plan ++ take_text candidate.name
takes_text-chosen n candidates plan candidate chosen here flag is =
    rw add-one (step n (candidate_names candidates) plan candidate.name chosen (name_at n candidates candidate here) flag
    ∙ ap (λ t. takes_text (take n (candidate_names candidates)) plan ++ t) (chosen_line chosen (take_text candidate.name) is))

-- .. and where it isn't
pub takes_text-left : (n : ℕ) (candidates : List CandidateRecord) (plan : List Bool) (candidate : CandidateRecord) (chosen : Bool) → slice_get candidates n ≡ Some candidate → slice_get plan n ≡ Some chosen → chosen ≡ false → takes_text (take (n + 1) (candidate_names candidates)) plan ≡ takes_text (take n (candidate_names candidates)) plan
takes_text-left n candidates plan candidate chosen here flag is =
    rw add-one (step n (candidate_names candidates) plan candidate.name chosen (name_at n candidates candidate here) flag
    ∙ ap (λ t. takes_text (take n (candidate_names candidates)) plan ++ t) (left_line chosen (take_text candidate.name) is) ∙ append-nil (takes_text (take n (candidate_names candidates)) plan))

-- the lines of all
pub takes_text-all : (n : ℕ) (candidates : List CandidateRecord) (plan : List Bool) → length candidates ≤ n → takes_text (take n (candidate_names candidates)) plan ≡ takes_text (candidate_names candidates) plan
takes_text-all n candidates plan past =
    ap (λ names. takes_text names plan) (take_all n (candidate_names candidates) (omega (arith, length-map candidates (λ (c : CandidateRecord). c.name))))

-- a text of six pieces, put one after another
pub six_pieces : (t1 t2 t3 t4 t5 t6 p1 p2 p3 p4 p5 p6 : List ℕ) → t1 ≡ p1 → t2 ≡ t1 ++ p2 → t3 ≡ t2 ++ p3 → t4 ≡ t3 ++ p4 → t5 ≡ t4 ++ p5 → t6 ≡ t5 ++ p6 → t6 ≡ p1 ++ (p2 ++ (p3 ++ (p4 ++ (p5 ++ p6))))
six_pieces t1 t2 t3 t4 t5 t6 p1 p2 p3 p4 p5 p6 e1 e2 e3 e4 e5 e6 =
    before t1 t2 t6 p2 (p3 ++ (p4 ++ (p5 ++ p6))) e2 (before t2 t3 t6 p3 (p4 ++ (p5 ++ p6)) e3 (before t3 t4 t6 p4 (p5 ++ p6) e4 (before t4 t5 t6 p5 p6 e5 e6)))
    ∙ ap (λ t. t ++ (p2 ++ (p3 ++ (p4 ++ (p5 ++ p6))))) e1

-- .. of three, four and five
pub three_pieces : (t1 t2 t3 p1 p2 p3 : List ℕ) → t1 ≡ p1 → t2 ≡ t1 ++ p2 → t3 ≡ t2 ++ p3 → t3 ≡ p1 ++ (p2 ++ p3)
three_pieces t1 t2 t3 p1 p2 p3 e1 e2 e3 = before t1 t2 t3 p2 p3 e2 e3 ∙ ap (λ t. t ++ (p2 ++ p3)) e1

pub four_pieces : (t1 t2 t3 t4 p1 p2 p3 p4 : List ℕ) → t1 ≡ p1 → t2 ≡ t1 ++ p2 → t3 ≡ t2 ++ p3 → t4 ≡ t3 ++ p4 → t4 ≡ p1 ++ (p2 ++ (p3 ++ p4))
four_pieces t1 t2 t3 t4 p1 p2 p3 p4 e1 e2 e3 e4 = three_pieces t1 t2 t4 p1 p2 (p3 ++ p4) e1 e2 (before t2 t3 t4 p3 p4 e3 e4)

pub five_pieces : (t1 t2 t3 t4 t5 p1 p2 p3 p4 p5 : List ℕ) → t1 ≡ p1 → t2 ≡ t1 ++ p2 → t3 ≡ t2 ++ p3 → t4 ≡ t3 ++ p4 → t5 ≡ t4 ++ p5
    → t5 ≡ p1 ++ (p2 ++ (p3 ++ (p4 ++ p5)))
five_pieces t1 t2 t3 t4 t5 p1 p2 p3 p4 p5 e1 e2 e3 e4 e5 = four_pieces t1 t2 t3 t5 p1 p2 p3 (p4 ++ p5) e1 e2 e3 (before t3 t4 t5 p4 p5 e4 e5)
