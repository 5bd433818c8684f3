-- Texts that are put after one another.
use Rattle.std.proofs.Common.{◌≡◌, ℕ, List, ◌++◌, ap, ◌∙◌, append_assoc}

-- a text that was put after another, before what was put later
pub before : (t0 t1 t2 a b : List ℕ) → t1 ≡ t0 ++ a → t2 ≡ t1 ++ b → t2 ≡ t0 ++ (a ++ b)
before t0 t1 t2 a b first second = second ∙ ap (λ t. t ++ b) first ∙ append_assoc t0 a b

-- a text of four pieces, put one after another
pub four_pieces : (t0 t1 t2 t3 t4 p1 p2 p3 p4 : List ℕ) → t1 ≡ t0 ++ p1 → t2 ≡ t1 ++ p2 → t3 ≡ t2 ++ p3 → t4 ≡ t3 ++ p4 → t4 ≡ t0 ++ (p1 ++ (p2 ++ (p3 ++ p4)))
four_pieces t0 t1 t2 t3 t4 p1 p2 p3 p4 e1 e2 e3 e4 = before t0 t1 t4 p1 (p2 ++ (p3 ++ p4)) e1 (before t1 t2 t4 p2 (p3 ++ p4) e2 (before t2 t3 t4 p3 p4 e3 e4))

-- .. of seven
pub seven_pieces : (t0 t1 t2 t3 t4 t5 t6 t7 p1 p2 p3 p4 p5 p6 p7 : List ℕ) → t1 ≡ t0 ++ p1 → t2 ≡ t1 ++ p2 → t3 ≡ t2 ++ p3 → t4 ≡ t3 ++ p4 → t5 ≡ t4 ++ p5 → t6 ≡ t5 ++ p6
    → t7 ≡ t6 ++ p7 → t7 ≡ t0 ++ (p1 ++ (p2 ++ (p3 ++ (p4 ++ (p5 ++ (p6 ++ p7))))))
seven_pieces t0 t1 t2 t3 t4 t5 t6 t7 p1 p2 p3 p4 p5 p6 p7 e1 e2 e3 e4 e5 e6 e7 =
    before t0 t1 t7 p1 (p2 ++ (p3 ++ (p4 ++ (p5 ++ (p6 ++ p7))))) e1 (before t1 t2 t7 p2 (p3 ++ (p4 ++ (p5 ++ (p6 ++ p7)))) e2
    (before t2 t3 t7 p3 (p4 ++ (p5 ++ (p6 ++ p7))) e3 (four_pieces t3 t4 t5 t6 t7 p4 p5 p6 p7 e4 e5 e6 e7)))
