-- Lines are counted one after another.
use Rattle.std.proofs.Common.{◌≡◌, ℕ, ◌+◌, cond, Bool, List, ◌++◌, map, arith, ap, sym, ◌∙◌}
use Rattle.std.specs.Prelude.{count_by}
use Rattle.std.proofs.lemmas.List.{map-append}
use Rattle.std.proofs.lemmas.List.Sums.{sum_by-append}
use Rattle.geo_model.specs.declared.answer.Counts.{Counts}
use Rattle.bound_log.specs.declared.line_kind.LineKind.{LineKind}
use Rattle.bound_log.specs.declared.log_line.LogLine.{LogLine}
use Rattle.bound_log.specs.Counted.{counted_on, counts_of, counts_with, is_split, is_cost, is_cut, is_dual, is_pivot, no_counts}
use Rattle.bound_log.specs.Lines.{kind_of}

counted_on-then : (before : ℕ) (test : LineKind → Bool) (xs ys : List LineKind) → counted_on (counted_on before test xs) test ys ≡ counted_on before test (xs ++ ys)
counted_on-then before test xs ys =
    let all : count_by test (xs ++ ys) ≡ count_by test xs + count_by test ys = sum_by-append (λ l. cond (test l) 1 0) xs ys in
    omega arith

-- counts from their parts
abbrev made : ℕ → ℕ → ℕ → ℕ → ℕ → Counts
made splits costs pivots cuts duals = record { splits = splits; costs = costs; pivots = pivots; cuts = cuts; duals = duals }

same_parts : (a b c d e x y z w v : ℕ) → a ≡ x → b ≡ y → c ≡ z → d ≡ w → e ≡ v → made a b c d e ≡ made x y z w v
same_parts a b c d e x y z w v one two three four five =
    ap (λ n. made n b c d e) one ∙ ap (λ n. made x n c d e) two ∙ ap (λ n. made x y n d e) three ∙ ap (λ n. made x y z n e) four ∙ ap (λ n. made x y z w n) five

-- lines are counted one after another
pub counts_with-then : (before : Counts) (xs ys : List LineKind) → counts_with (counts_with before xs) ys ≡ counts_with before (xs ++ ys)
counts_with-then before xs ys =
    same_parts _ _ _ _ _ _ _ _ _ _
    (counted_on-then before.splits is_split xs ys) (counted_on-then before.costs is_cost xs ys) (counted_on-then before.pivots is_pivot xs ys) (counted_on-then before.cuts is_cut xs ys)
    (counted_on-then before.duals is_dual xs ys)

pub counts_of-then : (xs ys : List LogLine) → counts_with (counts_of xs) (map kind_of ys) ≡ counts_of (xs ++ ys)
counts_of-then xs ys =
    counts_with-then no_counts (map kind_of xs) (map kind_of ys) ∙ ap (counts_with no_counts) (sym (map-append kind_of xs ys))
