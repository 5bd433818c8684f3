-- A line of plan digits has one for each candidate.
use Rattle.std.proofs.Common.{◌≡◌, ◌∙◌, ℕ, true, List, length, arith}
use Rattle.std.proofs.lemmas.List.{length-map}
use Rattle.verdict_cli.specs.Answer.{is_one, is_plan, plan_of}

pub plan-places : (m : ℕ) (line : List ℕ) → is_plan m line ≡ true → length (plan_of line) ≡ m
plan-places m line is = length-map line is_one ∙ long
  where
    long : length line ≡ m
    long = grind arith
