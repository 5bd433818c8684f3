use Rattle.std.specs.Prelude.{ℕ, ◌+◌, ◌≤◌, if◌then◌else◌, Bool, List, [], ◌∷◌}

-- Covering inequalities over the candidates of a network, as integer programming has them: the coefficients of the chosen
-- candidates sum to at least a bound.

-- the coefficients by candidate, and the bound
pub record CoverOf : Type 0 where
  pub coefficients : List ℕ
  pub bound : ℕ

-- the sum of the numbers of the chosen candidates
abbrev pub chosen_sum : List ℕ → List Bool → ℕ
chosen_sum [] plan = 0
chosen_sum (number ∷ rest) [] = 0
chosen_sum (number ∷ rest) (chosen ∷ plan) = (if chosen then number else 0) + chosen_sum rest plan

-- a plan satisfies a covering inequality
abbrev pub Satisfies : CoverOf → List Bool → Type 0
Satisfies cover plan = cover.bound ≤ chosen_sum cover.coefficients plan
