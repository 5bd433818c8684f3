use Rattle.std.proofs.Common.{◌≡◌, ℕ, ◌+◌, ◌/◌, ◌^◌, ◌<◌, ◌≤◌, inl, inr, subst, arith}
use Rattle.std.proofs.Math.Pow.{shr_lt}
use Rattle.std.proofs.lemmas.Bool.{cases_lt}
use borrow.Author.Count.{below_more}
use Rattle.cut_pool.proofs.Shifts.{shift-unique, cut_shift-least}
use Rattle.cut_pool.proofs.cut.cut_shift.Goals as goal

not_last : (n shift : ℕ) → n < 2 ^ 120 → shift ≤ 96 → 2 ^ 24 ≤ n / 2 ^ shift → shift + 1 ≤ 96
not_last n shift small size high =
    elim (cases_lt shift 96) [
      | inl less ↦ omega arith
      | inr le ↦ absurd (last shift (omega arith) high)
    ]
  where
    last : (s : ℕ) → s ≡ 96 → 2 ^ 24 ≤ n / 2 ^ s → ⊥
    last s e h = let low = shr_lt {n = n} 24 96 small in let top = subst (λ (k : ℕ). 2 ^ 24 ≤ n / 2 ^ k) e h in omega arith

pub loop-shift-preserved : goal.loop-shift-preserved
loop-shift-preserved c = record {
  size = not_last c.args.n c.loop-shift.shift c.requires c.loop-shift.invariant.size c.loop-shift-test.true;
  least = below_more (λ s. 2 ^ 24 ≤ c.args.n / 2 ^ s) c.loop-shift.shift c.loop-shift.invariant.least c.loop-shift-test.true;
}

pub returns-clause-value : goal.returns-clause-value
returns-clause-value c =
    shift-unique c.args.n c.loop-shift.shift _ (record { reached = c.loop-shift-test.false; least = c.loop-shift.invariant.least }) (cut_shift-least c.args.n c.requires)
