use Rattle.std.proofs.Common.{◌≡◌, ℕ, zero, suc, pos, [], replicate, arith, refl}
use Rattle.std.proofs.lemmas.List.{get_or_past, length-replicate}
use Rattle.whole_algebra.specs.Matrices.{at}
use Rattle.log_check.proofs.named_cuts.padded.Goals as goal

-- no unknown moves as yet
still : (n j : ℕ) → at (replicate n (pos 0)) j ≡ pos 0
still zero j = get_or_past [] j (pos 0) (omega arith)
still (suc n) zero = refl
still (suc n) (suc j) = still n j

pub loop-i-init : goal.loop-i-init
loop-i-init c = record { long = length-replicate 64 (pos 0); behind = λ j below. absurd (omega (arith, below)); ahead = λ j from. still 64 j }
