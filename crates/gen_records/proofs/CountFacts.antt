-- How many records a seed gives, and below what its draws are.
use Rattle.std.proofs.Common.{◌≡◌, ◌<◌, ◌/◌, ◌%◌, ◌^◌, ℕ, suc, length, refl, arith}
use Rattle.gen_net.specs.Draws.{drawn, state_after}
use Rattle.gen_records.specs.Records.{point_records, candidate_records, vector_records, distance_records, direction_records, angle_records, level_records}

pub points-counted : (seed : ℕ) → length (point_records seed) ≡ 9
unfolding point_records
points-counted seed = refl

pub candidates-counted : (seed : ℕ) → length (candidate_records seed) ≡ 28
unfolding candidate_records vector_records distance_records direction_records angle_records level_records
candidates-counted seed = refl

pub rest-below : (m n : ℕ) → 0 < n → m % n < n
rest-below m n some = omega arith

-- a draw is one of the numbers below its bound
pub drawn-below : (seed place n : ℕ) → 0 < n → drawn seed place n < n
unfolding drawn
drawn-below seed place n some = rest-below (state_after seed (suc place) / 2 ^ 33) n some
