-- The draws of a seed. The generator is linear and congruential modulo 2 ^ 64 (Knuth, The Art of Computer Programming,
-- volume 2, whose multiplier for 64 bits it has); what is drawn is taken from its upper bits. This project's own.
use Rattle.std.specs.Prelude.{ℕ, zero, suc, ◌+◌, ◌*◌, ◌/◌, ◌%◌, ◌^◌}

-- the state after another one
unfoldable pub next_state : ℕ → ℕ
next_state state = (state * 6364136223846793005 + 1442695040888963407) % 2 ^ 64

-- the state of a seed after this many draws
unfoldable pub state_after : ℕ → ℕ → ℕ
state_after seed zero = seed
state_after seed (suc count) = next_state (state_after seed count)

-- the draw of n at this place of the seed's stream, counted from 0: a number below n
unfoldable pub drawn : ℕ → ℕ → ℕ → ℕ
drawn seed place n = state_after seed (suc place) / 2 ^ 33 % n
