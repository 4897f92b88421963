-- The draws of a drill: a generator whose state has 64 bits.
use Rattle.std.specs.Prelude.{ℕ, zero, suc, ◌+◌, ◌*◌, ◌/◌, ◌%◌, ◌^◌}

-- the state after another
abbrev pub next_state : ℕ → ℕ
next_state state = (state * 6364136223846793005 + 1442695040888963407) % 2 ^ 64

-- the state after so many draws: it begins with the drill's number
unfoldable pub state_after : ℕ → ℕ → ℕ
state_after number zero = number
state_after number (suc count) = next_state (state_after number count)

-- a draw, from 0: the upper 31 bits of the state that it makes
abbrev pub draw : ℕ → ℕ → ℕ
draw number place = state_after number (place + 1) / 2 ^ 33
