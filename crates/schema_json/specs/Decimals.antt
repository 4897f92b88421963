-- Numbers in decimal digits, as tables and conditions spell them.
use Rattle.std.specs.Prelude.{ℕ, ℤ, ◌+◌, ◌-◌, ◌*◌, pos, neg_ℤ, Bool, cond, List, [], ◌∷◌}

-- the number that decimal digits mean, after a number that was read before them
abbrev pub decimal_after : ℕ → List ℕ → ℕ
decimal_after n [] = n
decimal_after n (b ∷ bytes) = decimal_after (10 * n + (b - 48)) bytes

-- a number with a minus sign or none
abbrev pub signed : Bool → ℕ → ℤ
signed minus n = cond minus (neg_ℤ (pos n)) (pos n)
