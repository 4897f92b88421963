-- How a field spells a whole number.
use Rattle.std.specs.Prelude.{◌≡◌, ◌≢◌, ℕ, ◌+◌, ◌-◌, ◌*◌, ℤ, pos, neg_ℤ, unsigned_abs, Bool, true, false, not, cond, List, [], ◌∷◌, ◌++◌, replicate, Option, Some, None, option_map, nat_lt, ◌==◌}
use Rattle.std.specs.List.{list_all}
use Rattle.std.specs.Char.{is_ascii_digit}
use Rattle.audit_types.specs.Limits.{most_number}
use Rattle.schema_json.specs.Decimals.{decimal_after, signed}

-- whether a byte is a space
abbrev pub is_space : ℕ → Bool
is_space b = b == 32

-- the bytes after the spaces at the front
abbrev pub after_spaces : List ℕ → List ℕ
after_spaces [] = []
after_spaces (b ∷ bytes) = cond (is_space b) (after_spaces bytes) (b ∷ bytes)

-- the number that digits make after those that made n, if spaces alone follow them
abbrev pub tail_number : ℕ → List ℕ → Option ℕ
tail_number n [] = Some n
tail_number n (b ∷ bytes) = cond (is_ascii_digit b) (tail_number (10 * n + (b - 48)) bytes) (cond (list_all is_space (b ∷ bytes)) (Some n) None)

-- the number that digits make, at least one, if spaces alone follow them
abbrev pub digits_number : List ℕ → Option ℕ
digits_number [] = None
digits_number (b ∷ bytes) = cond (is_ascii_digit b) (tail_number 0 (b ∷ bytes)) None

-- a size with its sign
abbrev pub option_sign : Bool → Option ℕ → Option ℤ
option_sign minus size = option_map (signed minus) size

-- the number after the spaces at the front
abbrev pub signed_number : List ℕ → Option ℤ
signed_number [] = None
signed_number (b ∷ bytes) = cond (b == 45) (option_sign true (digits_number bytes)) (cond (b == 43) (option_sign false (digits_number bytes)) (option_sign false (digits_number (b ∷ bytes))))

-- the number that a field spells, if it spells one; `spells` says the same in the words of `IsNumeral`
unfoldable pub number_in : List ℕ → Option ℤ
number_in field = signed_number (after_spaces field)

-- a sign, or none
pub data Sign : Type 0 where
  none : Sign
  plus : Sign
  minus : Sign

-- how a sign is written
abbrev pub sign_bytes : Sign → List ℕ
sign_bytes none = []
sign_bytes plus = 43 ∷ []
sign_bytes minus = 45 ∷ []

-- a size with this sign before it
abbrev pub with_sign : Sign → ℕ → ℤ
with_sign none n = pos n
with_sign plus n = pos n
with_sign minus n = neg_ℤ (pos n)

-- spaces, a sign or none, one or more digits, spaces
pub record IsNumeral (field : List ℕ) (z : ℤ) : Type 0 where
  pub before : ℕ
  pub sign : Sign
  pub digits : List ℕ
  pub after : ℕ
  pub some : digits ≢ []
  pub are_digits : list_all is_ascii_digit digits ≡ true
  pub field_is : field ≡ replicate before 32 ++ (sign_bytes sign ++ (digits ++ replicate after 32))
  pub value_is : z ≡ with_sign sign (decimal_after 0 digits)

-- not too large
abbrev pub in_range : ℤ → Bool
in_range z = not (nat_lt most_number (unsigned_abs z))
