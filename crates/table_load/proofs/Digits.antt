-- Digits that are read one by one, with all sizes above the limit as one.
use Rattle.std.proofs.Common.{◌≡◌, ◌≢◌, ℕ, zero, suc, ◌+◌, ◌-◌, ◌*◌, ◌^◌, ◌<◌, Bool, true, false, cond, List, [], ◌∷◌, length, drop, get_or, Option, Some, None, refl, sym, ap, ◌∙◌, arith, drop-cons, add-one}
use Rattle.std.specs.Prelude.{ℤ, pos, neg_ℤ, not, option_map, unwrap_or, ◌==◌}
use Rattle.std.proofs.lemmas.Bool.{ne_eqb, lt-ltb}
use Rattle.std.specs.List.{list_all}
use Rattle.std.specs.Char.{is_ascii_digit}
use Rattle.table_load.specs.Numerals.{is_space, tail_number, digits_number, option_sign, signed_number, in_range}
use Rattle.table_load.specs.Numbers.{capped}

-- sizes that are one at the limit stay so with one digit more
capped-digit : (n m d : ℕ) → capped n ≡ capped m → capped (10 * n + d) ≡ capped (10 * m + d)
capped-digit n m d same = omega arith

-- one byte more keeps sizes one at the limit
same_step : (d s : Bool) (x y : Option ℕ) (n m : ℕ) → option_map capped x ≡ option_map capped y → capped n ≡ capped m
    → option_map capped (cond d x (cond s (Some n) None)) ≡ option_map capped (cond d y (cond s (Some m) None))
same_step true s x y n m later same = later
same_step false true x y n m later same = ap Some same
same_step false false x y n m later same = refl

-- sizes that are one at the limit give one number
same_number : (n m : ℕ) (bytes : List ℕ) → capped n ≡ capped m → option_map capped (tail_number n bytes) ≡ option_map capped (tail_number m bytes)
same_number n m [] same = ap Some same
same_number n m (b ∷ bytes) same =
    same_step (is_ascii_digit b) (list_all is_space (b ∷ bytes)) _ _ n m
    (same_number (10 * n + (b - 48)) (10 * m + (b - 48)) bytes (capped-digit n m (b - 48) same)) same

-- what is left from a place on, by its first byte
abbrev pub number_at : ℕ → List ℕ → ℕ → Option ℕ
number_at size bytes place = option_map capped (tail_number size (drop place bytes))

-- the number from a place on, by the byte there
from_here : (bytes : List ℕ) (place size : ℕ) → place < length bytes →
    number_at size bytes place ≡ option_map capped (tail_number size (get_or bytes place 0 ∷ drop (place + 1) bytes))
from_here bytes place size within =
    ap (λ xs. option_map capped (tail_number size xs)) (drop-cons bytes place 0 within ∙ ap (λ k. get_or bytes place 0 ∷ drop k bytes) (sym (add-one place)))

-- one digit more
pub one_digit : (bytes : List ℕ) (place size next : ℕ) → place < length bytes → is_ascii_digit (get_or bytes place 0) ≡ true
    → capped next ≡ capped (10 * size + (get_or bytes place 0 - 48))
    → number_at size bytes place ≡ number_at next bytes (place + 1)
one_digit bytes place size next within digit same =
    from_here bytes place size within
    ∙ ap
    (λ d. option_map capped (cond d (tail_number (10 * size + (get_or bytes place 0 - 48)) (drop (place + 1) bytes))
    (cond (list_all is_space (get_or bytes place 0 ∷ drop (place + 1) bytes)) (Some size) None))) digit
    ∙ same_number _ next (drop (place + 1) bytes) (sym same)

-- a first digit begins a number
pub begins : (bytes : List ℕ) → 0 < length bytes → is_ascii_digit (get_or bytes 0 0) ≡ true → option_map capped (digits_number bytes) ≡ number_at 0 bytes 0
begins [] some digit = absurd (omega (arith, some))
begins (b ∷ bytes) some digit = ap (λ d. option_map capped (cond d (tail_number 0 (b ∷ bytes)) None)) digit

-- a minus and a size after it
pub behind_minus : (bytes : List ℕ) → 0 < length bytes → get_or bytes 0 0 ≡ 45 → signed_number bytes ≡ option_sign true (digits_number (drop 1 bytes))
behind_minus [] some is = absurd (omega (arith, some))
behind_minus (b ∷ bytes) some is = ap (λ x. signed_number (x ∷ bytes)) is

-- a plus and a size after it
pub behind_plus : (bytes : List ℕ) → 0 < length bytes → get_or bytes 0 0 ≡ 43 → signed_number bytes ≡ option_sign false (digits_number (drop 1 bytes))
behind_plus [] some is = absurd (omega (arith, some))
behind_plus (b ∷ bytes) some is = ap (λ x. signed_number (x ∷ bytes)) is

-- a size with no sign
pub no_sign : (bytes : List ℕ) → 0 < length bytes → get_or bytes 0 0 ≢ 45 → get_or bytes 0 0 ≢ 43 →
    signed_number bytes ≡ option_sign false (digits_number bytes)
no_sign [] some no_minus no_plus = absurd (omega (arith, some))
no_sign (b ∷ bytes) some no_minus no_plus =
    ap
    (λ m. cond m (option_sign true (digits_number bytes)) (cond (b == 43) (option_sign false (digits_number bytes))
    (option_sign false (digits_number (b ∷ bytes)))))
    (ne_eqb b 45 no_minus)
    ∙ ap (λ p. cond p (option_sign false (digits_number bytes)) (option_sign false (digits_number (b ∷ bytes)))) (ne_eqb b 43 no_plus)

-- a large size stays large with a sign
sign_large : (minus : Bool) (m : ℕ) → 10 ^ 12 < m → in_range (cond minus (neg_ℤ (pos m)) (pos m)) ≡ false
sign_large minus zero large = absurd (omega (arith, large))
sign_large true (suc m) large = ap not (lt-ltb (10 ^ 12) (suc m) large)
sign_large false (suc m) large = ap not (lt-ltb (10 ^ 12) (suc m) large)

-- a size above the limit is that of a number out of range
pub too_large : (minus : Bool) (size : ℕ) (n : Option ℕ) → Some size ≡ option_map capped n → 10 ^ 12 < size →
    (x : ℤ) × (option_sign minus n ≡ Some x) × (in_range x ≡ false)
too_large minus size None is large = absurd (cc)
too_large minus size (Some m) is large =
    let same : size ≡ capped m = ap (λ o. unwrap_or o 0) is in
    (cond minus (neg_ℤ (pos m)) (pos m), refl, sign_large minus m (omega (arith, same, large)))
