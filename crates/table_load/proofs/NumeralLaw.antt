-- A field spells a number exactly if it is spaces, a sign or none, digits, spaces.
use Rattle.std.proofs.Common.{◌≡◌, ◌≢◌, ℕ, zero, suc, ◌+◌, ◌-◌, ◌*◌, Bool, true, false, cond, List, [], ◌∷◌, ◌++◌, length, replicate, Option, Some, None, refl, sym, ap, ◌∙◌}
use Rattle.std.specs.Prelude.{ℤ, pos, neg_ℤ, unwrap_or, ◌==◌}
use Rattle.std.specs.List.{list_all}
use Rattle.std.specs.Char.{is_ascii_digit}
use Rattle.std.proofs.lemmas.Bool.{false≢true, eqb-true, ne_eqb, and_parts, and_from}
use Rattle.schema_json.specs.Decimals.{decimal_after}
use Rattle.table_load.specs.Numerals.{is_space, after_spaces, tail_number, digits_number, option_sign, signed_number, number_in, Sign, none, plus, minus, sign_bytes, with_sign, IsNumeral}

-- spaces, and what stands after them
record Front (field : List ℕ) : Type 0 where
  spaces : ℕ
  field_is : field ≡ replicate spaces 32 ++ after_spaces field

-- one byte more in front
front_step : (b : ℕ) (bytes : List ℕ) (s : Bool) → is_space b ≡ s → Front bytes →
    (n : ℕ) × (b ∷ bytes ≡ replicate n 32 ++ cond s (after_spaces bytes) (b ∷ bytes))
front_step b bytes true is more = (suc more.spaces, ap (λ x. x ∷ bytes) (eqb-true b 32 is) ∙ ap (λ xs. 32 ∷ xs) more.field_is)
front_step b bytes false is more = (0, refl)

-- a field is the spaces at its front and what stands after them
front_of : (field : List ℕ) → Front field
front_of [] = record { spaces = 0; field_is = refl }
front_of (b ∷ bytes) = let more = front_step b bytes (is_space b) refl (front_of bytes) in record { spaces = more.0; field_is = more.1 }

-- spaces at the front are passed over
after_spaces-spaces : (n : ℕ) (rest : List ℕ) → after_spaces (replicate n 32 ++ rest) ≡ after_spaces rest
after_spaces-spaces zero rest = refl
after_spaces-spaces (suc n) rest = after_spaces-spaces n rest

-- spaces are spaces
all_spaces : (n : ℕ) → list_all is_space (replicate n 32) ≡ true
all_spaces zero = refl
all_spaces (suc n) = all_spaces n

-- bytes that are all spaces are so many spaces
spaces_only : (bytes : List ℕ) → list_all is_space bytes ≡ true → bytes ≡ replicate (length bytes) 32
spaces_only [] all = refl
spaces_only (b ∷ bytes) all =
    let parts = and_parts (is_space b) (list_all is_space bytes) all in
    ap (λ x. x ∷ bytes) (eqb-true b 32 parts.0) ∙ ap (λ xs. 32 ∷ xs) (spaces_only bytes parts.1)

-- digits after those that made n, and spaces after them, make m
record Tail (n : ℕ) (bytes : List ℕ) (m : ℕ) : Type 0 where
  digits : List ℕ
  after : ℕ
  are_digits : list_all is_ascii_digit digits ≡ true
  bytes_are : bytes ≡ digits ++ replicate after 32
  value_is : m ≡ decimal_after n digits

-- one byte before digits and spaces
tail_step : (n b : ℕ) (bytes : List ℕ) (m : ℕ) (d : Bool) → is_ascii_digit b ≡ d → (s : Bool) → list_all is_space (b ∷ bytes) ≡ s
    → (tail_number (10 * n + (b - 48)) bytes ≡ Some m → Tail (10 * n + (b - 48)) bytes m)
    → cond d (tail_number (10 * n + (b - 48)) bytes) (cond s (Some n) None) ≡ Some m → Tail n (b ∷ bytes) m
tail_step n b bytes m true digit s all later is =
    let more = later is in
    record {
      digits = b ∷ more.digits;
      after = more.after;
      are_digits = and_from (is_ascii_digit b) _ digit more.are_digits;
      bytes_are = ap (λ xs. b ∷ xs) more.bytes_are;
      value_is = more.value_is;
    }
tail_step n b bytes m false other true all later is =
    record { digits = []; after = length (b ∷ bytes); are_digits = refl; bytes_are = spaces_only (b ∷ bytes) all; value_is = sym (ap (λ o. unwrap_or o 0) is) }
tail_step n b bytes m false other false all later is = absurd (cc)

-- what makes a number is digits and then spaces
tail_of : (n : ℕ) (bytes : List ℕ) (m : ℕ) → tail_number n bytes ≡ Some m → Tail n bytes m
tail_of n [] m is = record { digits = []; after = 0; are_digits = refl; bytes_are = refl; value_is = sym (ap (λ o. unwrap_or o 0) is) }
tail_of n (b ∷ bytes) m is = tail_step n b bytes m (is_ascii_digit b) refl (list_all is_space (b ∷ bytes)) refl (tail_of (10 * n + (b - 48)) bytes m) is

-- spaces alone leave the number as it is
tail_number-spaces : (n k : ℕ) → tail_number n (replicate k 32) ≡ Some n
tail_number-spaces n zero = refl
tail_number-spaces n (suc k) = ap (λ b. cond b (Some n) None) (all_spaces k)

-- digits and then spaces make a number
tail_number-digits : (n : ℕ) (digits : List ℕ) (k : ℕ) → list_all is_ascii_digit digits ≡ true →
    tail_number n (digits ++ replicate k 32) ≡ Some (decimal_after n digits)
tail_number-digits n [] k are = tail_number-spaces n k
tail_number-digits n (b ∷ digits) k are =
    let parts = and_parts (is_ascii_digit b) (list_all is_ascii_digit digits) are in
    ap
    (λ d. cond d (tail_number (10 * n + (b - 48)) (digits ++ replicate k 32)) (cond (list_all is_space (b ∷ (digits ++ replicate k 32))) (Some n) None)) parts.0
    ∙ tail_number-digits (10 * n + (b - 48)) digits k parts.1

-- digits, at least one, and then spaces, of this number
record Digits (bytes : List ℕ) (m : ℕ) : Type 0 where
  digits : List ℕ
  after : ℕ
  some : digits ≢ []
  are_digits : list_all is_ascii_digit digits ≡ true
  bytes_are : bytes ≡ digits ++ replicate after 32
  value_is : m ≡ decimal_after 0 digits

-- a first byte before digits and spaces
digits_step : (b : ℕ) (bytes : List ℕ) (m : ℕ) (d : Bool) → is_ascii_digit b ≡ d → cond d (tail_number 0 (b ∷ bytes)) None ≡ Some m → Digits (b ∷ bytes) m
digits_step b bytes m true digit is =
    let opened = sym (ap (λ d. cond d (tail_number (10 * 0 + (b - 48)) bytes) (cond (list_all is_space (b ∷ bytes)) (Some 0) None)) digit) ∙ is in
    let more = tail_of (10 * 0 + (b - 48)) bytes m opened in
    record {
      digits = b ∷ more.digits;
      after = more.after;
      some = λ e. cc;
      are_digits = and_from (is_ascii_digit b) _ digit more.are_digits;
      bytes_are = ap (λ xs. b ∷ xs) more.bytes_are;
      value_is = more.value_is;
    }
digits_step b bytes m false other is = absurd (cc)

-- what is read as digits is some digits and then spaces
digits_of : (bytes : List ℕ) (m : ℕ) → digits_number bytes ≡ Some m → Digits bytes m
digits_of [] m is = absurd (cc)
digits_of (b ∷ bytes) m is = digits_step b bytes m (is_ascii_digit b) refl is

-- some digits and then spaces are read as their number
digits_number-digits : (b : ℕ) (digits : List ℕ) (k : ℕ) → list_all is_ascii_digit (b ∷ digits) ≡ true →
    digits_number (b ∷ (digits ++ replicate k 32)) ≡ Some (decimal_after 0 (b ∷ digits))
digits_number-digits b digits k are =
    let parts = and_parts (is_ascii_digit b) (list_all is_ascii_digit digits) are in
    ap (λ d. cond d (tail_number 0 (b ∷ (digits ++ replicate k 32))) None) parts.0 ∙ tail_number-digits 0 (b ∷ digits) k are

-- a sign or none, and a size after it
record Signed (bytes : List ℕ) (z : ℤ) : Type 0 where
  sign : Sign
  digits : List ℕ
  after : ℕ
  some : digits ≢ []
  are_digits : list_all is_ascii_digit digits ≡ true
  bytes_are : bytes ≡ sign_bytes sign ++ (digits ++ replicate after 32)
  value_is : z ≡ with_sign sign (decimal_after 0 digits)

-- a minus and a size
minus_step : (b : ℕ) (bytes : List ℕ) (z : ℤ) (o : Option ℕ) → digits_number bytes ≡ o → b ≡ 45 → option_sign true o ≡ Some z → Signed (b ∷ bytes) z
minus_step b bytes z None read is signed = absurd (cc)
minus_step b bytes z (Some m) read is signed =
    let size = digits_of bytes m read in
    record {
      sign = minus;
      digits = size.digits;
      after = size.after;
      some = size.some;
      are_digits = size.are_digits;
      bytes_are = ap (λ x. x ∷ bytes) is ∙ ap (λ xs. 45 ∷ xs) size.bytes_are;
      value_is = sym (ap (λ o. unwrap_or o z) signed) ∙ ap (λ n. neg_ℤ (pos n)) size.value_is;
    }

-- a plus and a size
plus_step : (b : ℕ) (bytes : List ℕ) (z : ℤ) (o : Option ℕ) → digits_number bytes ≡ o → b ≡ 43 → option_sign false o ≡ Some z → Signed (b ∷ bytes) z
plus_step b bytes z None read is signed = absurd (cc)
plus_step b bytes z (Some m) read is signed =
    let size = digits_of bytes m read in
    record {
      sign = plus;
      digits = size.digits;
      after = size.after;
      some = size.some;
      are_digits = size.are_digits;
      bytes_are = ap (λ x. x ∷ bytes) is ∙ ap (λ xs. 43 ∷ xs) size.bytes_are;
      value_is = sym (ap (λ o. unwrap_or o z) signed) ∙ ap pos size.value_is;
    }

-- a size with no sign
plain_step : (bytes : List ℕ) (z : ℤ) (o : Option ℕ) → digits_number bytes ≡ o → option_sign false o ≡ Some z → Signed bytes z
plain_step bytes z None read signed = absurd (cc)
plain_step bytes z (Some m) read signed =
    let size = digits_of bytes m read in
    record {
      sign = none;
      digits = size.digits;
      after = size.after;
      some = size.some;
      are_digits = size.are_digits;
      bytes_are = size.bytes_are;
      value_is = sym (ap (λ o. unwrap_or o z) signed) ∙ ap pos size.value_is;
    }

-- a first byte that is a sign or none
signed_step : (b : ℕ) (bytes : List ℕ) (z : ℤ) (is_minus is_plus : Bool) → (b == 45) ≡ is_minus → (b == 43) ≡ is_plus
    → cond is_minus (option_sign true (digits_number bytes))
    (cond is_plus (option_sign false (digits_number bytes)) (option_sign false (digits_number (b ∷ bytes)))) ≡ Some z → Signed (b ∷ bytes) z
signed_step b bytes z true is_plus m p is = minus_step b bytes z (digits_number bytes) refl (eqb-true b 45 m) is
signed_step b bytes z false true m p is = plus_step b bytes z (digits_number bytes) refl (eqb-true b 43 p) is
signed_step b bytes z false false m p is = plain_step (b ∷ bytes) z (digits_number (b ∷ bytes)) refl is

-- what is read as a number is a sign or none, digits and spaces
signed_of : (bytes : List ℕ) (z : ℤ) → signed_number bytes ≡ Some z → Signed bytes z
signed_of [] z is = absurd (cc)
signed_of (b ∷ bytes) z is = signed_step b bytes z (b == 45) (b == 43) refl refl is

-- a field that is read as a number is a numeral
pub numeral_from_number : (field : List ℕ) (z : ℤ) → number_in field ≡ Some z → IsNumeral field z
unfolding number_in
numeral_from_number field z is =
    let front = front_of field in
    let signed = signed_of (after_spaces field) z is in
    record {
      before = front.spaces;
      sign = signed.sign;
      digits = signed.digits;
      after = signed.after;
      some = signed.some;
      are_digits = signed.are_digits;
      field_is = front.field_is ∙ ap (λ xs. replicate front.spaces 32 ++ xs) signed.bytes_are;
      value_is = signed.value_is;
    }

-- a digit is no other byte
not_digit : (d b : ℕ) → is_ascii_digit d ≡ true → is_ascii_digit b ≡ false → (d == b) ≡ false
not_digit d b digit other = ne_eqb d b (λ e. false≢true (sym other ∙ sym (ap is_ascii_digit e) ∙ digit))

-- a sign or none, some digits and spaces are read as their number
signed_number-signed : (sign : Sign) (digits : List ℕ) (after : ℕ) → digits ≢ [] → list_all is_ascii_digit digits ≡ true
    → signed_number (after_spaces (sign_bytes sign ++ (digits ++ replicate after 32))) ≡ Some (with_sign sign (decimal_after 0 digits))
signed_number-signed sign [] after some are = absurd (some refl)
signed_number-signed minus (d ∷ digits) after some are = ap (option_sign true) (digits_number-digits d digits after are)
signed_number-signed plus (d ∷ digits) after some are = ap (option_sign false) (digits_number-digits d digits after are)
signed_number-signed none (d ∷ digits) after some are =
    let digit = (and_parts (is_ascii_digit d) (list_all is_ascii_digit digits) are).0 in
    let rest = digits ++ replicate after 32 in
    ap (λ s. signed_number (cond s (after_spaces rest) (d ∷ rest))) (not_digit d 32 digit refl)
    ∙ ap
    (λ m. cond m (option_sign true (digits_number rest)) (cond (d == 43) (option_sign false (digits_number rest))
    (option_sign false (digits_number (d ∷ rest)))))
    (not_digit d 45 digit refl)
    ∙ ap (λ p. cond p (option_sign false (digits_number rest)) (option_sign false (digits_number (d ∷ rest)))) (not_digit d 43 digit refl)
    ∙ ap (option_sign false) (digits_number-digits d digits after are)

-- a numeral is read as its number
pub number_from_numeral : (field : List ℕ) (z : ℤ) → IsNumeral field z → number_in field ≡ Some z
unfolding number_in
number_from_numeral field z n =
    ap (λ xs. signed_number (after_spaces xs)) n.field_is
    ∙ ap signed_number (after_spaces-spaces n.before (sign_bytes n.sign ++ (n.digits ++ replicate n.after 32)))
    ∙ signed_number-signed n.sign n.digits n.after n.some n.are_digits
    ∙ ap Some (sym n.value_is)
