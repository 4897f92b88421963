-- The comma of an average parts its numerator from its denominator.
use Rattle.std.proofs.Common.{◌≡◌, ◌≢◌, ◌+◌, ◌<◌, ◌^◌, ℕ, ℤ, suc, pos, negsuc, Bool, true, false, not, cond, nat_lt, ◌==◌, List, [], ◌∷◌, ◌++◌, length, take, drop, get_or, Some, None, codes, decimal, unsigned_abs, refl, sym, ap, ◌∙◌, arith, append_assoc, length-append}
use Rattle.std.specs.List.{AllByRecursion, position, position_or_len}
use Rattle.std.specs.Fmt.{signed_decimal}
use Rattle.std.specs.Str.Parse.{AllDigits, digits_value}
use Rattle.std.proofs.lemmas.Bool.{ne_eqb, lt-ltb}
use Rattle.std.proofs.lemmas.Fmt.{digits_decimal}
use Rattle.std.proofs.lemmas.Option.{same_Some}
use Rattle.std.proofs.lemmas.Str.Parse.{IsNumeralModel, numerals_by_value, tells_digits, not_in_digits}
use Rattle.std.proofs.Math.Seq.{take-append_seam, drop-append_seam}
use Rattle.std.proofs.lemmas.List.{append_cancel_right, append-nil}
use Rattle.line_wire.specs.Reply.{average}

abbrev is_comma : ℕ → Bool
is_comma b = b == 44

-- no comma stands in it
abbrev pub IsCommaless : List ℕ → Type 0
IsCommaless = AllByRecursion (λ b. is_comma b ≡ false)

by_place : (xs : List ℕ) → ((i : ℕ) → i < length xs → get_or xs i 0 ≢ 44) → IsCommaless xs
by_place [] none = tt
by_place (x ∷ xs) none = (ne_eqb x 44 (none 0 (omega arith)), by_place xs (λ i within. none (suc i) (omega arith)))

digits : IsNumeralModel (AllDigits 10) (digits_value 10)
digits = numerals_by_value (AllDigits 10) tells_digits

commaless-decimal : (n : ℕ) → n < 2 ^ 64 → IsCommaless (decimal n)
commaless-decimal n small = by_place (decimal n) (not_in_digits digits (decimal n) 44 (digits_decimal digits n small) (λ digit. omega (arith, digit)))

commaless-signed_decimal : (z : ℤ) → unsigned_abs z < 2 ^ 63 → IsCommaless (signed_decimal z)
commaless-signed_decimal (pos n) small = commaless-decimal n (omega arith)
commaless-signed_decimal (negsuc n) small = (refl, commaless-decimal (suc n) (omega arith))

front_len : (front rest : List ℕ) → IsCommaless front → position_or_len is_comma (front ++ 44 ∷ rest) ≡ length front
front_len [] rest none = refl
front_len (x ∷ front) rest none =
    ap (λ (b : Bool). cond (not b) (1 + position_or_len is_comma (front ++ 44 ∷ rest)) 0) none.0 ∙ ap (λ (n : ℕ). 1 + n) (front_len front rest none.1)
    ∙ omega arith

-- the first comma stands after a front that has none
position_behind : (front rest : List ℕ) → IsCommaless front → position (λ b. b == 44) (front ++ 44 ∷ rest) ≡ Some (length front)
position_behind front rest none =
    let inside : nat_lt (length front) (length (front ++ 44 ∷ rest)) ≡ true =
    lt-ltb (length front) (length (front ++ 44 ∷ rest)) (omega (arith, length-append front (44 ∷ rest))) in
    ap (λ (n : ℕ). cond (nat_lt n (length (front ++ 44 ∷ rest))) (Some n) None) (front_len front rest none)
    ∙ ap (λ (b : Bool). cond b (Some (length front)) None) inside

-- the numerator with what stands before it, and what stands after the comma
abbrev pub front_of : ℤ → List ℕ
front_of num = codes "{\"num\":" ++ signed_decimal num

abbrev pub rest_of : ℕ → List ℕ → List ℕ
rest_of den end = codes "\"den\":" ++ (decimal den ++ end)

-- an average by its parts
pub average_parts : (num : ℤ) (den : ℕ) → average num den ≡ front_of num ++ 44 ∷ rest_of den (codes "}\n")
average_parts num den = simp append_assoc

pub commaless-front_of : (num : ℤ) → unsigned_abs num < 2 ^ 63 → IsCommaless (front_of num)
commaless-front_of num small = (refl, (refl, (refl, (refl, (refl, (refl, (refl, commaless-signed_decimal num small)))))))

-- wholes that are equal have equal fronts before their first comma, and equal rests after it
pub same_parts : (a b r s : List ℕ) → IsCommaless a → IsCommaless b → a ++ 44 ∷ r ≡ b ++ 44 ∷ s → (a ≡ b) × (r ≡ s)
same_parts a b r s first second is =
    let place : length a ≡ length b = same_Some (length a) (length b)
    (sym (position_behind a r first) ∙ ap (position (λ b. b == 44)) is ∙ position_behind b s second) in (
      sym (take-append_seam a (44 ∷ r)) ∙ (λ i. take (place i) (is i)) ∙ take-append_seam b (44 ∷ s),
      ap (λ (l : List ℕ). drop 1 l) (sym (drop-append_seam a (44 ∷ r)) ∙ (λ i. drop (place i) (is i)) ∙ drop-append_seam b (44 ∷ s)),
    )

-- the line of an average by its parts
pub average_line : (line : List ℕ) (num : ℤ) (den : ℕ) → line ++ 10 ∷ [] ≡ average num den → line ≡ front_of num ++ 44 ∷ rest_of den (codes "}")
average_line line num den is =
    append_cancel_right line (front_of num ++ 44 ∷ rest_of den (codes "}")) (10 ∷ []) (is ∙ average_parts num den ∙ sym (simp append_assoc))

-- its first comma is there
pub average_comma : (line : List ℕ) (num : ℤ) (den : ℕ) → unsigned_abs num < 2 ^ 63 → line ++ 10 ∷ [] ≡ average num den →
    position (λ b. b == 44) line ≡ Some (length (front_of num))
average_comma line num den small is =
    ap (position (λ b. b == 44)) (average_line line num den is) ∙ position_behind (front_of num) (rest_of den (codes "}")) (commaless-front_of num small)

-- what stands before it
pub average_front : (line : List ℕ) (num : ℤ) (den comma : ℕ) → unsigned_abs num < 2 ^ 63 → line ++ 10 ∷ [] ≡ average num den →
    position (λ b. b == 44) line ≡ Some comma → take comma line ≡ codes "{\"num\":" ++ (signed_decimal num ++ [])
average_front line num den comma small is at =
    let place : comma ≡ length (front_of num) = same_Some comma (length (front_of num)) (sym at ∙ average_comma line num den small is) in
    (λ i. take (place i) (average_line line num den is i))
    ∙ take-append_seam (front_of num) (44 ∷ rest_of den (codes "}")) ∙ ap (λ (l : List ℕ). codes "{\"num\":" ++ l) (sym (append-nil (signed_decimal num)))

-- what stands from it on
pub average_rest : (line : List ℕ) (num : ℤ) (den comma : ℕ) → unsigned_abs num < 2 ^ 63 → line ++ 10 ∷ [] ≡ average num den →
    position (λ b. b == 44) line ≡ Some comma → drop comma line ≡ codes ",\"den\":" ++ (decimal den ++ codes "}")
average_rest line num den comma small is at =
    let place : comma ≡ length (front_of num) = same_Some comma (length (front_of num)) (sym at ∙ average_comma line num den small is) in
    (λ i. drop (place i) (average_line line num den is i)) ∙ drop-append_seam (front_of num) (44 ∷ rest_of den (codes "}"))
