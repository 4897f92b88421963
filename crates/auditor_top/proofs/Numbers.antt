-- What `parse` reads of at most ten digits is the number that they write.
use Rattle.std.proofs.Common.{◌≡◌, ℕ, ◌<◌, ◌≤◌, ◌&&◌, true, List, [], ◌∷◌, length, Some, None, Result, Ok, Err, refl, sym, ap, ◌∙◌, arith}
use Rattle.std.specs.Result.{result_ok}
use Rattle.std.specs.List.{list_all}
use Rattle.std.specs.Char.{is_ascii_digit}
use Rattle.std.specs.Str.{all_ascii_digits}
use Rattle.std.specs.Str.Parse.{digits_value, ParsesUnsigned}
use Rattle.std.proofs.lemmas.Str.Parse.{numerals_by_value, tells_all_ascii_digits, parse_digits, digits_value_short}
use Rattle.std.proofs.lemmas.Bool.{cond-true, cond-false, and_from, and_left, le-leb, lt-leb}
use Rattle.auditor_top.specs.Words.{number_of}

-- two words for digits alone
all_digits : (word : List ℕ) → all_ascii_digits word ≡ list_all is_ascii_digit word
all_digits [] = refl
all_digits (c ∷ cs) = ap (λ rest. is_ascii_digit c && rest) (all_digits cs)

-- the test of a number of at most ten digits is whether there are any
some_digits : (word : List ℕ) → length word ≤ 10 → list_all is_ascii_digit word ≡ true → 0 < length word → number_of word ≡ Some (digits_value 10 word)
some_digits word few digits some = cond-true _ _ _ (and_from _ _ (and_from _ _ (le-leb 1 (length word) some) (le-leb (length word) 10 few)) digits)

no_digits : (word : List ℕ) → (0 < length word → ⊥) → number_of word ≡ None
no_digits word none = cond-false _ _ _ (and_left _ _ (and_left _ _ (lt-leb 1 (length word) (omega (arith, none)))))

pub read_number : {E : Type 0} (word : List ℕ) (r : Result ℕ E) → ParsesUnsigned 64 10 word r → length word ≤ 10 → list_all is_ascii_digit word ≡ true →
    result_ok r ≡ number_of word
read_number {E} word (Ok x) parsed few digits =
    let value = parse_digits (numerals_by_value _ tells_all_ascii_digits) {E = E} 64 word (Ok x) parsed (all_digits word ∙ digits) in
    ap Some value.1 ∙ sym (some_digits word few digits value.0.0)
read_number {E} word (Err e) parsed few digits =
    let own = numerals_by_value _ tells_all_ascii_digits in
    let none = parse_digits own {E = E} 64 word (Err e) parsed (all_digits word ∙ digits) in
    let small = digits_value_short own word 10 (all_digits word ∙ digits) few in
    sym (no_digits word (λ some. none (some, omega (arith, small))))
