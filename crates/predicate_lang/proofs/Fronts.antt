-- The bytes of a token at the front of a text.
use Rattle.std.proofs.Common.{◌≡◌, ℕ, suc, ◌+◌, ◌-◌, ◌<◌, ◌≤◌, Bool, true, false, cond, subst, List, [], ◌∷◌, length, take, drop, get_or, refl, sym, ap, ◌∙◌, arith, length-take, length-drop}
use Rattle.std.specs.List.{take_while, prefix_len}
use Rattle.std.specs.Str.{IsUtf8, IsAscii, IsCharBoundary}
use Rattle.std.specs.Char.{is_ascii_alphabetic}
use Rattle.std.proofs.lemmas.List.{drop_more, take_min}
use Rattle.std.proofs.lemmas.List.Sums.{take_while-cons}
use Rattle.std.proofs.lemmas.Bool.Decides.{nat_tests}
use Rattle.std.proofs.lemmas.Str.{IsUtf8-drop, IsUtf8-from_ascii, IsCharBoundary-before_ascii, IsCharBoundary-from_take, IsCharBoundary-from_rest}
use Rattle.std.proofs.lemmas.Str.Ascii.{IsAscii-nil, IsAscii-cons}
use Rattle.schema_json.specs.Columns.{is_name_byte}

-- as many bytes as pass a test are those that pass it
pub take_passing : (p : ℕ → Bool) (xs : List ℕ) → take (length (take_while p xs)) xs ≡ take_while p xs
take_passing p xs = ap (λ n. take n xs) (length-take (prefix_len p xs) xs) ∙ take_min (prefix_len p xs) xs

-- a byte and those after it that pass a test
pub take_front : (p : ℕ → Bool) (bytes : List ℕ) (at n : ℕ) → at < length bytes → n ≡ length (take_while p (drop (at + 1) bytes)) →
    take (at + 1 + n - at) (drop at bytes) ≡ get_or bytes at 0 ∷ take_while p (drop (at + 1) bytes)
take_front p bytes at n inside is =
    let many : at + 1 + n - at ≡ suc n = omega arith in
    ap (λ k. take k (drop at bytes)) many ∙ ap (take (suc n)) (drop_more bytes at 0 inside) ∙ ap (λ k. get_or bytes at 0 ∷ take k (drop (at + 1) bytes)) is
    ∙ ap (λ xs. get_or bytes at 0 ∷ xs) (take_passing p (drop (at + 1) bytes))

-- those after it alone
pub take_behind : (p : ℕ → Bool) (bytes : List ℕ) (at n : ℕ) → n ≡ length (take_while p (drop (at + 1) bytes)) →
    take (at + 1 + n - (at + 1)) (drop (at + 1) bytes) ≡ take_while p (drop (at + 1) bytes)
take_behind p bytes at n is =
    let many : at + 1 + n - (at + 1) ≡ n = omega arith in
    ap (λ k. take k (drop (at + 1) bytes)) (many ∙ is) ∙ take_passing p (drop (at + 1) bytes)

pub letter_ascii : (b : ℕ) → is_ascii_alphabetic b ≡ true → b < 128
letter_ascii b h = grind (arith, nat_tests)

pub name_byte_ascii : (b : ℕ) → is_name_byte b ≡ true → b < 128
name_byte_ascii b h = grind (arith, nat_tests)

-- the bytes of a name are ASCII
name_ascii : (xs : List ℕ) → IsAscii (take_while is_name_byte xs)
name_ascii [] = IsAscii-nil
name_ascii (x ∷ xs) = go (is_name_byte x) refl (name_ascii xs)
  where
    go : (t : Bool) → is_name_byte x ≡ t → IsAscii (take_while is_name_byte xs) → IsAscii (take_while is_name_byte (x ∷ xs))
    go true e rest =
        subst IsAscii (sym (take_while-cons is_name_byte x xs ∙ ap (λ t. cond t (x ∷ take_while is_name_byte xs) []) e))
        (IsAscii-cons x (take_while is_name_byte xs) (name_byte_ascii x e) rest)
    go false e rest = subst IsAscii (sym (take_while-cons is_name_byte x xs ∙ ap (λ t. cond t (x ∷ take_while is_name_byte xs) []) e)) IsAscii-nil

-- a text may be cut after a name
pub name_boundary : (text : List ℕ) (at n : ℕ) → IsUtf8 text → at < length text → is_ascii_alphabetic (get_or text at 0) ≡ true →
    n ≡ length (take_while is_name_byte (drop (at + 1) text)) → n ≤ length (drop (at + 1) text) → IsCharBoundary text (at + 1 + n)
name_boundary text at n utf8 inside letter is within =
    let from_there : IsUtf8 (drop at text) = IsUtf8-drop text at utf8 (IsCharBoundary-before_ascii text at inside (letter_ascii (get_or text at 0) letter)) in
    let word : take (at + 1 + n - at) (drop at text) ≡ get_or text at 0 ∷ take_while is_name_byte (drop (at + 1) text) =
    take_front is_name_byte text at n inside is in
    let ascii : IsAscii (take (at + 1 + n - at) (drop at text)) =
    subst IsAscii (sym word) (IsAscii-cons (get_or text at 0) (take_while is_name_byte (drop (at + 1) text)) (letter_ascii (get_or text at 0) letter)
    (name_ascii (drop (at + 1) text))) in
    let fits : at + 1 + n - at ≤ length (drop at text) = omega (arith, length-drop at text, length-drop (at + 1) text) in
    let here : IsCharBoundary (drop at text) (at + 1 + n - at) =
    IsCharBoundary-from_take (drop at text) (at + 1 + n - at) from_there fits (IsUtf8-from_ascii (take (at + 1 + n - at) (drop at text)) ascii) in
    let sum : at + (at + 1 + n - at) ≡ at + 1 + n = omega arith in
    subst (IsCharBoundary text) sum (IsCharBoundary-from_rest text at (at + 1 + n - at) (omega arith) here)
