-- The tokens of a text can be printed, each in no more bytes than it was written with.
use Rattle.std.proofs.Common.{◌≡◌, ℕ, zero, suc, ◌+◌, ◌<◌, ◌≤◌, Bool, true, false, ◌||◌, ◌&&◌, cond, nat_le, List, [], ◌∷◌, length, drop, Option, Some, None, refl, sym, ap, ◌∙◌, subst, arith, rules, length-append, length-drop, ◌⊎◌, inl, inr}
use Rattle.std.specs.Prelude.{ℤ, pos, negsuc, ◌==◌, not, codes, option_map}
use Rattle.std.specs.List.{list_all, take_while}
use Rattle.std.specs.Str.{bytes_eq}
use Rattle.std.specs.Char.{is_ascii_alphabetic, is_ascii_digit}
use Rattle.std.specs.Fmt.{decimal, signed_decimal}
use Rattle.std.proofs.lemmas.Fmt.{length-decimal-le}
use Rattle.std.proofs.lemmas.Str.Parse.{IsNumeralModel, numerals_by_fold, digits_value_short}
use Rattle.std.proofs.lemmas.Bool.{leb-true, le-leb}
use Rattle.std.proofs.lemmas.List.Sums.{take_while-cons}
use Rattle.std.proofs.lemmas.Slice.Eq.{bytes_eq-Decides}
use Rattle.schema_json.specs.Columns.{is_name_byte, is_keyword}
use Rattle.audit_types.specs.Limits.{most_number}
use Rattle.schema_json.specs.Decimals.{decimal_after, signed}
use Rattle.predicate_lang.specs.Tokens.{Token, and_word, or_word, not_word, all_word, in_word, name, value, operator, open_bracket, close_bracket, comma, Front, front_token, word_token, number_of, number_at, within_most, lex_from, lex_front, is_blank, is_equals_next}
use Rattle.predicate_lang.specs.Printing.{doubled, token_text}
use Rattle.predicate_lang.specs.Places.{tokens_of}
use Rattle.predicate_lang.specs.declared.trees.Literal.{Literal}
use Rattle.predicate_lang.specs.declared.trees.Literal.TheVariants as literal
use Rattle.predicate_lang.proofs.QuotedTexts.{quoted_is}
use Rattle.predicate_lang.proofs.TokenFronts.{is_mark, Kind, a_word, a_number, a_text, a_mark, front_kind}
use Rattle.predicate_lang.proofs.LeastTokens.{total}

-- ---- which tokens are read again as they are printed

-- a letter, then letters, digits and underscores, and no keyword
abbrev pub is_name : List ℕ → Bool
is_name [] = false
is_name (b ∷ bytes) = is_ascii_alphabetic b && (list_all is_name_byte bytes && not (is_keyword (b ∷ bytes)))

-- how great a number is without its sign
abbrev pub size : ℤ → ℕ
size (pos n) = n
size (negsuc n) = suc n

-- a text, or a number that is not too great
abbrev pub is_printable_literal : Literal → Bool
is_printable_literal (literal.Number z) = nat_le (size z) most_number
is_printable_literal (literal.Text t) = true

-- a token that is read again as it is printed
abbrev pub is_printable : Token → Bool
is_printable (name n) = is_name n
is_printable (value l) = is_printable_literal l
is_printable and_word = true
is_printable or_word = true
is_printable not_word = true
is_printable all_word = true
is_printable in_word = true
is_printable (operator o) = true
is_printable open_bracket = true
is_printable close_bracket = true
is_printable comma = true

-- ---- the weights

-- how many bytes a token is printed with
abbrev pub printed_length : Token → ℕ
printed_length t = length (token_text t)

-- 1 for a token that would not be read again
abbrev pub unprintable : Token → ℕ
unprintable t = cond (is_printable t) 0 1

-- a token at the front can be printed, in no more bytes than it takes
record FitsFront (bytes : List ℕ) (f : Front) : Type 0 where
  printable : is_printable f.token ≡ true
  short : length (token_text f.token) ≤ 1 + f.more
  inside : f.more ≤ length bytes

-- ---- words

-- all pass that were taken because they pass
list_all-take_while : (p : ℕ → Bool) (xs : List ℕ) → list_all p (take_while p xs) ≡ true
list_all-take_while p [] = refl
list_all-take_while p (x ∷ xs) = go (p x) refl (list_all-take_while p xs)
  where
    go : (t : Bool) → p x ≡ t → list_all p (take_while p xs) ≡ true → list_all p (take_while p (x ∷ xs)) ≡ true
    go true e rest =
        ap (list_all p) (take_while-cons p x xs ∙ ap (λ t. cond t (x ∷ take_while p xs) []) e) ∙ ap (λ t. t && list_all p (take_while p xs)) e ∙ rest
    go false e rest = ap (list_all p) (take_while-cons p x xs ∙ ap (λ t. cond t (x ∷ take_while p xs) []) e)

-- no more are taken than there are
length-take_while : (p : ℕ → Bool) (xs : List ℕ) → length (take_while p xs) ≤ length xs
length-take_while p [] = omega arith
length-take_while p (x ∷ xs) = go (p x) refl (length-take_while p xs)
  where
    go : (t : Bool) → p x ≡ t → length (take_while p xs) ≤ length xs → length (take_while p (x ∷ xs)) ≤ length (x ∷ xs)
    go true e rest = omega (arith, rest, ap (length {A = ℕ}) (take_while-cons p x xs ∙ ap (λ t. cond t (x ∷ take_while p xs) []) e))
    go false e rest = omega (arith, ap (length {A = ℕ}) (take_while-cons p x xs ∙ ap (λ t. cond t (x ∷ take_while p xs) []) e))

-- a word is printed as it stands, and is a name if it isn't a keyword
word_facts : (b : ℕ) (bytes : List ℕ) → is_ascii_alphabetic b ≡ true → list_all is_name_byte bytes ≡ true →
    (is_printable (word_token (b ∷ bytes)) ≡ true) × (token_text (word_token (b ∷ bytes)) ≡ b ∷ bytes)
word_facts b bytes letter rest =
    go (bytes_eq (b ∷ bytes) (codes "and")) (bytes_eq (b ∷ bytes) (codes "or")) (bytes_eq (b ∷ bytes) (codes "not")) (bytes_eq (b ∷ bytes) (codes "all"))
    (bytes_eq (b ∷ bytes) (codes "in")) refl
    (bytes_eq-Decides (b ∷ bytes) (codes "and")).0 (bytes_eq-Decides (b ∷ bytes) (codes "or")).0 (bytes_eq-Decides (b ∷ bytes) (codes "not")).0
    (bytes_eq-Decides (b ∷ bytes) (codes "all")).0 (bytes_eq-Decides (b ∷ bytes) (codes "in")).0
  where
    go : (p q r s t : Bool) → is_keyword (b ∷ bytes) ≡ (p || q || r || s || t) → (p ≡ true → (b ∷ bytes) ≡ codes "and") → (q ≡ true → (b ∷ bytes) ≡ codes "or")
        → (r ≡ true → (b ∷ bytes) ≡ codes "not") → (s ≡ true → (b ∷ bytes) ≡ codes "all") → (t ≡ true → (b ∷ bytes) ≡ codes "in")
        → (is_printable (cond p and_word (cond q or_word (cond r not_word (cond s all_word (cond t in_word (name (b ∷ bytes))))))) ≡ true)
        × (token_text (cond p and_word (cond q or_word (cond r not_word (cond s all_word (cond t in_word (name (b ∷ bytes))))))) ≡ b ∷ bytes)
    go true q r s t k f g h i j = (refl, sym (f refl))
    go false true r s t k f g h i j = (refl, sym (g refl))
    go false false true s t k f g h i j = (refl, sym (h refl))
    go false false false true t k f g h i j = (refl, sym (i refl))
    go false false false false true k f g h i j = (refl, sym (j refl))
    go false false false false false k f g h i j = (
      ap (λ x. x && (list_all is_name_byte bytes && not (is_keyword (b ∷ bytes)))) letter ∙ ap (λ x. x && not (is_keyword (b ∷ bytes))) rest
          ∙ ap not k,
      refl,
    )

-- ---- numbers

-- `decimal_after` reads decimal digits
pub decimals : IsNumeralModel (λ ds. list_all is_ascii_digit ds ≡ true) (decimal_after 0)
decimals = numerals_by_fold _ (search rules) decimal_after (search rules)

-- no digits write a number shorter
shortest : (ds : List ℕ) → list_all is_ascii_digit ds ≡ true → 0 < length ds → decimal_after 0 ds ≤ most_number →
    length (decimal (decimal_after 0 ds)) ≤ length ds
shortest ds digits some small =
    length-decimal-le (length ds) (decimal_after 0 ds) some (digits_value_short decimals ds (length ds) digits (omega arith)) (omega arith)

-- a number that is not too great
within_is : (n v : ℕ) → within_most n ≡ Some v → (v ≡ n) × (n ≤ most_number)
within_is n v h = go (nat_le n most_number) refl h
  where
    go : (t : Bool) → nat_le n most_number ≡ t → cond t (Some n) None ≡ Some v → (v ≡ n) × (n ≤ most_number)
    go true e i = (cc, leb-true n most_number e)
    go false e i = absurd cc

record IsNumber (minus : Bool) (ds : List ℕ) (z : ℤ) : Type 0 where
  is : z ≡ signed minus (decimal_after 0 ds)
  small : decimal_after 0 ds ≤ most_number
  some : 0 < length ds

-- a number that was read
number_is : (minus : Bool) (ds : List ℕ) (z : ℤ) → number_of minus ds ≡ Some z → IsNumber minus ds z
number_is minus [] z h = absurd cc
number_is minus (d ∷ ds) z h = go (within_most (decimal_after 0 (d ∷ ds))) refl h
  where
    go : (o : Option ℕ) → within_most (decimal_after 0 (d ∷ ds)) ≡ o → option_map (signed minus) o ≡ Some z → IsNumber minus (d ∷ ds) z
    go None e i = absurd cc
    go (Some v) e i =
        let found = within_is (decimal_after 0 (d ∷ ds)) v e in
        let same : signed minus v ≡ z = cc in
        record { is = sym same ∙ ap (signed minus) found.0; small = found.1; some = omega arith }

-- with a minus sign or none
signed_facts : (minus : Bool) (v k : ℕ) → v ≤ most_number → length (decimal v) ≤ k →
    (nat_le (size (signed minus v)) most_number ≡ true) × (length (signed_decimal (signed minus v)) ≤ cond minus (suc k) k)
signed_facts false v k small short = (le-leb v most_number small, short)
signed_facts true zero k small short = (le-leb 0 most_number small, omega arith)
signed_facts true (suc v) k small short = (le-leb (suc v) most_number small, omega arith)

-- a number that was read can be printed, and no shorter
number_facts : (minus : Bool) (ds : List ℕ) (z : ℤ) → list_all is_ascii_digit ds ≡ true → IsNumber minus ds z →
    (nat_le (size z) most_number ≡ true) × (length (signed_decimal z) ≤ cond minus (suc (length ds)) (length ds))
number_facts minus ds z digits is =
    subst (λ (y : ℤ). (nat_le (size y) most_number ≡ true) × (length (signed_decimal y) ≤ cond minus (suc (length ds)) (length ds))) (sym is.is)
    (signed_facts minus (decimal_after 0 ds) (length ds) is.small (shortest ds digits is.some is.small))

-- so can one at the front
number_front_facts : (b : ℕ) (bytes : List ℕ) (z : ℤ) → (is_ascii_digit b || (b == 45)) ≡ true → number_at b bytes ≡ Some z →
    (nat_le (size z) most_number ≡ true) × (length (signed_decimal z) ≤ 1 + length (take_while is_ascii_digit bytes))
number_front_facts b bytes z begins h = go (b == 45) (is_ascii_digit b) refl refl begins h
  where
    digits : list_all is_ascii_digit (take_while is_ascii_digit bytes) ≡ true
    digits = list_all-take_while is_ascii_digit bytes

    go : (s t : Bool) → (b == 45) ≡ s → is_ascii_digit b ≡ t → (t || s) ≡ true
        → cond s (number_of true (take_while is_ascii_digit bytes)) (number_of false (b ∷ take_while is_ascii_digit bytes)) ≡ Some z
        → (nat_le (size z) most_number ≡ true) × (length (signed_decimal z) ≤ 1 + length (take_while is_ascii_digit bytes))
    go true t e f i j =
        let facts = number_facts true (take_while is_ascii_digit bytes) z digits (number_is true (take_while is_ascii_digit bytes) z j) in
        (facts.0, omega (arith, facts.1))
    go false true e f i j =
        let facts = number_facts false (b ∷ take_while is_ascii_digit bytes) z
        (ap (λ t. t && list_all is_ascii_digit (take_while is_ascii_digit bytes)) f ∙ digits) (number_is false (b ∷ take_while is_ascii_digit bytes) z j) in
        (facts.0, omega (arith, facts.1))
    go false false e f i j = absurd cc

-- ---- all kinds

mark_printable : (t : Token) → is_mark t ≡ true → is_printable t ≡ true
mark_printable (operator o) h = refl
mark_printable open_bracket h = refl
mark_printable close_bracket h = refl
mark_printable comma h = refl
mark_printable and_word h = refl
mark_printable or_word h = refl
mark_printable not_word h = refl
mark_printable all_word h = refl
mark_printable in_word h = refl
mark_printable (name n) h = absurd cc
mark_printable (value l) h = absurd cc

equals_inside : (bytes : List ℕ) → is_equals_next bytes ≡ true → 1 ≤ length bytes
equals_inside [] h = absurd cc
equals_inside (b ∷ bytes) h = omega arith

-- each token at the front can be printed, in no more bytes
front_fits : (b : ℕ) (bytes : List ℕ) (f : Front) → Kind b bytes f → FitsFront bytes f
front_fits b bytes f (a_word letter is) =
    let facts = word_facts b (take_while is_name_byte bytes) letter (list_all-take_while is_name_byte bytes) in
    subst (FitsFront bytes) (sym is) (record {
      printable = facts.0;
      short = omega (arith, ap (length {A = ℕ}) facts.1);
      inside = length-take_while is_name_byte bytes;
    })
front_fits b bytes f (a_number begins z number is) =
    let facts = number_front_facts b bytes z begins number in
    subst (FitsFront bytes) (sym is) (record { printable = facts.0; short = facts.1; inside = length-take_while is_ascii_digit bytes })
front_fits b bytes f (a_text quote q text is) =
    let whole = quoted_is bytes q text in
    subst (FitsFront bytes) (sym is) (record {
      printable = refl;
      short = omega (arith, whole.many, length-append (doubled q.text) (39 ∷ []));
      inside = omega (arith, whole.many, ap (length {A = ℕ}) whole.whole, length-append (doubled q.text) (39 ∷ drop q.bytes bytes));
    })
front_fits b bytes f (a_mark mark) = record { printable = mark_printable f.token mark.marks; short = mark.short; inside = go mark.behind }
  where
    go : (f.more ≡ 0) ⊎ ((f.more ≡ 1) × (is_equals_next bytes ≡ true)) → f.more ≤ length bytes
    go (inl none) = omega arith
    go (inr one) = omega (arith, one.0, equals_inside bytes one.1)

-- ---- all tokens

-- the tokens can be printed, in so many bytes with none between them
pub record ArePrintable (tokens : List Token) (bytes : ℕ) : Type 0 where
  pub short : total printed_length tokens ≤ bytes
  pub printable : total unprintable tokens ≡ 0

lexed_printable : (turns at : ℕ) (bytes : List ℕ) → ArePrintable (tokens_of (lex_from turns at bytes).tokens) (length bytes)
unfolding lex_from
lexed_printable zero at bytes = record { short = omega arith; printable = refl }
lexed_printable (suc turns) at [] = record { short = omega arith; printable = refl }
lexed_printable (suc turns) at (b ∷ bytes) = go (is_blank b) (lexed_printable turns (at + 1) bytes) (λ n. lexed_printable turns (at + 1 + n) (drop n bytes))
  where
    token : (o : Option Front) → front_token b bytes ≡ o
        → ((n : ℕ) → ArePrintable (tokens_of (lex_from turns (at + 1 + n) (drop n bytes)).tokens) (length (drop n bytes)))
        → ArePrintable (tokens_of (lex_front at o (λ n. lex_from turns (at + 1 + n) (drop n bytes))).tokens) (suc (length bytes))
    token None e rest = record { short = omega arith; printable = refl }
    token (Some f) e rest =
        let fits : FitsFront bytes f = front_fits b bytes f (front_kind b bytes f e) in
        let more : ArePrintable (tokens_of (lex_from turns (at + 1 + f.more) (drop f.more bytes)).tokens) (length (drop f.more bytes)) = rest f.more in
        let none : unprintable f.token ≡ 0 = ap (λ t. cond t 0 1) fits.printable in
        record {
          short = omega (arith, fits.short, fits.inside, more.short, length-drop f.more bytes);
          printable = omega (arith, more.printable, none);
        }

    go : (t : Bool) → ArePrintable (tokens_of (lex_from turns (at + 1) bytes).tokens) (length bytes)
        → ((n : ℕ) → ArePrintable (tokens_of (lex_from turns (at + 1 + n) (drop n bytes)).tokens) (length (drop n bytes)))
        → ArePrintable
        (tokens_of (cond t (lex_from turns (at + 1) bytes) (lex_front at (front_token b bytes) (λ n. lex_from turns (at + 1 + n) (drop n bytes)))).tokens)
        (suc (length bytes))
    go true blank rest = record { short = omega (arith, blank.short); printable = blank.printable }
    go false blank rest = token (front_token b bytes) refl rest

-- the tokens of a text can be printed, in no more bytes than it has
pub tokens_printable : (text : List ℕ) → ArePrintable (tokens_of (lex_from (length text + 1) 0 text).tokens) (length text)
tokens_printable text = lexed_printable (length text + 1) 0 text
