-- What is printed has the tokens that it was printed from.
use Rattle.std.proofs.Common.{◌≡◌, ℕ, zero, suc, ◌+◌, ◌<◌, ◌≤◌, Bool, true, false, ◌||◌, ◌&&◌, cond, List, [], ◌∷◌, ◌++◌, length, drop, Some, None, refl, sym, ap, ◌∙◌, subst, arith, append_assoc, length-append}
use Rattle.std.specs.Prelude.{ℤ, pos, negsuc, ◌==◌, not, codes, option_map}
use Rattle.std.specs.List.{list_all, take_while}
use Rattle.std.specs.Str.{bytes_eq}
use Rattle.std.specs.Char.{is_ascii_alphabetic, is_ascii_digit}
use Rattle.std.specs.Fmt.{decimal}
use Rattle.std.proofs.lemmas.Fmt.{digits_decimal, digits_value-decimal, decimal_nonempty}
use Rattle.std.proofs.lemmas.Bool.{eqb-true, leb-true, le-leb, or_right}
use Rattle.std.proofs.lemmas.Bool.Decides.{nat_tests}
use Rattle.std.proofs.lemmas.List.{append-nil, drop_at}
use Rattle.std.proofs.lemmas.List.Sums.{take_while-cons}
use Rattle.schema_json.specs.Columns.{is_name_byte, is_keyword}
use Rattle.audit_types.specs.Limits.{most_number}
use Rattle.schema_json.specs.Decimals.{decimal_after, signed}
use Rattle.predicate_lang.specs.Tokens.{Token, and_word, or_word, not_word, all_word, in_word, name, value, operator, open_bracket, close_bracket, comma, Lexed, front_token, word_token, number_token, number_of, within_most, quoted, with_front, text_front, taking, lex_from, lex_front, lexed, with_token, is_blank, is_equals_next}
use Rattle.predicate_lang.specs.Printing.{doubled, token_text, opens, closes, spaced_after, spaced}
use Rattle.predicate_lang.specs.Places.{tokens_of}
use Rattle.predicate_lang.specs.declared.trees.Op.{Op}
use Rattle.predicate_lang.specs.declared.trees.Op.TheVariants as op
use Rattle.predicate_lang.specs.declared.trees.Literal.TheVariants as literal
use Rattle.predicate_lang.proofs.NextToken.{front_of_letter, front_of_number, front_of_quote, front_of_mark}
use Rattle.predicate_lang.proofs.LeastTokens.{total}
use Rattle.predicate_lang.proofs.PrintableTokens.{is_name, size, is_printable, unprintable, decimals}

-- ---- where a token ends

-- the end, a space, a closing bracket or a comma
abbrev is_stop : List ℕ → Bool
is_stop [] = true
is_stop (b ∷ bytes) = (b == 32) || ((b == 41) || (b == 44))

-- what holds before each of these holds before all
stop_cases : (P : List ℕ → Type 0) → P [] → ((r : List ℕ) → P (32 ∷ r)) → ((r : List ℕ) → P (41 ∷ r)) → ((r : List ℕ) → P (44 ∷ r)) → (rest : List ℕ) →
    is_stop rest ≡ true → P rest
stop_cases P end space bracket mark [] h = end
stop_cases P end space bracket mark (b ∷ r) h = go (b == 32) (b == 41) (b == 44) refl refl refl h
  where
    go : (x y z : Bool) → (b == 32) ≡ x → (b == 41) ≡ y → (b == 44) ≡ z → (x || (y || z)) ≡ true → P (b ∷ r)
    go true y z e f g i = subst (λ c. P (c ∷ r)) (sym (eqb-true b 32 e)) (space r)
    go false true z e f g i = subst (λ c. P (c ∷ r)) (sym (eqb-true b 41 f)) (bracket r)
    go false false true e f g i = subst (λ c. P (c ∷ r)) (sym (eqb-true b 44 g)) (mark r)
    go false false false e f g i = absurd cc

-- a name ends there
name_stops : (rest : List ℕ) → is_stop rest ≡ true → take_while is_name_byte rest ≡ []
name_stops = stop_cases (λ rest. take_while is_name_byte rest ≡ []) refl (λ r. refl) (λ r. refl) (λ r. refl)

-- a number ends there
digits_stop : (rest : List ℕ) → is_stop rest ≡ true → take_while is_ascii_digit rest ≡ []
digits_stop = stop_cases (λ rest. take_while is_ascii_digit rest ≡ []) refl (λ r. refl) (λ r. refl) (λ r. refl)

-- all bytes that pass, and no more
take_while-append : (p : ℕ → Bool) (bytes rest : List ℕ) → list_all p bytes ≡ true → take_while p rest ≡ [] → take_while p (bytes ++ rest) ≡ bytes
take_while-append p [] rest all stop = stop
take_while-append p (b ∷ bytes) rest all stop = go (p b) refl all (λ more. take_while-append p bytes rest more stop)
  where
    go : (t : Bool) → p b ≡ t → (t && list_all p bytes) ≡ true → (list_all p bytes ≡ true → take_while p (bytes ++ rest) ≡ bytes) →
        take_while p (b ∷ (bytes ++ rest)) ≡ b ∷ bytes
    go true e i more = take_while-cons p b (bytes ++ rest) ∙ ap (λ t. cond t (b ∷ take_while p (bytes ++ rest)) []) e ∙ ap (λ xs. b ∷ xs) (more i)
    go false e i more = absurd cc

-- ---- the token at the front

-- a token is read if its text stands before these bytes
record IsReadBefore (t : Token) (rest : List ℕ) : Type 0 where
  first : ℕ
  more : List ℕ
  is : token_text t ≡ first ∷ more
  solid : is_blank first ≡ false
  front : front_token first (more ++ rest) ≡ Some (record { token = t; more = length more })

-- a word
word_read : (b : ℕ) (bytes rest : List ℕ) → is_ascii_alphabetic b ≡ true → list_all is_name_byte bytes ≡ true → is_stop rest ≡ true →
    front_token b (bytes ++ rest) ≡ Some (record { token = word_token (b ∷ bytes); more = length bytes })
word_read b bytes rest letter all stop =
    front_of_letter b (bytes ++ rest) letter
    ∙ ap (λ xs. taking (length xs) (Some (word_token (b ∷ xs)))) (take_while-append is_name_byte bytes rest all (name_stops rest stop))

letter_solid : (b : ℕ) → is_ascii_alphabetic b ≡ true → is_blank b ≡ false
letter_solid b h = grind (arith, nat_tests)

digit_solid : (b : ℕ) → is_ascii_digit b ≡ true → is_blank b ≡ false
digit_solid b h = grind (arith, nat_tests)

digit_no_letter : (b : ℕ) → is_ascii_digit b ≡ true → is_ascii_alphabetic b ≡ false
digit_no_letter b h = grind (arith, nat_tests)

digit_no_minus : (b : ℕ) → is_ascii_digit b ≡ true → (b == 45) ≡ false
digit_no_minus b h = grind (arith, nat_tests)

-- a name isn't a keyword
name_token : (w : List ℕ) → is_keyword w ≡ false → word_token w ≡ name w
name_token w h = go (bytes_eq w (codes "and")) (bytes_eq w (codes "or")) (bytes_eq w (codes "not")) (bytes_eq w (codes "all")) (bytes_eq w (codes "in")) h
  where
    go : (p q r s t : Bool) → (p || q || r || s || t) ≡ false →
        cond p and_word (cond q or_word (cond r not_word (cond s all_word (cond t in_word (name w))))) ≡ name w
    go true q r s t e = absurd cc
    go false true r s t e = absurd cc
    go false false true s t e = absurd cc
    go false false false true t e = absurd cc
    go false false false false true e = absurd cc
    go false false false false false e = refl

-- the parts of a test
test_parts : (x y z : Bool) → (x && (y && not z)) ≡ true → (x ≡ true) × (y ≡ true) × (z ≡ false)
test_parts true true false h = (refl, refl, refl)
test_parts true true true h = absurd cc
test_parts true false z h = absurd cc
test_parts false y z h = absurd cc

-- a name
name_read : (n rest : List ℕ) → is_name n ≡ true → is_stop rest ≡ true → IsReadBefore (name n) rest
name_read [] rest h stop = absurd cc
name_read (b ∷ bytes) rest h stop =
    let parts = test_parts (is_ascii_alphabetic b) (list_all is_name_byte bytes) (is_keyword (b ∷ bytes)) h in
    record {
      first = b;
      more = bytes;
      is = refl;
      solid = letter_solid b parts.0;
      front = word_read b bytes rest parts.0 parts.1 stop ∙ ap (λ t. Some (record { token = t; more = length bytes })) (name_token (b ∷ bytes) parts.2);
    }

-- ---- numbers

number_of_digits : (minus : Bool) (ds : List ℕ) (n : ℕ) → 0 < length ds → decimal_after 0 ds ≡ n → n ≤ most_number → number_of minus ds ≡ Some (signed minus n)
number_of_digits minus [] n some is small = absurd (omega arith)
number_of_digits minus (d ∷ ds) n some is small =
    ap (λ v. option_map (signed minus) (within_most v)) is ∙ ap (λ t. option_map (signed minus) (cond t (Some n) None)) (le-leb n most_number small)

-- a number that is not below zero
plain_number_read : (n : ℕ) (ds rest : List ℕ) → decimal n ≡ ds → n ≤ most_number → is_stop rest ≡ true → IsReadBefore (value (literal.Number (pos n))) rest
plain_number_read n [] rest is small stop = absurd (omega (arith, decimal_nonempty n (omega arith), ap (length {A = ℕ}) is))
plain_number_read n (d ∷ ds) rest is small stop =
    go (is_ascii_digit d) (list_all is_ascii_digit ds) refl refl (ap (list_all is_ascii_digit) (sym is) ∙ digits_decimal decimals n (omega arith))
  where
    means : decimal_after 0 (d ∷ ds) ≡ n
    means = ap (decimal_after 0) (sym is) ∙ digits_value-decimal decimals n (omega arith)

    go : (x y : Bool) → is_ascii_digit d ≡ x → list_all is_ascii_digit ds ≡ y → (x && y) ≡ true → IsReadBefore (value (literal.Number (pos n))) rest
    go true true e f i = record {
      first = d;
      more = ds;
      is = is;
      solid = digit_solid d e;
      front = front_of_number d (ds ++ rest) (digit_no_letter d e) (ap (λ t. t || (d == 45)) e)
          ∙ ap (λ xs. taking (length xs) (number_token (cond (d == 45) (number_of true xs) (number_of false (d ∷ xs)))))
          (take_while-append is_ascii_digit ds rest f (digits_stop rest stop))
          ∙ ap (λ t. taking (length ds) (number_token (cond t (number_of true ds) (number_of false (d ∷ ds))))) (digit_no_minus d e)
          ∙ ap (λ o. taking (length ds) (number_token o)) (number_of_digits false (d ∷ ds) n (omega arith) means small);
    }
    go true false e f i = absurd cc
    go false y e f i = absurd cc

-- a number below zero
minus_number_read : (n : ℕ) (rest : List ℕ) → suc n ≤ most_number → is_stop rest ≡ true → IsReadBefore (value (literal.Number (negsuc n))) rest
minus_number_read n rest small stop = record {
  first = 45;
  more = decimal (suc n);
  is = refl;
  solid = refl;
  front = front_of_number 45 (decimal (suc n) ++ rest) refl refl
      ∙ ap (λ xs. taking (length xs) (number_token (number_of true xs)))
      (take_while-append is_ascii_digit (decimal (suc n)) rest (digits_decimal decimals (suc n) (omega arith)) (digits_stop rest stop))
      ∙ ap (λ o. taking (length (decimal (suc n))) (number_token o))
      (number_of_digits true (decimal (suc n)) (suc n) (decimal_nonempty (suc n) (omega arith)) (digits_value-decimal decimals (suc n) (omega arith)) small);
}

-- a number
number_read : (z : ℤ) (rest : List ℕ) → size z ≤ most_number → is_stop rest ≡ true → IsReadBefore (value (literal.Number z)) rest
number_read (pos n) rest small stop = plain_number_read n (decimal n) rest refl small stop
number_read (negsuc n) rest small stop = minus_number_read n rest small stop

-- ---- texts

-- a text ends there
quote_stops : (rest : List ℕ) → is_stop rest ≡ true → quoted true rest ≡ Some (record { text = []; bytes = 1 })
quote_stops = stop_cases (λ rest. quoted true rest ≡ Some (record { text = []; bytes = 1 })) refl (λ r. refl) (λ r. refl) (λ r. refl)

-- a text with its quotes doubled
quoted_doubled : (t rest : List ℕ) → is_stop rest ≡ true → quoted false (doubled t ++ 39 ∷ rest) ≡ Some (record { text = t; bytes = length (doubled t) + 1 })
quoted_doubled [] rest stop = quote_stops rest stop
quoted_doubled (b ∷ t) rest stop = go (b == 39) refl (quoted_doubled t rest stop)
  where
    one : 1 + (length (doubled t) + 1) ≡ suc (length (doubled t)) + 1
    one = omega arith

    two : 2 + (length (doubled t) + 1) ≡ suc (suc (length (doubled t))) + 1
    two = omega arith

    go : (r : Bool) → (b == 39) ≡ r → quoted false (doubled t ++ 39 ∷ rest) ≡ Some (record { text = t; bytes = length (doubled t) + 1 })
        → quoted false (cond r (39 ∷ 39 ∷ doubled t) (b ∷ doubled t) ++ 39 ∷ rest) ≡ Some
        (record { text = b ∷ t; bytes = length (cond r (39 ∷ 39 ∷ doubled t) (b ∷ doubled t)) + 1 })
    go true e more =
        ap (with_front (39 ∷ []) 2) more ∙ ap (λ n. Some (record { text = 39 ∷ t; bytes = n })) two
        ∙ ap (λ c. Some (record { text = c ∷ t; bytes = suc (suc (length (doubled t))) + 1 })) (sym (eqb-true b 39 e))
    go false e more =
        ap (λ r. cond r (quoted true (doubled t ++ 39 ∷ rest)) (with_front (b ∷ []) 1 (quoted false (doubled t ++ 39 ∷ rest)))) e
        ∙ ap (with_front (b ∷ []) 1) more ∙ ap (λ n. Some (record { text = b ∷ t; bytes = n })) one

-- a text
text_read : (t rest : List ℕ) → is_stop rest ≡ true → IsReadBefore (value (literal.Text t)) rest
text_read t rest stop = record {
  first = 39;
  more = doubled t ++ 39 ∷ [];
  is = refl;
  solid = refl;
  front =
      front_of_quote 39 ((doubled t ++ 39 ∷ []) ++ rest) refl refl refl ∙ ap (λ xs. text_front (quoted false xs)) (append_assoc (doubled t) (39 ∷ []) rest)
      ∙ ap text_front (quoted_doubled t rest stop)
      ∙ ap (λ n. Some (record { token = value (literal.Text t); more = n })) (sym (length-append (doubled t) (39 ∷ [])));
}

-- ---- marks and keywords

-- a mark is not longer there
no_equals : (rest : List ℕ) → is_stop rest ≡ true → is_equals_next rest ≡ false
no_equals = stop_cases (λ rest. is_equals_next rest ≡ false) refl (λ r. refl) (λ r. refl) (λ r. refl)

-- a comparison
operator_read : (o : Op) (rest : List ℕ) → is_stop rest ≡ true → IsReadBefore (operator o) rest
operator_read op.Eq rest stop = record { first = 61; more = []; is = refl; solid = refl; front = front_of_mark 61 rest refl refl refl }
operator_read op.Ne rest stop = record { first = 33; more = 61 ∷ []; is = refl; solid = refl; front = front_of_mark 33 (61 ∷ rest) refl refl refl }
operator_read op.Le rest stop = record { first = 60; more = 61 ∷ []; is = refl; solid = refl; front = front_of_mark 60 (61 ∷ rest) refl refl refl }
operator_read op.Ge rest stop = record { first = 62; more = 61 ∷ []; is = refl; solid = refl; front = front_of_mark 62 (61 ∷ rest) refl refl refl }
operator_read op.Lt rest stop = record {
  first = 60;
  more = [];
  is = refl;
  solid = refl;
  front = front_of_mark 60 rest refl refl refl ∙ ap (λ t. cond t (taking 1 (Some (operator op.Le))) (taking 0 (Some (operator op.Lt)))) (no_equals rest stop);
}
operator_read op.Gt rest stop = record {
  first = 62;
  more = [];
  is = refl;
  solid = refl;
  front = front_of_mark 62 rest refl refl refl ∙ ap (λ t. cond t (taking 1 (Some (operator op.Ge))) (taking 0 (Some (operator op.Gt)))) (no_equals rest stop);
}

-- each token that can be printed is read again, after an opening bracket whatever follows
token_read : (t : Token) (rest : List ℕ) → is_printable t ≡ true → (opens t || is_stop rest) ≡ true → IsReadBefore t rest
token_read and_word rest fit stop =
    record { first = 97; more = 110 ∷ 100 ∷ []; is = refl; solid = refl; front = word_read 97 (110 ∷ 100 ∷ []) rest refl refl stop }
token_read or_word rest fit stop = record { first = 111; more = 114 ∷ []; is = refl; solid = refl; front = word_read 111 (114 ∷ []) rest refl refl stop }
token_read not_word rest fit stop =
    record { first = 110; more = 111 ∷ 116 ∷ []; is = refl; solid = refl; front = word_read 110 (111 ∷ 116 ∷ []) rest refl refl stop }
token_read all_word rest fit stop =
    record { first = 97; more = 108 ∷ 108 ∷ []; is = refl; solid = refl; front = word_read 97 (108 ∷ 108 ∷ []) rest refl refl stop }
token_read in_word rest fit stop = record { first = 105; more = 110 ∷ []; is = refl; solid = refl; front = word_read 105 (110 ∷ []) rest refl refl stop }
token_read (name n) rest fit stop = name_read n rest fit stop
token_read (value (literal.Number z)) rest fit stop = number_read z rest (leb-true (size z) most_number fit) stop
token_read (value (literal.Text t)) rest fit stop = text_read t rest stop
token_read (operator o) rest fit stop = operator_read o rest stop
token_read open_bracket rest fit stop = record { first = 40; more = []; is = refl; solid = refl; front = front_of_mark 40 rest refl refl refl }
token_read close_bracket rest fit stop = record { first = 41; more = []; is = refl; solid = refl; front = front_of_mark 41 rest refl refl refl }
token_read comma rest fit stop = record { first = 44; more = []; is = refl; solid = refl; front = front_of_mark 44 rest refl refl refl }

-- ---- all tokens

-- these tokens, and no byte at which none begins
pub record LexesAs (l : Lexed) (ts : List Token) : Type 0 where
  pub tokens : tokens_of l.tokens ≡ ts
  pub stop : l.stop ≡ None

with_one : (t : Token) (ts : List Token) (at : ℕ) (l : Lexed) → LexesAs l ts → LexesAs (with_token t at l) (t ∷ ts)
with_one t ts at l h = record { tokens = ap (λ us. t ∷ us) h.tokens; stop = h.stop }

-- a token, and then what stands after it
lex_token : (t : Token) (rest : List ℕ) (turns at : ℕ) (read : IsReadBefore t rest) →
    lex_from (suc turns) at (token_text t ++ rest) ≡ with_token t at (lex_from turns (at + 1 + length read.more) rest)
unfolding lex_from
lex_token t rest turns at read =
    ap (λ xs. lex_from (suc turns) at (xs ++ rest)) read.is
    ∙ ap
    (λ b. cond b (lex_from turns (at + 1) (read.more ++ rest))
    (lex_front at (front_token read.first (read.more ++ rest)) (λ n. lex_from turns (at + 1 + n) (drop n (read.more ++ rest))))) read.solid
    ∙ ap (λ o. lex_front at o (λ n. lex_from turns (at + 1 + n) (drop n (read.more ++ rest)))) read.front
    ∙ ap (λ xs. with_token t at (lex_from turns (at + 1 + length read.more) xs)) (drop_at read.more rest (length read.more) refl)

-- a space is passed over
behind_gap : (g : Bool) (s : List ℕ) (ts : List Token) (turns at : ℕ) → length (cond g [] (32 ∷ []) ++ s) < turns →
    ((k a : ℕ) → length s < k → LexesAs (lex_from k a s) ts) → LexesAs (lex_from turns at (cond g [] (32 ∷ []) ++ s)) ts
unfolding lex_from
behind_gap true s ts turns at enough rest = rest turns at enough
behind_gap false s ts zero at enough rest = absurd (omega arith)
behind_gap false s ts (suc turns) at enough rest = rest turns (at + 1) (omega arith)

-- at the end there are no tokens
at_end : (turns at : ℕ) → LexesAs (lex_from turns at []) []
unfolding lex_from
at_end zero at = record { tokens = refl; stop = refl }
at_end (suc turns) at = record { tokens = refl; stop = refl }

-- a closing token begins with a byte at which each token ends
closes_stop : (u : Token) (ts : List Token) → closes u ≡ true → is_stop (spaced_after u ts) ≡ true
closes_stop close_bracket [] h = refl
closes_stop close_bracket (v ∷ ts) h = refl
closes_stop comma [] h = refl
closes_stop comma (v ∷ ts) h = refl
closes_stop and_word ts h = absurd cc
closes_stop or_word ts h = absurd cc
closes_stop not_word ts h = absurd cc
closes_stop all_word ts h = absurd cc
closes_stop in_word ts h = absurd cc
closes_stop (name n) ts h = absurd cc
closes_stop (value l) ts h = absurd cc
closes_stop (operator o) ts h = absurd cc
closes_stop open_bracket ts h = absurd cc

-- each token ends where the next one stands
gap_stop : (x y : Bool) (s : List ℕ) → (y ≡ true → is_stop s ≡ true) → (x || is_stop (cond (x || y) [] (32 ∷ []) ++ s)) ≡ true
gap_stop true y s h = refl
gap_stop false true s h = h refl
gap_stop false false s h = refl

-- if none of the tokens is unprintable, the first one isn't
printable_first : (b : Bool) (n : ℕ) → cond b 0 1 + n ≡ 0 → (b ≡ true) × (n ≡ 0)
printable_first true n h = (refl, omega arith)
printable_first false n h = absurd (omega arith)

-- the tokens of a text, from one on
lexed_after : (t : Token) (ts : List Token) (turns at : ℕ) → total unprintable (t ∷ ts) ≡ 0 → length (spaced_after t ts) < turns →
    LexesAs (lex_from turns at (spaced_after t ts)) (t ∷ ts)
lexed_after t ts zero at fit enough = absurd (omega arith)
lexed_after t [] (suc turns) at fit enough =
    let read : IsReadBefore t [] = token_read t [] (printable_first (is_printable t) (total unprintable []) fit).0 (or_right (opens t) true refl) in
    subst (λ (xs : List ℕ). LexesAs (lex_from (suc turns) at xs) (t ∷ [])) (append-nil (token_text t))
    (subst (λ (l : Lexed). LexesAs l (t ∷ [])) (sym (lex_token t [] turns at read))
    (with_one t [] at (lex_from turns (at + 1 + length read.more) []) (at_end turns (at + 1 + length read.more))))
lexed_after t (u ∷ ts) (suc turns) at fit enough =
    let rest : List ℕ = cond (opens t || closes u) [] (32 ∷ []) ++ spaced_after u ts in
    let fits = printable_first (is_printable t) (total unprintable (u ∷ ts)) fit in
    let read : IsReadBefore t rest = token_read t rest fits.0 (gap_stop (opens t) (closes u) (spaced_after u ts) (closes_stop u ts)) in
    let less : length rest < turns = omega (arith, enough, length-append (token_text t) rest, ap (length {A = ℕ}) read.is) in
    subst (λ (l : Lexed). LexesAs l (t ∷ u ∷ ts)) (sym (lex_token t rest turns at read))
    (with_one t (u ∷ ts) at (lex_from turns (at + 1 + length read.more) rest)
    (behind_gap (opens t || closes u) (spaced_after u ts) (u ∷ ts) turns (at + 1 + length read.more) less (λ k a lt. lexed_after u ts k a fits.1 lt)))

-- the text of tokens that can be printed has these tokens
pub lexed-spaced : (ts : List Token) → total unprintable ts ≡ 0 → LexesAs (lexed (spaced ts)) ts
lexed-spaced [] fit = at_end 1 0
lexed-spaced (t ∷ ts) fit = lexed_after t ts (length (spaced_after t ts) + 1) 0 fit (omega arith)
