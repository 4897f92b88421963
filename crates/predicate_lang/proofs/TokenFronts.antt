-- What a token at the front of a text is, kind by kind.
use Rattle.std.proofs.Common.{◌≡◌, ℕ, ◌+◌, ◌<◌, ◌≤◌, Bool, true, false, ◌||◌, cond, List, ◌∷◌, length, Option, Some, None, refl, sym, ◌∙◌, subst, arith, ◌⊎◌, inl, inr}
use Rattle.std.specs.Prelude.{ℤ, ◌==◌}
use Rattle.std.specs.List.{take_while}
use Rattle.std.specs.Char.{is_ascii_alphabetic, is_ascii_digit}
use Rattle.std.proofs.lemmas.Bool.{eqb-true}
use Rattle.schema_json.specs.Columns.{is_name_byte}
use Rattle.predicate_lang.specs.Tokens.{Token, and_word, or_word, not_word, all_word, in_word, name, value, operator, open_bracket, close_bracket, comma, Front, Quoted, front_token, word_front, word_token, number_at, number_token, text_front, quoted, mark_front, is_equals_next, taking}
use Rattle.predicate_lang.specs.Printing.{token_text}
use Rattle.predicate_lang.specs.declared.trees.Op.TheVariants as op
use Rattle.predicate_lang.specs.declared.trees.Literal.TheVariants as literal
use Rattle.predicate_lang.proofs.NextToken.{front_of_letter, front_of_number, front_of_quote, front_of_mark}

-- a comparison, a bracket or a comma
abbrev pub is_mark : Token → Bool
is_mark and_word = false
is_mark or_word = false
is_mark not_word = false
is_mark all_word = false
is_mark in_word = false
is_mark (name n) = false
is_mark (value l) = false
is_mark (operator o) = true
is_mark open_bracket = true
is_mark close_bracket = true
is_mark comma = true

-- a mark of one byte, or of two of which the second is an equals sign
pub record IsMark (b : ℕ) (bytes : List ℕ) (f : Front) : Type 0 where
  pub ascii : b < 128
  pub marks : is_mark f.token ≡ true
  pub short : length (token_text f.token) ≤ 1 + f.more
  pub behind : (f.more ≡ 0) ⊎ ((f.more ≡ 1) × (is_equals_next bytes ≡ true))

pub data Kind (b : ℕ) (bytes : List ℕ) (f : Front) : Type 0 where
  a_word : is_ascii_alphabetic b ≡ true → f ≡ record { token = word_token (b ∷ take_while is_name_byte bytes); more = length (take_while is_name_byte bytes) } →
      Kind b bytes f
  a_number : (is_ascii_digit b || (b == 45)) ≡ true → (z : ℤ) → number_at b bytes ≡ Some z →
      f ≡ record { token = value (literal.Number z); more = length (take_while is_ascii_digit bytes) } → Kind b bytes f
  a_text : b ≡ 39 → (q : Quoted) → quoted false bytes ≡ Some q → f ≡ record { token = value (literal.Text q.text); more = q.bytes } → Kind b bytes f
  a_mark : IsMark b bytes f → Kind b bytes f

is_one : (b k : ℕ) (bytes : List ℕ) (f : Front) (t : Token) → (b == k) ≡ true → k < 128 → is_mark t ≡ true → length (token_text t) ≤ 1 →
    Some (record { token = t; more = 0 }) ≡ Some f → IsMark b bytes f
is_one b k bytes f t is low marks short h =
    let same : record { token = t; more = 0 } ≡ f = cc in
    subst (IsMark b bytes) same (record { ascii = omega (arith, eqb-true b k is); marks = marks; short = omega arith; behind = inl refl })

is_two : (b k : ℕ) (bytes : List ℕ) (f : Front) (t : Token) → (b == k) ≡ true → k < 128 → is_mark t ≡ true → length (token_text t) ≤ 2 →
    is_equals_next bytes ≡ true → Some (record { token = t; more = 1 }) ≡ Some f → IsMark b bytes f
is_two b k bytes f t is low marks short next h =
    let same : record { token = t; more = 1 } ≡ f = cc in
    subst (IsMark b bytes) same (record { ascii = omega (arith, eqb-true b k is); marks = marks; short = omega arith; behind = inr (refl, next) })

-- a mark at the front
pub mark_front_is : (b : ℕ) (bytes : List ℕ) (f : Front) → mark_front b bytes ≡ Some f → IsMark b bytes f
mark_front_is b bytes f h = eq (b == 61) refl h
  where
    comma_mark : (t : Bool) → (b == 44) ≡ t → cond t (taking 0 (Some comma)) None ≡ Some f → IsMark b bytes f
    comma_mark true e i = is_one b 44 bytes f comma e (omega arith) refl (omega arith) i
    comma_mark false e i = absurd cc

    closing : (t : Bool) → (b == 41) ≡ t → cond t (taking 0 (Some close_bracket)) (cond (b == 44) (taking 0 (Some comma)) None) ≡ Some f → IsMark b bytes f
    closing true e i = is_one b 41 bytes f close_bracket e (omega arith) refl (omega arith) i
    closing false e i = comma_mark (b == 44) refl i

    opening : (t : Bool) → (b == 40) ≡ t →
        cond t (taking 0 (Some open_bracket)) (cond (b == 41) (taking 0 (Some close_bracket)) (cond (b == 44) (taking 0 (Some comma)) None)) ≡ Some f →
        IsMark b bytes f
    opening true e i = is_one b 40 bytes f open_bracket e (omega arith) refl (omega arith) i
    opening false e i = closing (b == 41) refl i

    gt : (t n : Bool) → (b == 62) ≡ t → is_equals_next bytes ≡ n →
        cond t (cond n (taking 1 (Some (operator op.Ge))) (taking 0 (Some (operator op.Gt))))
        (cond (b == 40) (taking 0 (Some open_bracket)) (cond (b == 41) (taking 0 (Some close_bracket)) (cond (b == 44) (taking 0 (Some comma)) None))) ≡
        Some f →
        IsMark b bytes f
    gt true true e n i = is_two b 62 bytes f (operator op.Ge) e (omega arith) refl (omega arith) n i
    gt true false e n i = is_one b 62 bytes f (operator op.Gt) e (omega arith) refl (omega arith) i
    gt false x e n i = opening (b == 40) refl i

    lt : (t n : Bool) → (b == 60) ≡ t → is_equals_next bytes ≡ n →
        cond t (cond n (taking 1 (Some (operator op.Le))) (taking 0 (Some (operator op.Lt))))
        (cond (b == 62) (cond (is_equals_next bytes) (taking 1 (Some (operator op.Ge))) (taking 0 (Some (operator op.Gt))))
        (cond (b == 40) (taking 0 (Some open_bracket)) (cond (b == 41) (taking 0 (Some close_bracket)) (cond (b == 44) (taking 0 (Some comma)) None)))) ≡
        Some f →
        IsMark b bytes f
    lt true true e n i = is_two b 60 bytes f (operator op.Le) e (omega arith) refl (omega arith) n i
    lt true false e n i = is_one b 60 bytes f (operator op.Lt) e (omega arith) refl (omega arith) i
    lt false x e n i = gt (b == 62) (is_equals_next bytes) refl refl i

    ne : (t n : Bool) → (b == 33) ≡ t → is_equals_next bytes ≡ n →
        cond t (cond n (taking 1 (Some (operator op.Ne))) None)
        (cond (b == 60) (cond (is_equals_next bytes) (taking 1 (Some (operator op.Le))) (taking 0 (Some (operator op.Lt))))
        (cond (b == 62) (cond (is_equals_next bytes) (taking 1 (Some (operator op.Ge))) (taking 0 (Some (operator op.Gt))))
        (cond (b == 40) (taking 0 (Some open_bracket)) (cond (b == 41) (taking 0 (Some close_bracket)) (cond (b == 44) (taking 0 (Some comma)) None))))) ≡
        Some f →
        IsMark b bytes f
    ne true true e n i = is_two b 33 bytes f (operator op.Ne) e (omega arith) refl (omega arith) n i
    ne true false e n i = absurd cc
    ne false x e n i = lt (b == 60) (is_equals_next bytes) refl refl i

    eq : (t : Bool) → (b == 61) ≡ t →
        cond t (taking 0 (Some (operator op.Eq))) (cond (b == 33) (cond (is_equals_next bytes) (taking 1 (Some (operator op.Ne))) None)
        (cond (b == 60) (cond (is_equals_next bytes) (taking 1 (Some (operator op.Le))) (taking 0 (Some (operator op.Lt))))
        (cond (b == 62) (cond (is_equals_next bytes) (taking 1 (Some (operator op.Ge))) (taking 0 (Some (operator op.Gt))))
        (cond (b == 40) (taking 0 (Some open_bracket)) (cond (b == 41) (taking 0 (Some close_bracket)) (cond (b == 44) (taking 0 (Some comma)) None)))))) ≡
        Some f →
        IsMark b bytes f
    eq true e i = is_one b 61 bytes f (operator op.Eq) e (omega arith) refl (omega arith) i
    eq false e i = ne (b == 33) (is_equals_next bytes) refl refl i

-- a number at the front
number_kind : (b : ℕ) (bytes : List ℕ) (f : Front) → (is_ascii_digit b || (b == 45)) ≡ true → (o : Option ℤ) → number_at b bytes ≡ o →
    taking (length (take_while is_ascii_digit bytes)) (number_token o) ≡ Some f → Kind b bytes f
number_kind b bytes f begins None is h = absurd cc
number_kind b bytes f begins (Some z) is h = a_number begins z is cc

-- a text at the front
text_kind : (b : ℕ) (bytes : List ℕ) (f : Front) → b ≡ 39 → (o : Option Quoted) → quoted false bytes ≡ o → text_front o ≡ Some f → Kind b bytes f
text_kind b bytes f begins None is h = absurd cc
text_kind b bytes f begins (Some q) is h = a_text begins q is cc

-- what a token at the front is
pub front_kind : (b : ℕ) (bytes : List ℕ) (f : Front) → front_token b bytes ≡ Some f → Kind b bytes f
front_kind b bytes f h = go (is_ascii_alphabetic b) (is_ascii_digit b || (b == 45)) (b == 39) refl refl refl
  where
    go : (x y z : Bool) → is_ascii_alphabetic b ≡ x → (is_ascii_digit b || (b == 45)) ≡ y → (b == 39) ≡ z → Kind b bytes f
    go true y z e i j = let same : word_front b bytes ≡ Some f = sym (front_of_letter b bytes e) ∙ h in a_word e cc
    go false true z e i j = number_kind b bytes f i (number_at b bytes) refl (sym (front_of_number b bytes e i) ∙ h)
    go false false true e i j = text_kind b bytes f (eqb-true b 39 j) (quoted false bytes) refl (sym (front_of_quote b bytes e i j) ∙ h)
    go false false false e i j = a_mark (mark_front_is b bytes f (sym (front_of_mark b bytes e i j) ∙ h))
