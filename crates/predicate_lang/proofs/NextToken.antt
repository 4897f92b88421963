-- The token at an offset is the next one, and the bytes there tell its kind.
use Rattle.std.proofs.Common.{◌≡◌, ℕ, ℤ, ◌+◌, ◌<◌, ◌≤◌, Bool, true, false, ◌||◌, cond, List, length, drop, get_or, Option, Some, None, Err, refl, sym, ap, ◌∙◌, subst, arith, ◌⊎◌, inl, inr}
use Rattle.std.specs.Prelude.{◌==◌, option_map}
use Rattle.std.specs.List.{take_while}
use Rattle.std.specs.Char.{is_ascii_alphabetic, is_ascii_digit}
use Rattle.std.proofs.lemmas.Bool.{eq-eqb}
use Rattle.schema_json.specs.Columns.{Column}
use Rattle.predicate_lang.specs.Tokens.{Front, is_blank, front_token, word_front, number_at, number_front, number_token, taking, text_front, quoted, mark_front, lexed_from, no_tokens}
use Rattle.predicate_lang.specs.Lexing.{seen, seen_front, lexeme, Takes, Lexes, IsNext}
use Rattle.predicate_lang.specs.declared.tokens.Lexeme.{Lexeme}
use Rattle.predicate_lang.specs.declared.tokens.Token.{Token}
use Rattle.predicate_lang.specs.declared.tokens.Token.TheVariants.{Value}
use Rattle.predicate_lang.specs.declared.trees.Literal.TheVariants.{Number, Text}
use Rattle.predicate_lang.specs.declared.trees.WhereFault.{WhereFault}
use Rattle.predicate_lang.specs.declared.trees.WhereFault.TheVariants.{Bad, NoMemory}
use Rattle.predicate_lang.proofs.Lexed.{lexed_from_token, lexed_from_no_token}

-- ---- the kinds

pub front_of_letter : (b : ℕ) (bytes : List ℕ) → is_ascii_alphabetic b ≡ true → front_token b bytes ≡ word_front b bytes
unfolding front_token
front_of_letter b bytes h =
    ap
    (λ t. cond t (word_front b bytes) (cond (is_ascii_digit b || (b == 45)) (number_front b bytes)
    (cond (b == 39) (text_front (quoted false bytes)) (mark_front b bytes)))) h

pub front_of_number : (b : ℕ) (bytes : List ℕ) → is_ascii_alphabetic b ≡ false → (is_ascii_digit b || (b == 45)) ≡ true →
    front_token b bytes ≡ number_front b bytes
unfolding front_token
front_of_number b bytes h i =
    ap
    (λ t. cond t (word_front b bytes) (cond (is_ascii_digit b || (b == 45)) (number_front b bytes)
    (cond (b == 39) (text_front (quoted false bytes)) (mark_front b bytes)))) h
    ∙ ap (λ t. cond t (number_front b bytes) (cond (b == 39) (text_front (quoted false bytes)) (mark_front b bytes))) i

pub front_of_quote : (b : ℕ) (bytes : List ℕ) → is_ascii_alphabetic b ≡ false → (is_ascii_digit b || (b == 45)) ≡ false → (b == 39) ≡ true →
    front_token b bytes ≡ text_front (quoted false bytes)
unfolding front_token
front_of_quote b bytes h i j =
    ap
    (λ t. cond t (word_front b bytes) (cond (is_ascii_digit b || (b == 45)) (number_front b bytes)
    (cond (b == 39) (text_front (quoted false bytes)) (mark_front b bytes)))) h
    ∙ ap (λ t. cond t (number_front b bytes) (cond (b == 39) (text_front (quoted false bytes)) (mark_front b bytes))) i
    ∙ ap (λ t. cond t (text_front (quoted false bytes)) (mark_front b bytes)) j

pub front_of_mark : (b : ℕ) (bytes : List ℕ) → is_ascii_alphabetic b ≡ false → (is_ascii_digit b || (b == 45)) ≡ false → (b == 39) ≡ false →
    front_token b bytes ≡ mark_front b bytes
unfolding front_token
front_of_mark b bytes h i j =
    ap
    (λ t. cond t (word_front b bytes) (cond (is_ascii_digit b || (b == 45)) (number_front b bytes)
    (cond (b == 39) (text_front (quoted false bytes)) (mark_front b bytes)))) h
    ∙ ap (λ t. cond t (number_front b bytes) (cond (b == 39) (text_front (quoted false bytes)) (mark_front b bytes))) i
    ∙ ap (λ t. cond t (text_front (quoted false bytes)) (mark_front b bytes)) j

-- a digit or a minus sign begins a number
pub begins_number : (b : ℕ) (r : Bool) → r ≡ is_ascii_digit b → (r ≡ true) ⊎ ((r ≡ false) × (b ≡ 45)) → (is_ascii_digit b || (b == 45)) ≡ true
begins_number b r told (inl digit) = ap (λ t. t || (b == 45)) (sym told ∙ digit)
begins_number b r told (inr p) = ap (λ t. t || (b == 45)) (sym told ∙ p.0) ∙ eq-eqb b 45 p.1

-- the number that begins at an offset
pub number_is : (columns : List Column) (at b end : ℕ) (tail : List ℕ) (n : ℤ) → Some n ≡ number_at b tail →
    end ≡ at + 1 + length (take_while is_ascii_digit tail)
    → lexeme columns at (number_front b tail) ≡ Some (record { token = Value (Number n); at = at; end = end })
number_is columns at b end tail n found ends =
    ap (λ o. lexeme columns at (taking (length (take_while is_ascii_digit tail)) (number_token o))) (sym found)
    ∙ ap (λ (e : ℕ). Some (made e)) (sym ends)
  where
    made : ℕ → Lexeme
    made e = record { token = Value (Number n); at = at; end = e }

-- no number begins there
pub no_number_is : (columns : List Column) (at b : ℕ) (tail : List ℕ) → None ≡ number_at b tail → lexeme columns at (number_front b tail) ≡ None
no_number_is columns at b tail none = ap (λ o. lexeme columns at (taking (length (take_while is_ascii_digit tail)) (number_token o))) (sym none)

-- the quoted text that begins at an offset
pub text_is : (columns : List Column) (at : ℕ) (tail word : List ℕ) (bytes : ℕ) → quoted false tail ≡ Some (record { text = word; bytes = bytes })
    → lexeme columns at (text_front (quoted false tail)) ≡ Some (record { token = Value (Text word); at = at; end = at + 1 + bytes })
text_is columns at tail word bytes closed = ap (λ o. lexeme columns at (text_front o)) closed

-- the quote that begins there isn't closed
pub no_text_is : (columns : List Column) (at : ℕ) (tail : List ℕ) → quoted false tail ≡ None
    → lexeme columns at (text_front (quoted false tail)) ≡ None
no_text_is columns at tail open_end = ap (λ o. lexeme columns at (text_front o)) open_end

-- ---- the next token

-- an offset after the blanks, at which a token may begin
pub record IsFirst (text : List ℕ) (from at : ℕ) : Type 0 where
  pub behind : from ≤ at
  pub inside : at < length text
  pub solid : is_blank (get_or text at 0) ≡ false
  pub same : lexed_from text at ≡ lexed_from text from

pub next_is : (columns : List Column) (text : List ℕ) (from at : ℕ) (l : Lexeme) → IsFirst text from at →
    lexeme columns at (front_token (get_or text at 0) (drop (at + 1) text)) ≡ Some l → l.end ≤ length text → IsNext columns text from l
next_is columns text from at l first is within = go (front_token (get_or text at 0) (drop (at + 1) text)) refl is
  where
    here : (f : Front) → front_token (get_or text at 0) (drop (at + 1) text) ≡ Some f → at + 1 + f.more ≤ length text →
        IsNext columns text from (record { token = seen columns f.token; at = at; end = at + 1 + f.more })
    here f e fits = record {
      token = f.token;
      is_seen = refl;
      lexed = sym first.same ∙ lexed_from_token text at f first.inside first.solid e fits;
      behind = first.behind;
      longer = omega arith;
      within = fits;
    }

    go : (o : Option Front) → front_token (get_or text at 0) (drop (at + 1) text) ≡ o → lexeme columns at o ≡ Some l → IsNext columns text from l
    go None e h = absurd cc
    go (Some f) e h =
        let same : record { token = seen columns f.token; at = at; end = at + 1 + f.more } ≡ l = cc in
        let fits : at + 1 + f.more ≤ length text = omega (arith, ap (λ (x : Lexeme). x.end) same, within) in
        subst (IsNext columns text from) same (here f e fits)

pub none_is : (columns : List Column) (text : List ℕ) (from at : ℕ) → IsFirst text from at →
    lexeme columns at (front_token (get_or text at 0) (drop (at + 1) text)) ≡ None → lexed_from text from ≡ no_tokens (Some at)
none_is columns text from at first is = go (front_token (get_or text at 0) (drop (at + 1) text)) refl is
  where
    go : (o : Option Front) → front_token (get_or text at 0) (drop (at + 1) text) ≡ o → lexeme columns at o ≡ None → lexed_from text from ≡ no_tokens (Some at)
    go None e h = sym first.same ∙ lexed_from_no_token text at first.inside first.solid e
    go (Some f) e h = absurd cc

-- a mark with how many bytes follow its first one is the token there
pub mark_is : (columns : List Column) (at : ℕ) (o : Option Front) (t : Token) (n : ℕ) → seen_front columns o ≡ Some (t, n) →
    lexeme columns at o ≡ Some (record { token = t; at = at; end = at + 1 + n })
mark_is columns at None t n h = absurd cc
mark_is columns at (Some f) t n h = ap (λ (m : Option (Token × ℕ)). option_map (λ (p : Token × ℕ). record { token = p.0; at = at; end = at + 1 + p.1 }) m) h

pub no_mark_is : (columns : List Column) (at : ℕ) (o : Option Front) → seen_front columns o ≡ None → lexeme columns at o ≡ None
no_mark_is columns at None h = refl
no_mark_is columns at (Some f) h = absurd cc

-- the offset of a refusal is where no token begins
pub refused_is : (columns : List Column) (text : List ℕ) (from at n : ℕ) → IsFirst text from at →
    (lexeme columns at (front_token (get_or text at 0) (drop (at + 1) text)) ≡ None) × (n ≡ at) →
    (lexed_from text from ≡ no_tokens (Some n)) × (from ≤ n) × (n < length text)
refused_is columns text from at n first is =
    let here : n ≡ at = is.1 in
    let behind : from ≤ at = first.behind in
    let inside : at < length text = first.inside in
    (none_is columns text from at first is.0 ∙ ap (λ k. no_tokens (Some k)) (sym here), omega (arith, here, behind), omega (arith, here, inside))

-- and so is what a refused token says
pub refused_token_is : (columns : List Column) (text : List ℕ) (from at : ℕ) (fault : WhereFault) → IsFirst text from at →
    Takes (lexeme columns at (front_token (get_or text at 0) (drop (at + 1) text))) at (Err fault) → Lexes columns text from (Err fault)
refused_token_is columns text from at (Bad n) first is = refused_is columns text from at n first is
refused_token_is columns text from at NoMemory first is = tt
