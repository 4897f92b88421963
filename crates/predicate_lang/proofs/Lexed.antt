-- The tokens from an offset on, one step at a time.
use Rattle.std.proofs.Common.{◌≡◌, ℕ, zero, suc, ◌+◌, ◌<◌, ◌≤◌, Bool, true, false, cond, List, [], ◌∷◌, length, drop, get_or, Option, Some, None, refl, sym, ap, ◌∙◌, arith, add-one, length-drop}
use Rattle.std.proofs.lemmas.List.{drop_more, drop-drop, drop_all}
use Rattle.predicate_lang.specs.Tokens.{Front, Lexed, is_blank, front_token, lex_front, lex_from, lexed_from, no_tokens, with_token}

abbrev one_step : ℕ → ℕ → ℕ → List ℕ → Lexed
one_step t at b bytes = cond (is_blank b) (lex_from t (at + 1) bytes) (lex_front at (front_token b bytes) (λ n. lex_from t (at + 1 + n) (drop n bytes)))

-- a step is the same if what follows is
same_step : (t u at b : ℕ) (bytes : List ℕ) → ((n a : ℕ) → lex_from t a (drop n bytes) ≡ lex_from u a (drop n bytes)) →
    one_step t at b bytes ≡ one_step u at b bytes
same_step t u at b bytes same = at_blank (is_blank b)
  where
    at_front : (o : Option Front) → lex_front at o (λ n. lex_from t (at + 1 + n) (drop n bytes)) ≡ lex_front at o (λ n. lex_from u (at + 1 + n) (drop n bytes))
    at_front None = refl
    at_front (Some f) = ap (with_token f.token at) (same f.more (at + 1 + f.more))

    at_blank : (blank : Bool) →
        cond blank (lex_from t (at + 1) bytes) (lex_front at (front_token b bytes) (λ n. lex_from t (at + 1 + n) (drop n bytes))) ≡ cond blank
        (lex_from u (at + 1) bytes) (lex_front at (front_token b bytes) (λ n. lex_from u (at + 1 + n) (drop n bytes)))
    at_blank true = same 0 (at + 1)
    at_blank false = at_front (front_token b bytes)

-- as many turns as there are bytes are enough, with one more
enough : (t u at : ℕ) (bytes : List ℕ) → length bytes < t → length bytes < u → lex_from t at bytes ≡ lex_from u at bytes
unfolding lex_from
enough zero u at bytes p q = absurd (omega arith)
enough (suc t) zero at bytes p q = absurd (omega arith)
enough (suc t) (suc u) at [] p q = refl
enough (suc t) (suc u) at (b ∷ bytes) p q =
    same_step t u at b bytes (λ n a. enough t u a (drop n bytes) (omega (arith, length-drop n bytes)) (omega (arith, length-drop n bytes)))

-- within the text a step looks at the byte there and at what follows
lexed_from_step : (text : List ℕ) (at : ℕ) → at < length text → lexed_from text at ≡ one_step (length text) at (get_or text at 0) (drop (at + 1) text)
unfolding lex_from
lexed_from_step text at inside =
    ap (λ n. lex_from n at (drop at text)) (add-one (length text)) ∙ ap (lex_from (suc (length text)) at) (drop_more text at 0 inside)

-- one turn less is enough after a place in the text
one_less : (text : List ℕ) (at : ℕ) → 0 < at → at ≤ length text → lex_from (length text) at (drop at text) ≡ lexed_from text at
one_less text at some inside =
    enough (length text) (length text + 1) at (drop at text) (omega (arith, length-drop at text)) (omega (arith, length-drop at text))

-- a blank is passed over
pub lexed_from_blank : (text : List ℕ) (at : ℕ) → at < length text → is_blank (get_or text at 0) ≡ true → lexed_from text (at + 1) ≡ lexed_from text at
lexed_from_blank text at inside blank =
    sym (lexed_from_step text at inside
    ∙ ap
    (λ b. cond b (lex_from (length text) (at + 1) (drop (at + 1) text))
    (lex_front at (front_token (get_or text at 0) (drop (at + 1) text)) (λ n. lex_from (length text) (at + 1 + n) (drop n (drop (at + 1) text))))) blank
    ∙ one_less text (at + 1) (omega arith) (omega arith))

-- what isn't blank is looked at as a token
lexed_from_front : (text : List ℕ) (at : ℕ) → at < length text → is_blank (get_or text at 0) ≡ false
    → lexed_from text at ≡ lex_front at (front_token (get_or text at 0) (drop (at + 1) text))
    (λ n. lex_from (length text) (at + 1 + n) (drop n (drop (at + 1) text)))
lexed_from_front text at inside solid =
    lexed_from_step text at inside
    ∙ ap
    (λ b. cond b (lex_from (length text) (at + 1) (drop (at + 1) text))
    (lex_front at (front_token (get_or text at 0) (drop (at + 1) text)) (λ n. lex_from (length text) (at + 1 + n) (drop n (drop (at + 1) text))))) solid

-- a token, and then those after it
pub lexed_from_token : (text : List ℕ) (at : ℕ) (f : Front) → at < length text → is_blank (get_or text at 0) ≡ false
    → front_token (get_or text at 0) (drop (at + 1) text) ≡ Some f → at + 1 + f.more ≤ length text
    → lexed_from text at ≡ with_token f.token at (lexed_from text (at + 1 + f.more))
lexed_from_token text at f inside solid is fits =
    lexed_from_front text at inside solid
    ∙ ap (λ o. lex_front at o (λ n. lex_from (length text) (at + 1 + n) (drop n (drop (at + 1) text)))) is
    ∙ ap (λ bytes. with_token f.token at (lex_from (length text) (at + 1 + f.more) bytes)) (drop-drop f.more (at + 1) text)
    ∙ ap (with_token f.token at) (one_less text (at + 1 + f.more) (omega arith) fits)

-- no token begins there
pub lexed_from_no_token : (text : List ℕ) (at : ℕ) → at < length text → is_blank (get_or text at 0) ≡ false →
    front_token (get_or text at 0) (drop (at + 1) text) ≡ None → lexed_from text at ≡ no_tokens (Some at)
lexed_from_no_token text at inside solid is =
    lexed_from_front text at inside solid
    ∙ ap (λ o. lex_front at o (λ n. lex_from (length text) (at + 1 + n) (drop n (drop (at + 1) text)))) is

-- at the end there is no more
pub lexed_from_end : (text : List ℕ) (at : ℕ) → length text ≤ at → lexed_from text at ≡ no_tokens None
unfolding lex_from
lexed_from_end text at past = ap (λ n. lex_from n at (drop at text)) (add-one (length text)) ∙ ap (lex_from (suc (length text)) at) (drop_all at text past)
