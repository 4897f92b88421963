-- The reader stops at the least offset that is due: each token before it may stand where it stands, and whatever comes later stands at a greater offset.
use Rattle.std.proofs.Common.{◌≡◌, ℕ, zero, suc, ◌+◌, ◌<◌, ◌≤◌, Bool, true, false, cond, List, [], ◌∷◌, ◌++◌, length, take, drop, Option, Some, None, refl, sym, ap, ◌∙◌, subst, arith, length-drop}
use Rattle.std.specs.Prelude.{slice_get, is_some}
use Rattle.std.proofs.lemmas.List.{length_push, map_push, map-append, append-nil, take-append-drop, take-append-le}
use Rattle.std.proofs.lemmas.Bool.{false≢true}
use Rattle.schema_json.specs.Columns.{Column}
use Rattle.predicate_lang.specs.Trees.{Tree}
use Rattle.predicate_lang.specs.Tokens.{Token, Front, Placed, Lexed, is_blank, front_token, lex_front, lex_from, lexed, lexed_from, no_tokens, with_token}
use Rattle.predicate_lang.specs.Grammar.{IsPredicate, BeginPredicate}
use Rattle.predicate_lang.specs.Places.{tokens_of, Means, Refuses, unfit, too_many, no_token, unfinished, IsPlace}
use Rattle.predicate_lang.specs.Machine.{Build, run, start, put, may_put, built, is_complete}
use Rattle.predicate_lang.specs.Lexing.{seen, IsNext}
use Rattle.predicate_lang.specs.Reads.{followed, HasRead}
use Rattle.predicate_lang.specs.declared.tokens.Lexeme.{Lexeme}
use Rattle.predicate_lang.proofs.PredicatesRunThrough.{run-none, run-append, begins_runs, predicate_completes}
use Rattle.predicate_lang.proofs.WrittenSoFar.{so_far, built_written}
use Rattle.predicate_lang.proofs.BeginningsCanBeCompleted.{goes_on_predicate}

-- ---- offsets rise

-- every token, and the offset where none begins, stand at this offset or later
pub record AllFrom (n : ℕ) (l : Lexed) : Type 0 where
  tokens : (k : ℕ) (p : Placed) → slice_get l.tokens k ≡ Some p → n ≤ p.at
  stop : (s : ℕ) → l.stop ≡ Some s → n ≤ s

from_none : (n : ℕ) → AllFrom n (no_tokens None)
from_none n = record { tokens = λ k p h. absurd cc; stop = λ s h. absurd cc }

from_stop : (n at : ℕ) → n ≤ at → AllFrom n (no_tokens (Some at))
from_stop n at low = record { tokens = λ k p h. absurd cc; stop = λ s h. (let same : at ≡ s = cc in omega (arith, low, same)) }

from_token : (n at : ℕ) (t : Token) (more : Lexed) → n ≤ at → AllFrom n more → AllFrom n (with_token t at more)
from_token n at t more low rest = record { tokens = go; stop = rest.stop }
  where
    go : (k : ℕ) (p : Placed) → slice_get (with_token t at more).tokens k ≡ Some p → n ≤ p.at
    go zero p h = let same : at ≡ p.at = ap (λ (o : Option Placed). elim o as (λ _. ℕ) [ Some q ↦ q.at | None ↦ 0 ]) h in omega (arith, low, same)
    go (suc k) p h = rest.tokens k p h

from_lower : (n m : ℕ) (l : Lexed) → m ≤ n → AllFrom n l → AllFrom m l
from_lower n m l low all = record { tokens = λ k p h. omega (arith, low, all.tokens k p h); stop = λ s h. omega (arith, low, all.stop s h) }

all_from : (t at : ℕ) (bytes : List ℕ) → AllFrom at (lex_from t at bytes)
unfolding lex_from
all_from zero at bytes = from_none at
all_from (suc t) at [] = from_none at
all_from (suc t) at (b ∷ bytes) = at_blank t at bytes (is_blank b) (front_token b bytes) (λ n a. all_from t a (drop n bytes))
  where
    at_front : (t at : ℕ) (bytes : List ℕ) (o : Option Front) → ((n a : ℕ) → AllFrom a (lex_from t a (drop n bytes))) →
        AllFrom at (lex_front at o (λ n. lex_from t (at + 1 + n) (drop n bytes)))
    at_front t at bytes None rest = from_stop at at (omega arith)
    at_front t at bytes (Some f) rest =
        from_token at at f.token _ (omega arith) (from_lower (at + 1 + f.more) at _ (omega arith) (rest f.more (at + 1 + f.more)))

    at_blank : (t at : ℕ) (bytes : List ℕ) (blank : Bool) (o : Option Front) → ((n a : ℕ) → AllFrom a (lex_from t a (drop n bytes))) →
        AllFrom at (cond blank (lex_from t (at + 1) bytes) (lex_front at o (λ n. lex_from t (at + 1 + n) (drop n bytes))))
    at_blank t at bytes true o rest = from_lower (at + 1) at _ (omega arith) (rest 0 (at + 1))
    at_blank t at bytes false o rest = at_front t at bytes o rest

pub lexed_from_rises : (text : List ℕ) (at : ℕ) → AllFrom at (lexed_from text at)
lexed_from_rises text at = all_from (length text + 1) at (drop at text)

-- ---- and lie within the text

-- every token, and the offset where none begins, stand below this offset
record AllBelow (n : ℕ) (l : Lexed) : Type 0 where
  tokens : (k : ℕ) (p : Placed) → slice_get l.tokens k ≡ Some p → p.at < n
  stop : (s : ℕ) → l.stop ≡ Some s → s < n

below_none : (n : ℕ) → AllBelow n (no_tokens None)
below_none n = record { tokens = λ k p h. absurd cc; stop = λ s h. absurd cc }

below_stop : (n at : ℕ) → at < n → AllBelow n (no_tokens (Some at))
below_stop n at low = record { tokens = λ k p h. absurd cc; stop = λ s h. (let same : at ≡ s = cc in omega (arith, low, same)) }

below_token : (n at : ℕ) (t : Token) (more : Lexed) → at < n → AllBelow n more → AllBelow n (with_token t at more)
below_token n at t more low rest = record { tokens = go; stop = rest.stop }
  where
    go : (k : ℕ) (p : Placed) → slice_get (with_token t at more).tokens k ≡ Some p → p.at < n
    go zero p h = let same : at ≡ p.at = ap (λ (o : Option Placed). elim o as (λ _. ℕ) [ Some q ↦ q.at | None ↦ 0 ]) h in omega (arith, low, same)
    go (suc k) p h = rest.tokens k p h

all_below : (n t at : ℕ) (bytes : List ℕ) → (0 < length bytes → at + length bytes ≤ n) → AllBelow n (lex_from t at bytes)
unfolding lex_from
all_below n zero at bytes fits = below_none n
all_below n (suc t) at [] fits = below_none n
all_below n (suc t) at (b ∷ bytes) fits =
    at_blank n t at bytes (is_blank b) (front_token b bytes) (fits (omega arith))
    (λ k. all_below n t (at + 1 + k) (drop k bytes) (λ some.
    (let whole : at + suc (length bytes) ≤ n = fits (omega arith) in omega (arith, whole, length-drop k bytes, some))))
  where
    at_front : (n t at : ℕ) (bytes : List ℕ) (o : Option Front) → at + suc (length bytes) ≤ n →
        ((k : ℕ) → AllBelow n (lex_from t (at + 1 + k) (drop k bytes))) → AllBelow n (lex_front at o (λ k. lex_from t (at + 1 + k) (drop k bytes)))
    at_front n t at bytes None fit rest = below_stop n at (omega arith)
    at_front n t at bytes (Some f) fit rest = below_token n at f.token _ (omega arith) (rest f.more)

    at_blank : (n t at : ℕ) (bytes : List ℕ) (blank : Bool) (o : Option Front) → at + suc (length bytes) ≤ n →
        ((k : ℕ) → AllBelow n (lex_from t (at + 1 + k) (drop k bytes))) →
        AllBelow n (cond blank (lex_from t (at + 1) bytes) (lex_front at o (λ k. lex_from t (at + 1 + k) (drop k bytes))))
    at_blank n t at bytes true o fit rest = let same : at + 1 + 0 ≡ at + 1 = omega arith in subst (λ (a : ℕ). AllBelow n (lex_from t a bytes)) same (rest 0)
    at_blank n t at bytes false o fit rest = at_front n t at bytes o fit rest

all_within : (text : List ℕ) → AllBelow (length text) (lexed text)
all_within text = all_below (length text) (length text + 1) 0 text (λ some. omega arith)

-- a refusal's offset is one of the text, or its end
pub refused_within : (columns : List Column) (text : List ℕ) (at : ℕ) → Refuses columns text at → at ≤ length text
refused_within columns text at (unfit k p is none) = let low : p.at < length text = (all_within text).tokens k p is in omega (arith, low)
refused_within columns text at (too_many p is) = let low : p.at < length text = (all_within text).tokens 512 p is in omega (arith, low)
refused_within columns text at (no_token s is) = let low : s < length text = (all_within text).stop s is in omega (arith, low)
refused_within columns text at (unfinished whole none) = omega arith

-- ---- how far was read

-- before the first token
pub nothing_read : (columns : List Column) (text : List ℕ) → HasRead columns text 0 0 start
nothing_read columns text = record { front = []; is_front = refl; many = refl; builds = refl }

followed-push : (ps : List Placed) (p : Placed) (more : Lexed) → followed (ps ++ p ∷ []) more ≡ followed ps (with_token p.token p.at more)
followed-push [] p more = refl
followed-push (q ∷ ps) p more = ap (with_token q.token q.at) (followed-push ps p more)

abbrev placed : Token → ℕ → Placed
placed t at = record { token = t; at = at }

-- the run over one token more
run-push : (columns : List Column) (front : List Placed) (b : Build) (t : Token) (at : ℕ) → run columns (tokens_of front) (Some start) ≡ Some b
    → run columns (tokens_of (front ++ placed t at ∷ [])) (Some start) ≡ cond (may_put columns b (seen columns t)) (Some (put b (seen columns t))) None
run-push columns front b t at runs =
    ap (λ ts. run columns ts (Some start)) (map_push (λ (p : Placed). p.token) front (placed t at))
    ∙ run-append columns (tokens_of front) (t ∷ []) (Some start)
    ∙ ap (run columns (t ∷ [])) runs

-- and one token more
pub more_read : (columns : List Column) (text : List ℕ) (from count : ℕ) (b : Build) (l : Lexeme) → HasRead columns text from count b →
    IsNext columns text from l → may_put columns b l.token ≡ true → HasRead columns text l.end (count + 1) (put b l.token)
more_read columns text from count b l read next may =
    let p = placed next.token l.at in
    record {
      front = read.front ++ p ∷ [];
      is_front = read.is_front ∙ ap (followed read.front) next.lexed ∙ sym (followed-push read.front p (lexed_from text l.end));
      many = length_push read.front p ∙ ap (λ n. n + 1) read.many;
      builds =
          run-push columns read.front b next.token l.at read.builds
          ∙ ap (λ t. cond (may_put columns b t) (Some (put b t)) None) (sym next.is_seen)
          ∙ ap (λ t. cond t (Some (put b l.token)) None) may;
    }

-- ---- which tokens were read

followed-tokens : (ps : List Placed) (more : Lexed) → (followed ps more).tokens ≡ ps ++ more.tokens
followed-tokens [] more = refl
followed-tokens (p ∷ ps) more = ap (λ qs. p ∷ qs) (followed-tokens ps more)

followed-stop : (ps : List Placed) (more : Lexed) → (followed ps more).stop ≡ more.stop
followed-stop [] more = refl
followed-stop (p ∷ ps) more = followed-stop ps more

tokens_are : (columns : List Column) (text : List ℕ) (from count : ℕ) (b : Build) (read : HasRead columns text from count b) →
    (lexed text).tokens ≡ read.front ++ (lexed_from text from).tokens
tokens_are columns text from count b read = ap (λ (l : Lexed). l.tokens) read.is_front ∙ followed-tokens read.front (lexed_from text from)

stop_is : (columns : List Column) (text : List ℕ) (from count : ℕ) (b : Build) → HasRead columns text from count b →
    (lexed text).stop ≡ (lexed_from text from).stop
stop_is columns text from count b read = ap (λ (l : Lexed). l.stop) read.is_front ∙ followed-stop read.front (lexed_from text from)

-- a token is one of those that were read, or one of those to come
data Where (front rest : List Placed) (k : ℕ) (p : Placed) : Type 0 where
  among_read : k < length front → Where front rest k p
  among_rest : (j : ℕ) → slice_get rest j ≡ Some p → length front ≤ k → Where front rest k p

where_is : (front rest : List Placed) (k : ℕ) (p : Placed) → slice_get (front ++ rest) k ≡ Some p → Where front rest k p
where_is [] rest k p h = among_rest k h (omega arith)
where_is (q ∷ front) rest zero p h = among_read (omega arith)
where_is (q ∷ front) rest (suc k) p h = later (where_is front rest k p h)
  where
    later : Where front rest k p → Where (q ∷ front) rest (suc k) p
    later (among_read low) = among_read (omega arith)
    later (among_rest j is high) = among_rest j is (omega arith)

there : (front rest : List Placed) (p : Placed) → slice_get (front ++ p ∷ rest) (length front) ≡ Some p
there [] rest p = refl
there (q ∷ front) rest p = there front rest p

taken : (front rest : List Placed) (p : Placed) → take (length front + 1) (front ++ p ∷ rest) ≡ front ++ p ∷ []
taken [] rest p = refl
taken (q ∷ front) rest p =
    let one : suc (length front) + 1 ≡ suc (length front + 1) = omega arith in
    ap (λ n. take n (q ∷ (front ++ p ∷ rest))) one ∙ ap (λ ps. q ∷ ps) (taken front rest p)

-- a front of what isn't stopped isn't stopped
front_runs : (columns : List Column) (x y : List Token) (s : Build) → run columns (x ++ y) (Some start) ≡ Some s → is_some (run columns x (Some start)) ≡ true
front_runs columns x y s h = go (run columns x (Some start)) (sym (run-append columns x y (Some start)) ∙ h)
  where
    go : (o : Option Build) → run columns y o ≡ Some s → is_some o ≡ true
    go None e = ap is_some (sym (run-none columns y) ∙ e)
    go (Some r) e = refl

-- so the tokens up to one that was read begin a predicate
read_begin : (columns : List Column) (front rest : List Placed) (k : ℕ) (s : Build) → run columns (tokens_of front) (Some start) ≡ Some s → k < length front →
    BeginPredicate columns (tokens_of (take (k + 1) (front ++ rest)))
read_begin columns front rest k s runs low =
    let split : tokens_of front ≡ tokens_of (take (k + 1) front) ++ tokens_of (drop (k + 1) front) = ap tokens_of (sym (take-append-drop (k + 1) front))
    ∙ map-append (λ (p : Placed). p.token) (take (k + 1) front) (drop (k + 1) front) in
    let begin = goes_on_predicate columns (tokens_of (take (k + 1) front))
    (front_runs columns (tokens_of (take (k + 1) front)) (tokens_of (drop (k + 1) front)) s (ap (λ ts. run columns ts (Some start)) (sym split) ∙ runs)) in
    subst (λ (ps : List Placed). BeginPredicate columns (tokens_of ps)) (sym (take-append-le (k + 1) front rest (omega arith))) begin

-- ---- the least offset

-- no offset below those to come is due
pub none_before : (columns : List Column) (text : List ℕ) (from count n : ℕ) (b : Build) → HasRead columns text from count b → count ≤ 512 → n ≤ length text →
    AllFrom n (lexed_from text from) → (other : ℕ) → Refuses columns text other → n ≤ other
none_before columns text from count n b read few within all other (unfit k p is none) =
    go (where_is read.front (lexed_from text from).tokens k p (ap (λ ps. slice_get ps k) (sym (tokens_are columns text from count b read)) ∙ is))
  where
    go : Where read.front (lexed_from text from).tokens k p → n ≤ p.at
    go (among_read low) =
        absurd
        (none (subst (λ (ps : List Placed). BeginPredicate columns (tokens_of (take (k + 1) ps))) (sym (tokens_are columns text from count b read))
        (read_begin columns read.front (lexed_from text from).tokens k (b) read.builds low)))
    go (among_rest j here high) = all.tokens j p here
none_before columns text from count n b read few within all other (too_many p is) =
    go (where_is read.front (lexed_from text from).tokens 512 p (ap (λ ps. slice_get ps 512) (sym (tokens_are columns text from count b read)) ∙ is))
  where
    go : Where read.front (lexed_from text from).tokens 512 p → n ≤ p.at
    go (among_read low) = let many : length read.front ≡ count = read.many in absurd (omega (arith, many, low, few))
    go (among_rest j here high) = all.tokens j p here
none_before columns text from count n b read few within all other (no_token at is) = all.stop at (sym (stop_is columns text from count b read) ∙ is)
none_before columns text from count n b read few within all other (unfinished whole none) = within

-- those to come stand at the next token or later
next_all : (columns : List Column) (text : List ℕ) (from : ℕ) (l : Lexeme) → IsNext columns text from l → AllFrom l.at (lexed_from text from)
next_all columns text from l next =
    let longer : l.at < l.end = next.longer in
    subst (AllFrom l.at) (sym next.lexed)
    (from_token l.at l.at next.token (lexed_from text l.end) (omega arith)
    (from_lower l.end l.at (lexed_from text l.end) (omega (arith, longer)) (lexed_from_rises text l.end)))

-- the next token is the one after those that were read
next_there : (columns : List Column) (text : List ℕ) (from count : ℕ) (b : Build) (l : Lexeme) (read : HasRead columns text from count b)
    (next : IsNext columns text from l) →
    (lexed text).tokens ≡ read.front ++ placed next.token l.at ∷ (lexed_from text l.end).tokens
next_there columns text from count b l read next = tokens_are columns text from count b read ∙ ap (λ (m : Lexed). read.front ++ m.tokens) next.lexed

next_at : (columns : List Column) (text : List ℕ) (from count : ℕ) (b : Build) (l : Lexeme) (read : HasRead columns text from count b)
    (next : IsNext columns text from l) →
    slice_get (lexed text).tokens count ≡ Some (placed next.token l.at)
next_at columns text from count b l read next =
    ap (slice_get (lexed text).tokens) (sym read.many) ∙ ap (λ ps. slice_get ps (length read.front)) (next_there columns text from count b l read next)
    ∙ there read.front (lexed_from text l.end).tokens (placed next.token l.at)

-- a token that may not stand there is refused
pub unfit_there : (columns : List Column) (text : List ℕ) (from count : ℕ) (b : Build) (l : Lexeme) → HasRead columns text from count b → count ≤ 512 →
    IsNext columns text from l → may_put columns b l.token ≡ false → IsPlace columns text l.at
unfit_there columns text from count b l read few next may =
    let p = placed next.token l.at in
    let up_to : take (count + 1) (lexed text).tokens ≡ read.front ++ p ∷ [] = ap (λ n. take (n + 1) (lexed text).tokens) (sym read.many)
    ∙ ap (take (length read.front + 1)) (next_there columns text from count b l read next) ∙ taken read.front (lexed_from text l.end).tokens p in
    let stopped : run columns (tokens_of (take (count + 1) (lexed text).tokens)) (Some start) ≡ None =
    ap (λ ps. run columns (tokens_of ps) (Some start)) up_to
    ∙ run-push columns read.front b next.token l.at read.builds
    ∙ ap (λ t. cond (may_put columns b t) (Some (put b t)) None) (sym next.is_seen)
    ∙ ap (λ t. cond t (Some (put b l.token)) None) may in
    let inside : l.end ≤ length text = next.within in
    let longer : l.at < l.end = next.longer in
    record {
      refuses =
          unfit count p (next_at columns text from count b l read next)
          (λ begin. false≢true (sym (ap is_some stopped) ∙ begins_runs columns (tokens_of (take (count + 1) (lexed text).tokens)) begin));
      least = none_before columns text from count l.at b read few (omega (arith, inside, longer)) (next_all columns text from l next);
    }

-- token 513 is refused, whatever it is
pub too_many_there : (columns : List Column) (text : List ℕ) (from count : ℕ) (b : Build) (l : Lexeme) → HasRead columns text from count b → count ≡ 512 →
    IsNext columns text from l → IsPlace columns text l.at
too_many_there columns text from count b l read full next =
    let inside : l.end ≤ length text = next.within in
    let longer : l.at < l.end = next.longer in
    record {
      refuses = too_many (placed next.token l.at) (ap (slice_get (lexed text).tokens) (sym full) ∙ next_at columns text from count b l read next);
      least = none_before columns text from count l.at b read (omega (arith, full)) (omega (arith, inside, longer)) (next_all columns text from l next);
    }

-- an offset at which no token begins is refused
pub no_token_there : (columns : List Column) (text : List ℕ) (from count n : ℕ) (b : Build) → HasRead columns text from count b → count ≤ 512 →
    lexed_from text from ≡ no_tokens (Some n) → n < length text → IsPlace columns text n
no_token_there columns text from count n b read few none inside =
    record {
      refuses = no_token n (stop_is columns text from count b read ∙ ap (λ (l : Lexed). l.stop) none);
      least = none_before columns text from count n b read few (omega arith) (subst (AllFrom n) (sym none) (from_stop n n (omega arith)));
    }

-- at the end the tokens are those that were read
all_read : (columns : List Column) (text : List ℕ) (from count : ℕ) (b : Build) (read : HasRead columns text from count b) →
    lexed_from text from ≡ no_tokens None → (lexed text).tokens ≡ read.front
all_read columns text from count b read none =
    tokens_are columns text from count b read ∙ ap (λ (l : Lexed). read.front ++ l.tokens) none ∙ append-nil read.front

-- an end before a predicate is complete is refused
pub unfinished_there : (columns : List Column) (text : List ℕ) (from count : ℕ) (b : Build) → HasRead columns text from count b → count ≤ 512 →
    lexed_from text from ≡ no_tokens None → built b ≡ None → IsPlace columns text (length text)
unfinished_there columns text from count b read few none no_tree =
    record {
      refuses = unfinished (stop_is columns text from count b read ∙ ap (λ (l : Lexed). l.stop) none)
          (λ is. false≢true (sym (ap is_some no_tree) ∙ ap is_complete
          (sym read.builds ∙ ap (λ ps. run columns (tokens_of ps) (Some start)) (sym (all_read columns text from count b read none)))
          ∙ predicate_completes columns (tokens_of (lexed text).tokens) is));
      least = none_before columns text from count (length text) b read few (omega arith) (subst (AllFrom (length text)) (sym none) (from_none (length text)));
    }

-- and what is complete there means the tree that was built
pub finished_there : (columns : List Column) (text : List ℕ) (from count : ℕ) (b : Build) (t : Tree) → HasRead columns text from count b → count ≤ 512 →
    lexed_from text from ≡ no_tokens None → built b ≡ Some t → Means columns text t
finished_there columns text from count b t read few none is_tree =
    let are = all_read columns text from count b read none in
    let runs : run columns (tokens_of (lexed text).tokens) (Some start) ≡ Some b = ap (λ ps. run columns (tokens_of ps) (Some start)) are ∙ read.builds in
    let many : length read.front ≡ count = read.many in
    let long : length (lexed text).tokens ≡ length read.front = ap length are in
    record {
      whole = stop_is columns text from count b read ∙ ap (λ (l : Lexed). l.stop) none;
      few = omega (arith, many, long, few);
      writes =
          built_written columns (tokens_of (lexed text).tokens) b.frames b.ors b.ands b.stand t (so_far columns (tokens_of (lexed text).tokens) b runs) is_tree;
    }

too_short : (ps : List Placed) (k : ℕ) (p : Placed) → length ps ≤ k → slice_get ps k ≡ Some p → ⊥
too_short [] k p short is = cc
too_short (q ∷ ps) zero p short is = omega arith
too_short (q ∷ ps) (suc k) p short is = too_short ps k p (omega arith) is

-- a text that means something is refused nowhere
pub refused_means_nothing : (columns : List Column) (text : List ℕ) (t : Tree) (at : ℕ) → Means columns text t → Refuses columns text at → ⊥
refused_means_nothing columns text t at means (unfit k p is none) =
    none (
      tokens_of (drop (k + 1) (lexed text).tokens),
      subst (IsPredicate columns) (ap tokens_of (sym (take-append-drop (k + 1) (lexed text).tokens))
          ∙ map-append (λ (q : Placed). q.token) (take (k + 1) (lexed text).tokens) (drop (k + 1) (lexed text).tokens)) (t, means.writes),
    )
refused_means_nothing columns text t at means (too_many p is) =
    let few : length (lexed text).tokens ≤ 512 = means.few in
    too_short (lexed text).tokens 512 p few is
refused_means_nothing columns text t at means (no_token s is) = absurd (clash (sym means.whole ∙ is))
  where
    clash : None ≡ Some s → ⊥
    clash e = cc
refused_means_nothing columns text t at means (unfinished whole none) = none (t, means.writes)
