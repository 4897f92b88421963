-- If json reads an object of texts, serde_json reads the same, and finds the same texts in it.
use Rattle.std.proofs.Common.{◌≡◌, ℕ, zero, suc, Bool, true, false, cond, List, [], ◌∷◌, length, codes, Option, Some, None, option_map, option_and_then, Ordering, Less, Equal, Greater, refl, sym, ap, ◌∙◌, subst, Bor, IfSome}
use Rattle.std.specs.Prelude.{⊤, is_some, unwrap_or, if◌then◌else◌}
use Rattle.std.specs.Str.{bytes_eq}
use Rattle.std.specs.Ordering.{match_ordering}
use Rattle.std.proofs.lemmas.Bool.{and_parts, and_from, false≢true}
use Rattle.std.proofs.lemmas.Option.{none-some}
use Rattle.std.proofs.lemmas.Slice.Eq.{bytes_eq-Decides}
use Rattle.json.specs.Token.{Token}
use Rattle.json.specs.Lex.{tokens}
use Rattle.json.specs.Json as json
use Rattle.json.specs.Find as found
use Rattle.serde_json.specs.Data.{Data, string, object, Members, no_members, member, put}
use Rattle.serde_json.specs.Find.{get, get_member, as_str, as_object}
use Rattle.serde_json.specs.Read.{of_json, of_members, read}
use Rattle.serde_json.proofs.Views.{get_member-put, get_member-put_other}
use Rattle.line_wire.specs.Plain.{is_text_at, are_texts, is_plain, text_at, question_in_json}
use Rattle.line_wire.specs.Questions.{is_key, keys_are_known, has_known_keys, may_be_text, ask_of, with_column, asked_with, question_in}
use Rattle.line_wire.specs.declared.question.Ask.{Ask}
use Rattle.line_wire.specs.declared.question.Question.{Question}
use Rattle.line_wire.specs.Kept.{written_of}

-- ---- how deep it nests doesn't matter

-- if o is an answer of this form, p is the same
abbrev Keeps : {A : Type 0} → (A → Bool) → Option (A × List Token) → Option (A × List Token) → Type 0
Keeps form None p = ⊤
Keeps form (Some x) p = form x.0 ≡ true → p ≡ Some x

-- a text stands alone
abbrev is_text : json.Json → Bool
is_text j = is_some (found.as_str j)

-- what has another form keeps nothing
never : {A B : Type 0} (h : A → B) (form : B → Bool) → ((a : A) → form (h a) ≡ false) → (o : Option (A × List Token)) (p : Option (B × List Token)) →
    Keeps form (json.parse_map h o) p
never h form other None p = tt
never h form other (Some x) p = λ is. absurd (false≢true (sym (other x.0) ∙ is))

-- a text is read alike, whatever arrays and objects are read as
one_text : (a b : json.Parse json.Items) (o p : json.Parse json.Members) (ts : List Token) → Keeps is_text (json.value_with a o ts) (json.value_with b p ts)
one_text a b o p [] = tt
one_text a b o p (Token.begin_object ∷ ts) = never json.object is_text (λ ms. refl) (o ts) _
one_text a b o p (Token.end_object ∷ ts) = tt
one_text a b o p (Token.begin_array ∷ ts) = never json.array is_text (λ js. refl) (a ts) _
one_text a b o p (Token.end_array ∷ ts) = tt
one_text a b o p (Token.key s ∷ ts) = tt
one_text a b o p (Token.string s ∷ ts) = λ is. refl
one_text a b o p (Token.number s ∷ ts) = λ is. refl
one_text a b o p (Token.boolean b' ∷ ts) = λ is. refl
one_text a b o p (Token.null ∷ ts) = λ is. refl
one_text a b o p (Token.bad ∷ ts) = tt

-- the items and the members that a value of this depth may hold
abbrev inner_items : ℕ → json.Parse json.Items
inner_items d ts = json.items (json.value d) (length ts) ts

abbrev inner_members : ℕ → json.Parse json.Members
inner_members d ts = json.members (json.value d) (length ts) ts

-- so at each depth
text_value : (d e : ℕ) (ts : List Token) → Keeps is_text (json.value d ts) (json.value e ts)
unfolding json.value
text_value zero zero ts = one_text (λ us. None) (λ us. None) (λ us. None) (λ us. None) ts
text_value zero (suc e) ts = one_text (λ us. None) (inner_items e) (λ us. None) (inner_members e) ts
text_value (suc d) zero ts = one_text (inner_items d) (λ us. None) (inner_members d) (λ us. None) ts
text_value (suc d) (suc e) ts = one_text (inner_items d) (inner_items e) (inner_members d) (inner_members e) ts

-- the form of a whole says that of its part
mapped : {A B : Type 0} (f : A → Bool) (g : B → Bool) (h : A → B) → ((a : A) → g (h a) ≡ true → f a ≡ true) → (o p : Option (A × List Token)) → Keeps f o p →
    Keeps g (json.parse_map h o) (json.parse_map h p)
mapped f g h part None p keeps = tt
mapped f g h part (Some x) p keeps = λ is. ap (json.parse_map h) (keeps (part x.0 is))

module _ (p q : json.Parse json.Json) (each : (ts : List Token) → Keeps is_text (p ts) (q ts)) where
  -- a key and its text, before members that are read alike
  first : (k : List ℕ) (m n : json.Parse json.Members) → ((ts : List Token) → Keeps are_texts (m ts) (n ts)) → (o r : Option (json.Json × List Token))
      → Keeps is_text o r
      → Keeps are_texts (option_and_then (λ x. json.parse_map (json.member k x.0) (m x.1)) o)
      (option_and_then (λ x. json.parse_map (json.member k x.0) (n x.1)) r)
  first k m n more None r keeps = tt
  first k m n more (Some x) r keeps = go (m x.1) (more x.1)
    where
      go : (o : Option (json.Members × List Token)) → Keeps are_texts o (n x.1) →
          Keeps are_texts (json.parse_map (json.member k x.0) o) (option_and_then (λ y. json.parse_map (json.member k y.0) (n y.1)) r)
      go None same = tt
      go (Some y) same = λ is.
          let parts = and_parts (is_text_at k x.0) (are_texts y.0) is in
          let text = and_parts (is_key k) (is_text x.0) parts.0 in
          ap (option_and_then (λ z. json.parse_map (json.member k z.0) (n z.1))) (keeps text.1) ∙ ap (json.parse_map (json.member k x.0)) (same parts.1)

  -- members from the next key on
  turn : (m n : json.Parse json.Members) → ((ts : List Token) → Keeps are_texts (m ts) (n ts)) → (o : Option (Option (List ℕ) × List Token))
      → Keeps are_texts (option_and_then (λ x. json.members_step p m x.0 x.1) o) (option_and_then (λ x. json.members_step q n x.0 x.1) o)
  turn m n more None = tt
  turn m n more (Some (None, ts)) = λ is. refl
  turn m n more (Some (Some k, ts)) = first k m n more (p ts) (q ts) (each ts)

  -- all members
  text_members : (turns : ℕ) (ts : List Token) → Keeps are_texts (json.members p turns ts) (json.members q turns ts)
  unfolding json.members
  text_members zero ts = tt
  text_members (suc turns) ts = turn (json.members p turns) (json.members q turns) (text_members turns) (json.read_key ts)

-- an object of texts is read alike if its members are
either_plain : (a b : json.Parse json.Items) (o p : json.Parse json.Members) → ((ts : List Token) → Keeps are_texts (o ts) (p ts)) → (ts : List Token) →
    Keeps is_plain (json.value_with a o ts) (json.value_with b p ts)
either_plain a b o p both [] = tt
either_plain a b o p both (Token.begin_object ∷ ts) = mapped are_texts is_plain json.object (λ ms is. is) (o ts) (p ts) (both ts)
either_plain a b o p both (Token.end_object ∷ ts) = tt
either_plain a b o p both (Token.begin_array ∷ ts) = never json.array is_plain (λ js. refl) (a ts) _
either_plain a b o p both (Token.end_array ∷ ts) = tt
either_plain a b o p both (Token.key s ∷ ts) = tt
either_plain a b o p both (Token.string s ∷ ts) = λ is. refl
either_plain a b o p both (Token.number s ∷ ts) = λ is. refl
either_plain a b o p both (Token.boolean c ∷ ts) = λ is. refl
either_plain a b o p both (Token.null ∷ ts) = λ is. refl
either_plain a b o p both (Token.bad ∷ ts) = tt

-- so at each depth of at least one
plain_value : (d e : ℕ) (ts : List Token) → Keeps is_plain (json.value (suc d) ts) (json.value (suc e) ts)
unfolding json.value
plain_value d e ts =
    either_plain (inner_items d) (inner_items e) (inner_members d) (inner_members e)
    (λ rest. text_members (json.value d) (json.value e) (text_value d e) (length rest) rest) ts

none≢some : (j : json.Json) → None ≡ Some j → ⊥
none≢some j e = cc

inner : (i j : json.Json) → Some i ≡ Some j → i ≡ j
inner i j e = cc

-- the value of a text is the last that stands there
whole : (o p : Option (json.Json × List Token)) (j : json.Json) → Keeps is_plain o p → option_and_then (λ x. json.if_last x.0 x.1) o ≡ Some j →
    is_plain j ≡ true → option_and_then (λ x. json.if_last x.0 x.1) p ≡ Some j
whole None p j keeps is plain = absurd (none≢some j is)
whole (Some (i, [])) p j keeps is plain = ap (option_and_then (λ x. json.if_last x.0 x.1)) (keeps (ap is_plain (inner i j is) ∙ plain)) ∙ is
whole (Some (i, t ∷ ts)) p j keeps is plain = absurd (none≢some j is)

-- what json reads as an object of texts, serde_json reads as its value
pub read-plain : (text : List ℕ) (j : json.Json) → json.document text ≡ Some j → is_plain j ≡ true → read text ≡ of_json j
read-plain text j is plain =
    ap (option_and_then of_json) (whole (json.value 128 (tokens text)) (json.value 127 (tokens text)) j (plain_value 127 126 (tokens text)) is plain)

-- ---- what is found in it

-- the text of a value
abbrev text_in : json.Json → List ℕ
text_in j = unwrap_or (found.as_str j) []

-- the members, with these put in one after another
abbrev gathered : json.Members → Members → Members
gathered json.no_members ms = ms
gathered (json.member k j rest) ms = gathered rest (put k (string (text_in j)) ms)

-- a text is kept as it is
of_text : (j : json.Json) → is_text j ≡ true → of_json j ≡ Some (string (text_in j))
of_text json.null is = absurd (false≢true is)
of_text (json.boolean b) is = absurd (false≢true is)
of_text (json.number s) is = absurd (false≢true is)
of_text (json.string s) is = refl
of_text (json.array js) is = absurd (false≢true is)
of_text (json.object ms) is = absurd (false≢true is)

-- and so are an object's
of_texts : (ms : json.Members) (before : Members) → are_texts ms ≡ true → of_members ms before ≡ Some (gathered ms before)
of_texts json.no_members before is = refl
of_texts (json.member k j ms) before is =
    let parts = and_parts (is_text_at k j) (are_texts ms) is in
    let text = and_parts (is_key k) (is_text j) parts.0 in
    ap (option_and_then (λ d. of_members ms (put k d before))) (of_text j text.1) ∙ of_texts ms (put k (string (text_in j)) before) parts.1

-- the text that is found, and else what was there before
abbrev text_or : Option json.Json → Option Data → Option Data
text_or None before = before
text_or (Some j) before = Some (string (text_in j))

-- what is put at a key is found at that key alone
one_put : (b : Bool) (k l : List ℕ) (j : json.Json) (before : Members) → bytes_eq l k ≡ b →
    get_member k (put l (string (text_in j)) before) ≡ text_or (cond b (Some j) None) (get_member k before)
one_put true k l j before same =
    let is : l ≡ k = (bytes_eq-Decides l k).0 same in
    subst (λ m. get_member k (put m (string (text_in j)) before) ≡ Some (string (text_in j))) (sym is) (get_member-put k (string (text_in j)) before)
one_put false k l j before other = get_member-put_other k l (string (text_in j)) before (λ is. false≢true (sym other ∙ (bytes_eq-Decides l k).1 (sym is)))

-- of two equal keys the later one counts
later : (o : Option json.Json) (here : Option json.Json) (before : Option Data) → text_or (found.later_or o here) before ≡ text_or o (text_or here before)
later None here before = refl
later (Some j) here before = refl

-- what is found in an object of texts
get-gathered : (k : List ℕ) (ms : json.Members) (before : Members) → get_member k (gathered ms before) ≡ text_or (found.get_member k ms) (get_member k before)
get-gathered k json.no_members before = refl
get-gathered k (json.member l j ms) before =
    get-gathered k ms (put l (string (text_in j)) before) ∙ ap (text_or (found.get_member k ms)) (one_put (bytes_eq l k) k l j before refl)
    ∙ sym (later (found.get_member k ms) _ _)

-- a known key more
known_put_at : (o : Ordering) (k l : List ℕ) (d e : Data) (ms : Members) → is_key k ≡ true → keys_are_known (member l e ms) ≡ true
    → keys_are_known (put k d ms) ≡ true
    → keys_are_known (match_ordering o (member k d (member l e ms)) (member l d ms) (member l e (put k d ms))) ≡ true
known_put_at Less k l d e ms key known rest = and_from _ _ key known
known_put_at Equal k l d e ms key known rest = known
known_put_at Greater k l d e ms key known rest = and_from _ _ (and_parts _ _ known).0 rest

known_put : (k : List ℕ) (d : Data) (ms : Members) → is_key k ≡ true → keys_are_known ms ≡ true → keys_are_known (put k d ms) ≡ true
known_put k d no_members key known = and_from _ _ key refl
known_put k d (member l e ms) key known = known_put_at _ k l d e ms key known (known_put k d ms key (and_parts _ _ known).1)

-- each key of such an object is known
known_gathered : (ms : json.Members) (before : Members) → are_texts ms ≡ true → keys_are_known before ≡ true → keys_are_known (gathered ms before) ≡ true
known_gathered json.no_members before is known = known
known_gathered (json.member k j ms) before is known =
    let parts = and_parts (is_text_at k j) (are_texts ms) is in
    known_gathered ms _ parts.1 (known_put k _ before (and_parts (is_key k) (is_text j) parts.0).0 known)

-- ---- the question that it writes

-- what is found is a text
found_text : (k : List ℕ) (ms : json.Members) → are_texts ms ≡ true →
    text_or (found.get_member k ms) None ≡ option_map string (option_and_then found.as_str (found.get_member k ms))
found_text k json.no_members is = refl
found_text k (json.member l j ms) is =
    let parts = and_parts (is_text_at l j) (are_texts ms) is in
    either (found.get_member k ms) (bytes_eq l k) j (and_parts (is_key l) (is_text j) parts.0).1 (found_text k ms parts.1)
  where
    alone : (i : json.Json) → is_text i ≡ true → Some (string (text_in i)) ≡ option_map string (found.as_str i)
    alone json.null e = absurd (false≢true e)
    alone (json.boolean b) e = absurd (false≢true e)
    alone (json.number s) e = absurd (false≢true e)
    alone (json.string s) e = refl
    alone (json.array js) e = absurd (false≢true e)
    alone (json.object os) e = absurd (false≢true e)

    either : (o : Option json.Json) (b : Bool) (i : json.Json) → is_text i ≡ true → text_or o None ≡ option_map string (option_and_then found.as_str o)
        → text_or (found.later_or o (cond b (Some i) None)) None ≡ option_map string (option_and_then found.as_str (found.later_or o (cond b (Some i) None)))
    either None true i e rest = alone i e
    either None false i e rest = refl
    either (Some h) b i e rest = rest

is_string : (o : Option (List ℕ)) → may_be_text (option_map string o) ≡ true
is_string None = refl
is_string (Some s) = refl

-- the question of a value by what is found in it
written : (d : Data) (text word : List ℕ) (ask : Ask) (user column : Option (List ℕ)) → has_known_keys (as_object d) ≡ true
    → get (codes "user") d ≡ option_map string user → get (codes "where") d ≡ Some (string text)
    → get (codes "ask") d ≡ Some (string word) → ask_of word ≡ Some ask → get (codes "column") d ≡ option_map string column →
    question_in d ≡ with_column ask (option_map string column) text
unfolding question_in
written d text word ask user column known is_user is_where is_ask asks is_column =
    ap
    (λ b. if b then asked_with (option_and_then as_str (get (codes "where") d)) (option_and_then ask_of (option_and_then as_str (get (codes "ask") d)))
    (get (codes "column") d) else None)
    (and_from _ _ known (ap may_be_text is_user ∙ is_string user))
    ∙ ap (λ o. asked_with (option_and_then as_str o) (option_and_then ask_of (option_and_then as_str (get (codes "ask") d))) (get (codes "column") d)) is_where
    ∙ ap (λ o. asked_with (Some text) (option_and_then ask_of (option_and_then as_str o)) (get (codes "column") d)) is_ask
    ∙ ap (λ o. asked_with (Some text) o (get (codes "column") d)) asks
    ∙ ap (λ o. with_column ask o text) is_column

-- an object of texts writes the question of the texts at its keys
pub plain_writes : (j : json.Json) (text word : List ℕ) (ask : Ask) → is_plain j ≡ true → text_at (codes "where") j ≡ Some text
    → text_at (codes "ask") j ≡ Some word → ask_of word ≡ Some ask
    → question_in_json j ≡ with_column ask (option_map string (text_at (codes "column") j)) text
plain_writes json.null text word ask plain is_where is_ask asks = absurd (false≢true plain)
plain_writes (json.boolean b) text word ask plain is_where is_ask asks = absurd (false≢true plain)
plain_writes (json.number s) text word ask plain is_where is_ask asks = absurd (false≢true plain)
plain_writes (json.string s) text word ask plain is_where is_ask asks = absurd (false≢true plain)
plain_writes (json.array js) text word ask plain is_where is_ask asks = absurd (false≢true plain)
plain_writes (json.object ms) text word ask plain is_where is_ask asks =
    let at = λ (k : List ℕ). get-gathered k ms no_members ∙ found_text k ms plain in
    ap (option_and_then question_in) (ap (option_map object) (of_texts ms no_members plain))
    ∙ written (object (gathered ms no_members)) text word ask (text_at (codes "user") (json.object ms)) (text_at (codes "column") (json.object ms))
    (known_gathered ms no_members plain refl)
    (at (codes "user")) (at (codes "where") ∙ ap (option_map string) is_where) (at (codes "ask") ∙ ap (option_map string) is_ask) asks (at (codes "column"))

renamed : (o : Option (Bor (List ℕ))) → option_map string (option_map (λ s. s.now) o) ≡ option_map (λ s. string s.now) o
renamed None = refl
renamed (Some s) = refl

-- the word that asks
asked : (word : Option (List ℕ)) (ask : Ask) → option_and_then ask_of word ≡ Some ask → (w : List ℕ) × (word ≡ Some w) × (ask_of w ≡ Some ask)
asked None ask asks = absurd (none-some ask asks)
asked (Some word) ask asks = (word, refl, asks)

-- what is made of these texts is its question
pub plain_question_is : (j : json.Json) (text : List ℕ) (ask : Ask) (name : Option (Bor (List ℕ))) (r : Option Question) → is_plain j ≡ true
    → text_at (codes "where") j ≡ Some text → option_and_then ask_of (text_at (codes "ask") j) ≡ Some ask
    → text_at (codes "column") j ≡ option_map (λ s. s.now) name → option_map written_of r ≡ with_column ask (option_map (λ s. string s.now) name) text
    → IfSome r (λ question. question_in_json j ≡ Some (written_of question))
plain_question_is j text ask name None plain is_where asks is_name made = tt
plain_question_is j text ask name (Some question) plain is_where asks is_name made =
    let word = asked (text_at (codes "ask") j) ask asks in
    plain_writes j text word.0 ask plain is_where word.1 word.2 ∙ ap (λ o. with_column ask (option_map string o) text) is_name
    ∙ ap (λ o. with_column ask o text) (renamed name) ∙ sym made
