-- The texts of a value that was read.
use Rattle.std.proofs.Common.{◌≡◌, ℕ, ◌≤◌, List, [], ◌∷◌, length, Option, Some, None, option_and_then, Ordering, Less, Equal, Greater, subst, arith}
use Rattle.std.specs.Ordering.{match_ordering}
use Rattle.json.specs.Token.{Token}
use Rattle.json.specs.Lex.{tokens}
use Rattle.json.specs.Json as json
use Rattle.serde_json.specs.Data.{Data, number, array, object, item, Members, no_members, member, put}
use Rattle.serde_json.specs.Read.{number_of, of_json, of_items, of_members, max_depth, read}
use Rattle.line_wire.specs.Texts.{longest, items_longest, members_longest}
use Rattle.line_wire.proofs.Texts.Content.{AtMost, AtMost-map, AtMost-and_then}
use Rattle.line_wire.proofs.Texts.Tokens.{tokens_text}
use Rattle.line_wire.proofs.Texts.Parsed as parsed

-- ---- the value of what was parsed

no_text : {A : Type 0} (o : Option A) → AtMost (λ _. 0) 0 o
no_text None = tt
no_text (Some a) = omega arith

either_members : (o : Ordering) (a b c : Members) (n : ℕ) → members_longest a ≤ n → members_longest b ≤ n → members_longest c ≤ n →
    members_longest (match_ordering o a b c) ≤ n
either_members Less a b c n p q r = p
either_members Equal a b c n p q r = q
either_members Greater a b c n p q r = r

longest-put : (k : List ℕ) (d : Data) (ms : Members) (n : ℕ) → length k ≤ n → longest d ≤ n → members_longest ms ≤ n → members_longest (put k d ms) ≤ n
longest-put k d no_members n key value rest = omega arith
longest-put k d (member l e ms) n key value rest =
    either_members _ (member k d (member l e ms)) (member l d ms) (member l e (put k d ms)) n (omega arith) (omega arith)
    (omega (arith, longest-put k d ms n key value (omega arith)))

mutual
  longest-of_json : (j : json.Json) (n : ℕ) → parsed.longest j ≤ n → AtMost longest n (of_json j)
  longest-of_json json.null n short = omega arith
  longest-of_json (json.boolean b) n short = omega arith
  longest-of_json (json.number s) n short = AtMost-map (λ _. 0) longest 0 n number (λ a small. omega arith) (number_of s) (no_text _)
  longest-of_json (json.string s) n short = short
  longest-of_json (json.array js) n short = AtMost-map items_longest longest n n array (λ ds small. small) _ (longest-of_items js n short)
  longest-of_json (json.object ms) n short =
      AtMost-map members_longest longest n n object (λ ds small. small) _ (longest-of_members ms no_members n short (omega arith))

  longest-of_items : (js : json.Items) (n : ℕ) → parsed.items_longest js ≤ n → AtMost items_longest n (of_items js)
  longest-of_items json.no_items n short = omega arith
  longest-of_items (json.item j js) n short =
      AtMost-and_then longest items_longest n n _
      (λ d small. AtMost-map items_longest items_longest n n (item d) (λ ds rest. omega arith) _ (longest-of_items js n (omega arith))) _
      (longest-of_json j n (omega arith))

  longest-of_members : (ms : json.Members) (found : Members) (n : ℕ) → parsed.members_longest ms ≤ n → members_longest found ≤ n →
      AtMost members_longest n (of_members ms found)
  longest-of_members json.no_members found n short before = before
  longest-of_members (json.member k j ms) found n short before =
      AtMost-and_then longest members_longest n n _
      (λ d small. longest-of_members ms (put k d found) n (omega arith) (longest-put k d found n (omega arith) small before)) _
      (longest-of_json j n (omega arith))

last_short : (o : Option (json.Json × List Token)) (n : ℕ) → parsed.IsShort parsed.longest n o →
    AtMost parsed.longest n (option_and_then (λ p. json.if_last p.0 p.1) o)
last_short None n short = tt
last_short (Some (j, [])) n short = short.0
last_short (Some (j, t ∷ r)) n short = tt

-- no text of a value is longer than the bytes that it was read from
pub longest-read : (bytes : List ℕ) (d : Data) → read bytes ≡ Some d → longest d ≤ length bytes
longest-read bytes d is =
    let n = length bytes in
    subst (λ (o : Option Data). AtMost longest n o) is
    (AtMost-and_then parsed.longest longest n n of_json (λ j small. longest-of_json j n small) _
    (last_short _ n (parsed.short_value n max_depth (tokens bytes) (tokens_text bytes))))
