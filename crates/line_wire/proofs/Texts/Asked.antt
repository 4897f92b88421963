-- The condition of a question is no longer than the longest text of the value that writes it.
use Rattle.std.proofs.Common.{◌≡◌, ℕ, ◌≤◌, ◌&&◌, List, length, Option, Some, None, option_and_then, option_map, Ordering, Less, Equal, Greater, codes, subst, arith}
use Rattle.std.specs.Ordering.{match_ordering}
use Rattle.serde_json.specs.Data.{Data, null, boolean, number, string, array, object, Members, no_members, member}
use Rattle.serde_json.specs.Find.{get_member, get, as_str, as_object}
use Rattle.line_wire.specs.Texts.{longest, members_longest}
use Rattle.line_wire.specs.Questions.{Written, taken, text_of, has_known_keys, may_be_text, with_column, asked_with, question_in}
use Rattle.line_wire.specs.declared.question.Ask.{Ask}
use Rattle.line_wire.specs.declared.question.Ask.TheVariants.{Count, Of}
use Rattle.line_wire.specs.declared.question.Take.{Take}
use Rattle.line_wire.proofs.Texts.Content.{AtMost, AtMost-and_then, either}

either_value : (o : Ordering) (a b c : Option Data) (n : ℕ) → AtMost longest n a → AtMost longest n b → AtMost longest n c →
    AtMost longest n (match_ordering o a b c)
either_value Less a b c n p q r = p
either_value Equal a b c n p q r = q
either_value Greater a b c n p q r = r

longest-get_member : (k : List ℕ) (ms : Members) (n : ℕ) → members_longest ms ≤ n → AtMost longest n (get_member k ms)
longest-get_member k no_members n short = tt
longest-get_member k (member l e ms) n short =
    let rest = longest-get_member k ms n (omega arith) in
    either_value _ (get_member k ms) (Some e) (get_member k ms) n rest (omega arith) rest

longest-get : (k : List ℕ) (d : Data) → AtMost longest (longest d) (get k d)
longest-get k null = tt
longest-get k (boolean b) = tt
longest-get k (number x) = tt
longest-get k (string s) = tt
longest-get k (array ds) = tt
longest-get k (object ms) = longest-get_member k ms (members_longest ms) (omega arith)

length-as_str : (d : Data) (n : ℕ) → longest d ≤ n → AtMost length n (as_str d)
length-as_str null n short = tt
length-as_str (boolean b) n short = tt
length-as_str (number x) n short = tt
length-as_str (string s) n short = short
length-as_str (array ds) n short = tt
length-as_str (object ms) n short = tt

-- the length of a question's condition
abbrev condition_len : Written → ℕ
condition_len w = length (text_of w)

taken_text : (take : Take) (name : Option (List ℕ)) (text : List ℕ) (n : ℕ) → length text ≤ n →
    AtMost condition_len n (option_map (λ c. taken take c text) name)
taken_text take None text n short = tt
taken_text take (Some name) text n short = short

with_column_text : (ask : Ask) (column : Option Data) (text : List ℕ) (n : ℕ) → length text ≤ n → AtMost condition_len n (with_column ask column text)
with_column_text Count None text n short = short
with_column_text Count (Some d) text n short = tt
with_column_text (Of take) column text n short = taken_text take (option_and_then as_str column) text n short

asked_text : (text : Option (List ℕ)) (ask : Option Ask) (column : Option Data) (n : ℕ) → AtMost length n text →
    AtMost condition_len n (asked_with text ask column)
asked_text None ask column n short = tt
asked_text (Some text) None column n short = tt
asked_text (Some text) (Some ask) column n short = with_column_text ask column text n short

question_text : (d : Data) → AtMost condition_len (longest d) (question_in d)
unfolding question_in
question_text d = either condition_len (longest d) (has_known_keys (as_object d) && may_be_text (get (codes "user") d)) _ None
    (asked_text _ _ (get (codes "column") d) (longest d) (AtMost-and_then longest length (longest d) (longest d) as_str
    (λ e short. length-as_str e (longest d) short) (get (codes "where") d) (longest-get (codes "where") d))) tt

-- a value's question has no longer condition
pub condition_within : (d : Data) (w : Written) (n m : ℕ) → question_in d ≡ Some w → longest d ≤ n → n ≤ m → length (text_of w) ≤ m
condition_within d w n m writes short room =
    let text : length (text_of w) ≤ longest d = subst (λ (o : Option Written). AtMost condition_len (longest d) o) writes (question_text d) in
    omega (arith, text, short)
