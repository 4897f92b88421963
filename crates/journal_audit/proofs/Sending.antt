-- What was sent of a report's lines, and what more of them makes of it.
use Rattle.std.proofs.Common.{◌≡◌, ℕ, ◌+◌, List, [], ◌∷◌, ◌++◌, length, take, refl, sym, ap, ◌∙◌, subst, append_assoc, arith, length-append}
use Rattle.std.proofs.lemmas.List.{append-nil}
use Rattle.std.proofs.Math.Seq.{take-append-add}
use Rattle.std.specs.List.{concat}
use Rattle.bench_core.specs.Bench.{AppendsFront}
use Rattle.journal_audit.specs.Reports.{Audit, Subject, HasLine, IsLineOn, AreLinesOn, Sends, SendsFront, TakesOneEach}
use Rattle.journal_audit.specs.Reports.AreLinesOn.{none, one, left_out}
use Rattle.std.proofs.lemmas.List.Folds.{concat-append}

-- lines on these, after lines on others
pub lines-append : (audit : Audit) (xs ys : List Subject) (ls ms : List (List ℕ)) → AreLinesOn audit xs ls → AreLinesOn audit ys ms →
    AreLinesOn audit (xs ++ ys) (ls ++ ms)
lines-append audit xs ys ls ms none second = second
lines-append audit xs ys ls ms (one {about} {lines} subject line has is first) second =
    one subject line has is (lines-append audit about ys lines ms first second)
lines-append audit xs ys ls ms (left_out {about} {lines} subject lacks first) second =
    left_out subject lacks (lines-append audit about ys lines ms first second)

-- nothing is sent of no line
pub none_sent : (audit : Audit) (bytes : List ℕ) → Sends audit [] bytes bytes
none_sent audit bytes = record { lines = []; are = none; sent_is = sym (append-nil bytes) }

-- the line on this was sent
pub one_sent : (audit : Audit) (subject : Subject) (line before after : List ℕ) → HasLine audit subject → IsLineOn audit subject line →
    after ≡ before ++ line → Sends audit (subject ∷ []) before after
one_sent audit subject line before after has is sent =
    record { lines = line ∷ []; are = one subject line has is none; sent_is = sent ∙ ap (λ l. before ++ l) (sym (append-nil line)) }

-- a front of it was
pub one_front : (audit : Audit) (subject : Subject) (line before after : List ℕ) → HasLine audit subject → IsLineOn audit subject line →
    AppendsFront before line after → SendsFront audit (subject ∷ []) before after
one_front audit subject line before after has is sent = record {
  first = subject ∷ [];
  others = [];
  all = refl;
  lines = line ∷ [];
  are = one subject line has is none;
  sent = subst (λ l. AppendsFront before l after) (sym (append-nil line)) sent;
}

-- lines and then more lines
pub sent_then : (audit : Audit) (xs ys : List Subject) (a b c : List ℕ) → Sends audit xs a b → Sends audit ys b c → Sends audit (xs ++ ys) a c
sent_then audit xs ys a b c first second = record {
  lines = first.lines ++ second.lines;
  are = lines-append audit xs ys first.lines second.lines first.are second.are;
  sent_is =
      second.sent_is ∙ ap (λ l. l ++ concat second.lines) first.sent_is ∙ append_assoc a (concat first.lines) (concat second.lines)
      ∙ ap (λ l. a ++ l) (sym (concat-append first.lines second.lines));
}

-- a front of the first lines is one of all
pub front_of_more : (audit : Audit) (xs ys : List Subject) (a b : List ℕ) → SendsFront audit xs a b → SendsFront audit (xs ++ ys) a b
front_of_more audit xs ys a b front = record {
  first = front.first;
  others = front.others ++ ys;
  all = ap (λ l. l ++ ys) front.all ∙ append_assoc front.first front.others ys;
  lines = front.lines;
  are = front.are;
  sent = front.sent;
}

-- whole lines and then a front of more
pub then_front : (audit : Audit) (xs ys : List Subject) (a b c : List ℕ) → Sends audit xs a b → SendsFront audit ys b c → SendsFront audit (xs ++ ys) a c
then_front audit xs ys a b c sends front = record {
  first = xs ++ front.first;
  others = front.others;
  all = ap (λ l. xs ++ l) front.all ∙ sym (append_assoc xs front.first front.others);
  lines = sends.lines ++ front.lines;
  are = lines-append audit xs front.first sends.lines front.lines sends.are front.are;
  sent = (
    length (concat sends.lines) + front.sent.0,
    front.sent.1 ∙ ap (λ l. l ++ take front.sent.0 (concat front.lines)) sends.sent_is
        ∙ append_assoc a (concat sends.lines) (take front.sent.0 (concat front.lines))
        ∙ ap (λ l. a ++ l) (sym (take-append-add (concat sends.lines) (concat front.lines) front.sent.0)
        ∙ ap (λ l. take (length (concat sends.lines) + front.sent.0) l) (sym (concat-append sends.lines front.lines))),
  );
}

-- calls for the first lines and then for more
pub takes_both : (audit : Audit) (xs ys : List Subject) (a b c : ℕ) → TakesOneEach audit xs a b → TakesOneEach audit ys b c → TakesOneEach audit (xs ++ ys) a c
takes_both audit xs ys a b c first second = (
  first.0 ++ second.0,
  lines-append audit xs ys first.0 second.0 first.1 second.1,
  omega (arith, first.2, second.2, length-append first.0 second.0),
)
