-- Of two stops of sessions over the same lines one history begins the other.
use Rattle.std.proofs.Common.{◌≡◌, ℕ, ◌*◌, ◌≤◌, List, ◌++◌, take, drop, sym, ◌∙◌, ap, subst, append_assoc, take-append-drop, arith, inl, inr, ◌⊎◌}
use Rattle.std.proofs.Math.Nat.{mul-le-mul_right}
use Rattle.std.proofs.lemmas.Bool.{cases_lt}
use Rattle.audit_types.specs.declared.records.Answered.{Answered}
use Rattle.table_load.specs.Database.{Database}
use Rattle.line_wire.specs.Lines.{CountedLine}
use Rattle.question_plan.specs.Session.{Replied, records_of, AreReplies, groups}
use Rattle.question_plan.specs.Replies.{IsDue}
use Rattle.question_plan.specs.InTurn.{records_of-append}
use Rattle.audit_session.specs.Stops.{IsFront, Stop, stands_over}
use Rattle.audit_session.proofs.KeptBeforeSent.{first_replies}

-- a history with the records of the first replies begins that with the records of all
first_records : (history : List Answered) (n : ℕ) (replies : List (Replied Answered))
    → IsFront (history ++ records_of (take n replies)) (history ++ records_of replies)
first_records history n replies = record {
  rest = records_of (drop n replies);
  is = ap (λ (rs : List (Replied Answered)). history ++ records_of rs) (sym (take-append-drop n replies))
      ∙ ap (λ (l : List Answered). history ++ l) (records_of-append (take n replies) (drop n replies))
      ∙ sym (append_assoc history (records_of (take n replies)) (records_of (drop n replies)));
}

module _ (base : Database)
    (same : (history : List Answered) (lines : List CountedLine) (replies others : List (Replied Answered)) → AreReplies (IsDue base) history lines replies →
    AreReplies (IsDue base) history lines others → replies ≡ others)
    (batch : ℕ) (history : List Answered) (lines : List CountedLine)
  where
    -- the replies to fewer groups are the first of those to more
    fewer_groups : (few many : ℕ) (replies others : List (Replied Answered)) → few ≤ many → AreReplies (IsDue base) history (groups batch few lines) replies
        → AreReplies (IsDue base) history (groups batch many lines) others → IsFront (history ++ records_of replies) (history ++ records_of others)
    fewer_groups few many replies others le are those =
        let here : take (few * batch) others ≡ replies =
        sym (same history (groups batch few lines) replies (take (few * batch) others) are
        (first_replies (IsDue base) history (few * batch) (many * batch) lines others (mul-le-mul_right batch le) those)) in
        subst (λ (rs : List (Replied Answered)). IsFront (history ++ records_of rs) (history ++ records_of others)) here
        (first_records history (few * batch) others)

    pub in_order : (image sent other left : List ℕ) (one : Stop (IsDue base) (stands_over base) batch history lines image sent)
        (two : Stop (IsDue base) (stands_over base) batch history lines other left)
        → IsFront (history ++ records_of one.replies) (history ++ records_of two.replies)
        ⊎ IsFront (history ++ records_of two.replies) (history ++ records_of one.replies)
    in_order image sent other left one two = elim (cases_lt one.count two.count) [
      | inl fewer ↦ inl (fewer_groups one.count two.count one.replies two.replies (omega (arith, fewer)) one.due two.due)
      | inr more ↦ inr (fewer_groups two.count one.count two.replies one.replies (omega (arith, more)) two.due one.due)
    ]
