-- What holds of lines that are answered one after another, whatever the rule.
use Rattle.std.proofs.Common.{◌≡◌, List, [], ◌∷◌, ◌++◌, length, refl, sym, ◌∙◌, ap, subst, append_assoc, arith}
use Rattle.std.specs.Option.{option_to_list}
use Rattle.std.proofs.lemmas.List.{append-nil}
use Rattle.std.proofs.lemmas.List.Concat.{flat_map-append}
use Rattle.question_plan.specs.Session.{Replied, records_of, bytes_of, AreReplies}

-- at most one reply is due to a line after a history
abbrev pub MakesOneDue : {R L : Type 0} → (List R → L → Replied R → Type 0) → Type 0
MakesOneDue {R} {L} rule = (history : List R) (line : L) (a b : Replied R) → rule history line a → rule history line b → a ≡ b

-- the records and the bytes of replies after others
pub records_of-append : {R : Type 0} (xs ys : List (Replied R)) → records_of (xs ++ ys) ≡ records_of xs ++ records_of ys
records_of-append xs ys = flat_map-append (λ reply. option_to_list reply.added) xs ys

pub bytes_of-append : {R : Type 0} (xs ys : List (Replied R)) → bytes_of (xs ++ ys) ≡ bytes_of xs ++ bytes_of ys
bytes_of-append xs ys = flat_map-append (λ reply. reply.bytes) xs ys

module _ {R L : Type 0} (rule : List R → L → Replied R → Type 0) where
  -- each line has one reply
  pub length-replies : (history : List R) (lines : List L) (replies : List (Replied R)) → AreReplies rule history lines replies → length replies ≡ length lines
  length-replies history [] [] are = refl
  length-replies history [] (reply ∷ replies) are = absurd are
  length-replies history (line ∷ lines) [] are = absurd are
  length-replies history (line ∷ lines) (reply ∷ replies) are = omega (arith, length-replies (history ++ option_to_list reply.added) lines replies are.1)

  -- some lines, and then others
  pub replies-append : (history : List R) (lines more : List L) (replies behind : List (Replied R)) → AreReplies rule history lines replies → AreReplies rule (history ++ records_of replies) more behind → AreReplies rule history (lines ++ more) (replies ++ behind)
  replies-append history [] more [] behind are later = subst (λ (h : List R). AreReplies rule h more behind) (append-nil history) later
  replies-append history [] more (reply ∷ replies) behind are later = absurd are
  replies-append history (line ∷ lines) more [] behind are later = absurd are
  replies-append history (line ∷ lines) more (reply ∷ replies) behind are later = (
    are.0,
    replies-append (history ++ option_to_list reply.added) lines more replies behind are.1
        (subst (λ (h : List R). AreReplies rule h more behind) (sym (append_assoc history (option_to_list reply.added) (records_of replies))) later),
  )

  module _ (one : MakesOneDue rule) where
    -- lines have one list of replies
    pub same_replies : (history : List R) (lines : List L) (replies others : List (Replied R)) → AreReplies rule history lines replies → AreReplies rule history lines others → replies ≡ others
    same_replies history [] [] [] are those = refl
    same_replies history [] [] (b ∷ others) are those = absurd those
    same_replies history [] (a ∷ replies) others are those = absurd are
    same_replies history (line ∷ lines) [] others are those = absurd are
    same_replies history (line ∷ lines) (a ∷ replies) [] are those = absurd those
    same_replies history (line ∷ lines) (a ∷ replies) (b ∷ others) are those =
        let e : a ≡ b = one history line a b are.0 those.0 in
        let rest : replies ≡ others = same_replies (history ++ option_to_list a.added) lines replies others are.1
        (subst (λ (r : Replied R). AreReplies rule (history ++ option_to_list r.added) lines others) (sym e) those.1) in
        ap (λ (rs : List (Replied R)). a ∷ rs) rest ∙ ap (λ (r : Replied R). r ∷ others) e

    -- if no reply is due to the line after them, lines with that one have no replies
    pub none_behind : (history : List R) (lines : List L) (next : L) (replies : List (Replied R)) → AreReplies rule history lines replies → ((reply : Replied R) → rule (history ++ records_of replies) next reply → ⊥)
        → (all : List (Replied R)) → AreReplies rule history (lines ++ next ∷ []) all → ⊥
    none_behind history [] next [] are none [] those = those
    none_behind history [] next [] are none (b ∷ others) those = none b (subst (λ (h : List R). rule h next b) (sym (append-nil history)) those.0)
    none_behind history [] next (a ∷ replies) are none all those = absurd are
    none_behind history (line ∷ lines) next [] are none all those = absurd are
    none_behind history (line ∷ lines) next (a ∷ replies) are none [] those = those
    none_behind history (line ∷ lines) next (a ∷ replies) are none (b ∷ others) those =
        let e : a ≡ b = one history line a b are.0 those.0 in
        none_behind (history ++ option_to_list a.added) lines next replies are.1
        (λ reply is. none reply (subst (λ (h : List R). rule h next reply) (append_assoc history (option_to_list a.added) (records_of replies)) is)) others
        (subst (λ (r : Replied R). AreReplies rule (history ++ option_to_list r.added) (lines ++ next ∷ []) others) (sym e) those.1)
