-- A line that is read as no form of reply isn't a reply.
use Rattle.std.proofs.Common.{◌≡◌, ℕ, ℤ, List, [], ◌∷◌, Option, Some, None, IfSome, IfNone, ap, arith}
use Rattle.std.specs.List.{All}
use Rattle.line_wire.specs.Reply.{IsReply}
use Rattle.line_wire.specs.declared.reply.Reply.{Reply}
use Rattle.line_wire.specs.declared.reply.Reply.TheVariants.{Count, Sum, Avg, Max, Min, Unsafe, Wide, Line, Long, Column, Kind, Condition, Empty, Full}
use Rattle.line_wire.proofs.OneReply.{one_reply}

-- the replies that are one word
abbrev pub words : List Reply
words = Unsafe ∷ Wide ∷ Line ∷ Long ∷ Column ∷ Kind ∷ Empty ∷ Full ∷ []

-- a line that is of none of the forms that come before the last one
pub record IsNoOther (line : List ℕ) : Type 0 where
  pub sum : (sum : ℤ) → IsReply line (Sum sum) → ⊥
  pub max : (max : ℤ) → IsReply line (Max max) → ⊥
  pub min : (min : ℤ) → IsReply line (Min min) → ⊥
  pub word : All (λ reply. IsReply line reply → ⊥) words
  pub count : (count : ℕ) → IsReply line (Count count) → ⊥
  pub average : (num : ℤ) (den : ℕ) → IsReply line (Avg num den) → ⊥

-- each form was tried
no_reply : (line : List ℕ) (r : Reply) → IsNoOther line → ((at : ℕ) → IsReply line (Condition at) → ⊥) → IsReply line r → ⊥
no_reply line (Count count) none last = none.count count
no_reply line (Sum sum) none last = none.sum sum
no_reply line (Avg num den) none last = none.average num den
no_reply line (Max max) none last = none.max max
no_reply line (Min min) none last = none.min min
no_reply line Unsafe none last = none.word 0 Unsafe (omega arith)
no_reply line Wide none last = none.word 1 Wide (omega arith)
no_reply line Line none last = none.word 2 Line (omega arith)
no_reply line Long none last = none.word 3 Long (omega arith)
no_reply line Column none last = none.word 4 Column (omega arith)
no_reply line Kind none last = none.word 5 Kind (omega arith)
no_reply line (Condition at) none last = last at
no_reply line Empty none last = none.word 6 Empty (omega arith)
no_reply line Full none last = none.word 7 Full (omega arith)

-- a reply that is read is the line's only one
pub only_reply : (line : List ℕ) (r : Reply) → IsReply line r → (s : Reply) → IsReply line s → Some r ≡ Some s
only_reply line r read s is = ap Some (one_reply line r s read is)

-- a line's reply is the one that the last form reads, if it is of no other
pub last_reply : (line : List ℕ) (r : Option Reply) → IsNoOther line → IfSome r (IsReply line) → IfNone r ((at : ℕ) → IsReply line (Condition at) → ⊥) →
    (s : Reply) → IsReply line s → r ≡ Some s
last_reply line None none read last s is = absurd (no_reply line s none last is)
last_reply line (Some reply) none read last s is = only_reply line reply read s is
