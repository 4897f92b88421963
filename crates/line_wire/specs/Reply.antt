-- The bytes of a reply.
use Rattle.std.specs.Prelude.{◌≡◌, ◌≤◌, ℕ, ℤ, unsigned_abs, List, [], ◌∷◌, ◌++◌, codes, decimal}
use Rattle.std.specs.Fmt.{signed_decimal}
use Rattle.std.specs.Int.{IsGcd}
use Rattle.audit_types.specs.Limits.{most_number, most_answer}
use Rattle.line_wire.specs.declared.reply.Reply.{Reply}
use Rattle.line_wire.specs.declared.reply.Reply.TheVariants.{Count, Sum, Avg, Max, Min, Unsafe, Wide, Line, Long, Column, Kind, Condition, Empty, Full}

-- a number after what names it
abbrev pub numbered : List ℕ → List ℕ → List ℕ
numbered front number = front ++ number ++ codes "}\n"

-- an average by its numerator and its denominator
abbrev pub average : ℤ → ℕ → List ℕ
average num den = codes "{\"num\":" ++ signed_decimal num ++ codes ",\"den\":" ++ decimal den ++ codes "}\n"

-- a denial by its word
abbrev pub denied : List ℕ → List ℕ
denied why = codes "{\"denied\":\"" ++ why ++ codes "\"}\n"

-- a refusal by its word
abbrev pub refused : List ℕ → List ℕ
refused why = codes "{\"refused\":\"" ++ why ++ codes "\"}\n"

-- the one line of each reply, its line feed included
abbrev pub reply_bytes : Reply → List ℕ
reply_bytes (Count count) = numbered (codes "{\"count\":") (decimal count)
reply_bytes (Sum sum) = numbered (codes "{\"sum\":") (signed_decimal sum)
reply_bytes (Avg num den) = average num den
reply_bytes (Max max) = numbered (codes "{\"max\":") (signed_decimal max)
reply_bytes (Min min) = numbered (codes "{\"min\":") (signed_decimal min)
reply_bytes Unsafe = denied (codes "unsafe")
reply_bytes Wide = denied (codes "wide")
reply_bytes Line = refused (codes "line")
reply_bytes Long = refused (codes "long")
reply_bytes Column = refused (codes "column")
reply_bytes Kind = refused (codes "kind")
reply_bytes (Condition at) = numbered (codes "{\"refused\":\"where\",\"at\":") (decimal at)
reply_bytes Empty = refused (codes "empty")
reply_bytes Full = refused (codes "full")

-- an average over at most most_rows rows, of at most most_number people and most_number in size each, in lowest terms: no number above 1 divides both
pub record IsAverage (num : ℤ) (den : ℕ) : Type 0 where
  pub within : unsigned_abs num ≤ most_answer
  pub positive : 1 ≤ den
  pub people : den ≤ most_answer
  pub lowest : IsGcd (unsigned_abs num) den 1

-- a reply that may be written: a table has at most most_rows rows, each of at most most_number people and numbers of at most that
-- either way, and a condition has at most 8,192 bytes
abbrev pub IsInRange : Reply → Type 0
IsInRange (Count count) = count ≤ most_answer
IsInRange (Sum sum) = unsigned_abs sum ≤ most_answer
IsInRange (Avg num den) = IsAverage num den
IsInRange (Max max) = unsigned_abs max ≤ most_number
IsInRange (Min min) = unsigned_abs min ≤ most_number
IsInRange Unsafe = Unit {0}
IsInRange Wide = Unit {0}
IsInRange Line = Unit {0}
IsInRange Long = Unit {0}
IsInRange Column = Unit {0}
IsInRange Kind = Unit {0}
IsInRange (Condition at) = at ≤ 8192
IsInRange Empty = Unit {0}
IsInRange Full = Unit {0}

-- a line, without its line feed, is this reply's
pub record IsReply (line : List ℕ) (r : Reply) : Type 0 where
  pub range : IsInRange r
  pub bytes : line ++ 10 ∷ [] ≡ reply_bytes r
