-- How many of the lines that were sent say what.
use Rattle.std.specs.Prelude.{◌≡◌, ◌⊎◌, ℕ, Bool, true, false, not, List, ◌++◌, length, filter, count_by, codes, decimal, ◌==◌}
use Rattle.std.specs.List.{AllZip, slice_split}
use Rattle.line_wire.specs.Lines.{is_feed}
use Rattle.line_wire.specs.Reply.{reply_bytes, IsReply}
use Rattle.line_wire.specs.declared.reply.Reply.{Reply}
use Rattle.line_wire.specs.declared.reply.Reply.TheVariants as reply
use Rattle.drill_case.specs.declared.kinds.ReplyKind.{ReplyKind}
use Rattle.drill_case.specs.declared.kinds.ReplyKind.TheVariants.{Released, DeniedUnsafe, DeniedWide, Other}
use Rattle.drill_case.specs.declared.tallies.Tally.{Tally}

-- ---- the kinds of lines

-- what a reply tells
abbrev pub kind_of : Reply → ReplyKind
kind_of (reply.Count count) = Other
kind_of (reply.Sum sum) = Released
kind_of (reply.Avg num den) = Released
kind_of (reply.Max max) = Released
kind_of (reply.Min min) = Released
kind_of reply.Unsafe = DeniedUnsafe
kind_of reply.Wide = DeniedWide
kind_of reply.Line = Other
kind_of reply.Long = Other
kind_of reply.Column = Other
kind_of reply.Kind = Other
kind_of (reply.Condition at) = Other
kind_of reply.Empty = Other
kind_of reply.Full = Other

-- a line is of the kind of its reply; one that isn't a reply is another
abbrev pub HasKind : List ℕ → ReplyKind → Type 0
HasKind line kind = ((r : Reply) × IsReply line r × (kind ≡ kind_of r)) ⊎ (((r : Reply) → IsReply line r → ⊥) × (kind ≡ Other))

-- the kinds of some lines, in order
abbrev pub HaveKinds : List (List ℕ) → List ReplyKind → Type 0
HaveKinds lines kinds = AllZip HasKind lines kinds

-- ---- how many are of each

abbrev pub is_released : ReplyKind → Bool
is_released Released = true
is_released kind = false

abbrev pub is_unsafe : ReplyKind → Bool
is_unsafe DeniedUnsafe = true
is_unsafe kind = false

abbrev pub is_wide : ReplyKind → Bool
is_wide DeniedWide = true
is_wide kind = false

abbrev pub is_other : ReplyKind → Bool
is_other Other = true
is_other kind = false

-- a tally of kinds: each is counted, and counted once more by itself
pub record Counts (kinds : List ReplyKind) (tally : Tally) : Type 0 where
  pub asked : tally.asked ≡ length kinds
  pub released : tally.released ≡ count_by is_released kinds
  pub denied_unsafe : tally.denied_unsafe ≡ count_by is_unsafe kinds
  pub denied_wide : tally.denied_wide ≡ count_by is_wide kinds
  pub refused : tally.refused ≡ count_by is_other kinds

-- a tally of the kinds of lines
pub record IsTallyOf (lines : List (List ℕ)) (tally : Tally) : Type 0 where
  pub kinds : List ReplyKind
  pub are : HaveKinds lines kinds
  pub counts : Counts kinds tally

-- ---- the lines of some bytes

-- what stands between line feeds, if it isn't empty
abbrev pub lines_in : List ℕ → List (List ℕ)
lines_in bytes = filter (λ part. not (length part == 0)) (slice_split is_feed bytes)

-- these are the bytes of a reply
abbrev pub IsReplyText : List ℕ → Type 0
IsReplyText bytes = (r : Reply) × (bytes ≡ reply_bytes r)

-- ---- the summary

-- the line that tells a tally over so many rows
abbrev pub summary_line : ℕ → Tally → List ℕ
summary_line rows tally =
    codes "{\"rows\":" ++ decimal rows ++ codes ",\"asked\":" ++ decimal tally.asked ++ codes ",\"released\":" ++ decimal tally.released ++ codes ",\"unsafe\":" ++ decimal tally.denied_unsafe
    ++ codes ",\"wide\":" ++ decimal tally.denied_wide ++ codes ",\"refused\":" ++ decimal tally.refused ++ codes "}\n"
