-- No line is two replies'.
use Rattle.std.proofs.Common.{◌+◌, if◌then◌else◌, ◌==◌, slice_index, ◌≡◌, ◌<◌, ◌^◌, ◌*◌, ℕ, ℤ, List, ◌++◌, codes, decimal, unsigned_abs, refl, sym, ap, ◌∙◌, arith}
use Rattle.std.specs.Fmt.{signed_decimal}
use Rattle.std.proofs.lemmas.Fmt.{decimal_injective, signed_decimal_injective}
use Rattle.std.proofs.lemmas.List.{append_cancel_left, append_cancel_right}
use Rattle.line_wire.specs.Reply.{IsReply, IsInRange, reply_bytes, numbered, average}
use Rattle.line_wire.specs.declared.reply.Reply.{Reply}
use Rattle.line_wire.specs.declared.reply.Reply.TheVariants.{Count, Sum, Avg, Max, Min, Unsafe, Wide, Line, Long, Column, Kind, Condition, Empty, Full}
use Rattle.line_wire.proofs.ReplyParts.{mag_below}
use Rattle.line_wire.proofs.Commas.{front_of, rest_of, average_parts, commaless-front_of, same_parts}

-- the number that is after a front
same_number : (front a b : List ℕ) → numbered front a ≡ numbered front b → a ≡ b
same_number front a b is = append_cancel_left front a b (append_cancel_right (front ++ a) (front ++ b) (codes "}\n") is)

-- which reply bytes are: the third and the fourth one tell it, or the first ones of a denial's or a refusal's word
abbrev mark : List ℕ → ℕ
mark bytes =
    if slice_index bytes 2 == 100 then slice_index bytes 11 else
    (if slice_index bytes 2 == 114 then slice_index bytes 12 * 256 + slice_index bytes 13 else slice_index bytes 2 + slice_index bytes 3)

abbrev mark_of : Reply → ℕ
mark_of (Count a) = 210
mark_of (Sum a) = 232
mark_of (Avg a da) = 227
mark_of (Max a) = 206
mark_of (Min a) = 214
mark_of Unsafe = 117
mark_of Wide = 119
mark_of Line = 27753
mark_of Long = 27759
mark_of Column = 25455
mark_of Kind = 27497
mark_of (Condition a) = 30568
mark_of Empty = 25965
mark_of Full = 26229

mark-reply_bytes : (r : Reply) → mark (reply_bytes r) ≡ mark_of r
mark-reply_bytes (Count a) = refl
mark-reply_bytes (Sum a) = refl
mark-reply_bytes (Avg a da) = refl
mark-reply_bytes (Max a) = refl
mark-reply_bytes (Min a) = refl
mark-reply_bytes Unsafe = refl
mark-reply_bytes Wide = refl
mark-reply_bytes Line = refl
mark-reply_bytes Long = refl
mark-reply_bytes Column = refl
mark-reply_bytes Kind = refl
mark-reply_bytes (Condition a) = refl
mark-reply_bytes Empty = refl
mark-reply_bytes Full = refl

-- the numerator and the denominator
same_average : (a b : ℤ) (c d : ℕ) → unsigned_abs a < 2 ^ 63 → unsigned_abs b < 2 ^ 63 → c < 2 ^ 64 → d < 2 ^ 64 → average a c ≡ average b d → (a ≡ b) × (c ≡ d)
same_average a b c d low high small short is =
    let parts : (front_of a ≡ front_of b) × (rest_of c (codes "}\n") ≡ rest_of d (codes "}\n")) =
    same_parts (front_of a) (front_of b) (rest_of c (codes "}\n")) (rest_of d (codes "}\n")) (commaless-front_of a low) (commaless-front_of b high)
    (sym (average_parts a c) ∙ is ∙ average_parts b d) in (
      signed_decimal_injective a b (mag_below a low) (mag_below b high) (append_cancel_left (codes "{\"num\":") (signed_decimal a) (signed_decimal b) parts.0),
      decimal_injective c d small short (append_cancel_right (decimal c) (decimal d) (codes "}\n")
          (append_cancel_left (codes "\"den\":") (decimal c ++ codes "}\n") (decimal d ++ codes "}\n") parts.1)),
    )

by_mark : (r s : Reply) → mark_of r ≡ mark_of s → IsInRange r → IsInRange s → reply_bytes r ≡ reply_bytes s → r ≡ s
by_mark (Count a) (Count b) _ low high is =
    ap Count (decimal_injective a b (omega (arith, low)) (omega (arith, high)) (same_number (codes "{\"count\":") (decimal a) (decimal b) is))
by_mark (Count a) s marks _ _ _ = absurd (omega arith)
by_mark (Sum a) (Sum b) _ low high is =
    ap Sum
    (signed_decimal_injective a b (mag_below a (omega (arith, low))) (mag_below b (omega (arith, high)))
    (same_number (codes "{\"sum\":") (signed_decimal a) (signed_decimal b) is))
by_mark (Sum a) s marks _ _ _ = absurd (omega arith)
by_mark (Avg a c) (Avg b d) _ low high is =
    let parts : (a ≡ b) × (c ≡ d) = same_average a b c d (omega (arith, low.within)) (omega (arith, high.within)) (omega (arith, low.people))
    (omega (arith, high.people)) is in
    (λ i. Avg (parts.0 i) (parts.1 i))
by_mark (Avg a da) s marks _ _ _ = absurd (omega arith)
by_mark (Max a) (Max b) _ low high is =
    ap Max
    (signed_decimal_injective a b (mag_below a (omega (arith, low))) (mag_below b (omega (arith, high)))
    (same_number (codes "{\"max\":") (signed_decimal a) (signed_decimal b) is))
by_mark (Max a) s marks _ _ _ = absurd (omega arith)
by_mark (Min a) (Min b) _ low high is =
    ap Min
    (signed_decimal_injective a b (mag_below a (omega (arith, low))) (mag_below b (omega (arith, high)))
    (same_number (codes "{\"min\":") (signed_decimal a) (signed_decimal b) is))
by_mark (Min a) s marks _ _ _ = absurd (omega arith)
by_mark Unsafe Unsafe _ _ _ _ = refl
by_mark Unsafe s marks _ _ _ = absurd (omega arith)
by_mark Wide Wide _ _ _ _ = refl
by_mark Wide s marks _ _ _ = absurd (omega arith)
by_mark Line Line _ _ _ _ = refl
by_mark Line s marks _ _ _ = absurd (omega arith)
by_mark Long Long _ _ _ _ = refl
by_mark Long s marks _ _ _ = absurd (omega arith)
by_mark Column Column _ _ _ _ = refl
by_mark Column s marks _ _ _ = absurd (omega arith)
by_mark Kind Kind _ _ _ _ = refl
by_mark Kind s marks _ _ _ = absurd (omega arith)
by_mark (Condition a) (Condition b) _ low high is =
    ap Condition
    (decimal_injective a b (omega (arith, low)) (omega (arith, high)) (same_number (codes "{\"refused\":\"where\",\"at\":") (decimal a) (decimal b) is))
by_mark (Condition a) s marks _ _ _ = absurd (omega arith)
by_mark Empty Empty _ _ _ _ = refl
by_mark Empty s marks _ _ _ = absurd (omega arith)
by_mark Full Full _ _ _ _ = refl
by_mark Full s marks _ _ _ = absurd (omega arith)

-- a line is at most one reply's
pub one_reply : (line : List ℕ) (r s : Reply) → IsReply line r → IsReply line s → r ≡ s
one_reply line r s first second =
    let is : reply_bytes r ≡ reply_bytes s = sym first.bytes ∙ second.bytes in
    by_mark r s (sym (mark-reply_bytes r) ∙ ap mark is ∙ mark-reply_bytes s) first.range second.range is
