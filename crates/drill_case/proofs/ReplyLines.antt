-- The bytes of a reply are one line: a line feed stands at their end, and nowhere else.
use Rattle.std.proofs.Common.{◌≡◌, ◌<◌, ℕ, zero, suc, ◌+◌, ◌/◌, ◌%◌, ℤ, pos, negsuc, Bool, true, false, not, cond, nat_lt, ◌==◌, List, [], ◌∷◌, ◌++◌, length, filter, codes, decimal, refl, sym, ap, ◌∙◌, subst, arith, append_assoc, length-append}
use Rattle.std.specs.Fmt.{digits, digits_onto, digit_glyph, signed_decimal}
use Rattle.std.specs.List.{AllByRecursion, list_all, slice_split, flat_map, onto_first}
use Rattle.std.proofs.lemmas.Bool.{ne_eqb, and_from, and_parts, not-true}
use Rattle.std.proofs.lemmas.List.Folds.{list_all-append}
use Rattle.line_wire.specs.Lines.{is_feed}
use Rattle.line_wire.specs.Reply.{reply_bytes, numbered, average}
use Rattle.line_wire.specs.declared.reply.Reply.{Reply}
use Rattle.line_wire.specs.declared.reply.Reply.TheVariants.{Count, Sum, Avg, Max, Min, Unsafe, Wide, Line, Long, Column, Kind, Condition, Empty, Full}
use Rattle.drill_case.specs.Tallies.{lines_in, IsReplyText}

-- no line feed stands in it
abbrev feedless : List ℕ → Bool
feedless bytes = list_all (λ b. not (is_feed b)) bytes

feedless-append : (xs ys : List ℕ) → feedless xs ≡ true → feedless ys ≡ true → feedless (xs ++ ys) ≡ true
feedless-append xs ys first second = list_all-append (λ b. not (is_feed b)) xs ys ∙ and_from _ _ first second

-- ---- numbers

glyph_here : (d : ℕ) (low : Bool) → not (is_feed (cond low (48 + d) (87 + d))) ≡ true
glyph_here d true = ap not (ne_eqb (48 + d) 10 (λ is. omega (arith, is)))
glyph_here d false = ap not (ne_eqb (87 + d) 10 (λ is. omega (arith, is)))

either : (low : Bool) (xs ys : List ℕ) → feedless xs ≡ true → feedless ys ≡ true → feedless (cond low xs ys) ≡ true
either true xs ys first second = first
either false xs ys first second = second

feedless-digits_onto : (most n : ℕ) (bytes : List ℕ) → feedless bytes ≡ true → feedless (digits_onto most 10 false n bytes) ≡ true
feedless-digits_onto zero n bytes is = is
feedless-digits_onto (suc most) n bytes is =
    let more = and_from _ _ (glyph_here (n % 10) (nat_lt (n % 10) 10)) is in
    either (n / 10 == 0) (digit_glyph false (n % 10) ∷ bytes) (digits_onto most 10 false (n / 10) (digit_glyph false (n % 10) ∷ bytes)) more
    (feedless-digits_onto most (n / 10) (digit_glyph false (n % 10) ∷ bytes) more)

feedless-decimal : (n : ℕ) → feedless (decimal n) ≡ true
unfolding digits
feedless-decimal n = feedless-digits_onto 64 n [] refl

feedless-signed_decimal : (z : ℤ) → feedless (signed_decimal z) ≡ true
feedless-signed_decimal (pos n) = feedless-decimal n
feedless-signed_decimal (negsuc n) = feedless-decimal (suc n)

-- ---- replies

-- bytes that are one line
record IsLine (bytes : List ℕ) : Type 0 where
  text : List ℕ
  ends : bytes ≡ text ++ 10 ∷ []
  feedless : feedless text ≡ true
  some : 0 < length text

number_line : (name number : List ℕ) → feedless name ≡ true → 0 < length name → feedless number ≡ true → IsLine (numbered name number)
number_line name number named some digits = record {
  text = name ++ (number ++ codes "}");
  ends = sym (simp append_assoc);
  feedless = feedless-append name (number ++ codes "}") named (feedless-append number (codes "}") digits refl);
  some = omega (arith, some, length-append name (number ++ codes "}"));
}

average_line : (num : ℤ) (den : ℕ) → IsLine (average num den)
average_line num den = record {
  text = codes "{\"num\":" ++ (signed_decimal num ++ (codes ",\"den\":" ++ (decimal den ++ codes "}")));
  ends = sym (simp append_assoc);
  feedless = feedless-append (codes "{\"num\":") (signed_decimal num ++ (codes ",\"den\":" ++ (decimal den ++ codes "}"))) refl
      (feedless-append (signed_decimal num) (codes ",\"den\":" ++ (decimal den ++ codes "}")) (feedless-signed_decimal num)
      (feedless-append (codes ",\"den\":") (decimal den ++ codes "}") refl (feedless-append (decimal den) (codes "}") (feedless-decimal den) refl)));
  some = omega arith;
}

word_line : (text : List ℕ) → feedless text ≡ true → 0 < length text → IsLine (text ++ 10 ∷ [])
word_line text is some = record { text = text; ends = refl; feedless = is; some = some }

reply_line : (r : Reply) → IsLine (reply_bytes r)
reply_line (Count count) = number_line (codes "{\"count\":") (decimal count) refl (omega arith) (feedless-decimal count)
reply_line (Sum sum) = number_line (codes "{\"sum\":") (signed_decimal sum) refl (omega arith) (feedless-signed_decimal sum)
reply_line (Avg num den) = average_line num den
reply_line (Max max) = number_line (codes "{\"max\":") (signed_decimal max) refl (omega arith) (feedless-signed_decimal max)
reply_line (Min min) = number_line (codes "{\"min\":") (signed_decimal min) refl (omega arith) (feedless-signed_decimal min)
reply_line Unsafe = word_line (codes "{\"denied\":\"unsafe\"}") refl (omega arith)
reply_line Wide = word_line (codes "{\"denied\":\"wide\"}") refl (omega arith)
reply_line Line = word_line (codes "{\"refused\":\"line\"}") refl (omega arith)
reply_line Long = word_line (codes "{\"refused\":\"long\"}") refl (omega arith)
reply_line Column = word_line (codes "{\"refused\":\"column\"}") refl (omega arith)
reply_line Kind = word_line (codes "{\"refused\":\"kind\"}") refl (omega arith)
reply_line (Condition at) = number_line (codes "{\"refused\":\"where\",\"at\":") (decimal at) refl (omega arith) (feedless-decimal at)
reply_line Empty = word_line (codes "{\"refused\":\"empty\"}") refl (omega arith)
reply_line Full = word_line (codes "{\"refused\":\"full\"}") refl (omega arith)

-- ---- replies one after another

split_after : (text rest : List ℕ) → feedless text ≡ true → slice_split is_feed (text ++ 10 ∷ rest) ≡ text ∷ slice_split is_feed rest
split_after [] rest is = refl
split_after (b ∷ text) rest is =
    let parts = and_parts (not (is_feed b)) (feedless text) is in
    let same : is_feed b ≡ false = not-true (is_feed b) parts.0 in
    ap (λ (feed : Bool). cond feed ([] ∷ slice_split is_feed (text ++ 10 ∷ rest)) (onto_first b (slice_split is_feed (text ++ 10 ∷ rest)))) same
    ∙ ap (onto_first b) (split_after text rest parts.1)

one_more : (bytes rest : List ℕ) → IsLine bytes → length (lines_in (bytes ++ rest)) ≡ length (lines_in rest) + 1
one_more bytes rest line =
    let text = line.text in
    let joined : bytes ++ rest ≡ text ++ 10 ∷ rest = ap (λ (l : List ℕ). l ++ rest) line.ends ∙ append_assoc text (10 ∷ []) rest in
    let some : (length text == 0) ≡ false = ne_eqb (length text) 0 (λ is. omega (arith, is, line.some)) in
    let parts = ap (slice_split is_feed) joined ∙ split_after text rest line.feedless in
    ap (λ (ps : List (List ℕ)). length (filter (λ part. not (length part == 0)) ps)) parts
    ∙ ap (λ (empty : Bool). length (cond (not empty) (text ∷ lines_in rest) (lines_in rest))) some ∙ omega arith

pub lines_of_replies : (replies : List (List ℕ)) → AllByRecursion IsReplyText replies → length (lines_in (flat_map (λ reply. reply) replies)) ≡ length replies
lines_of_replies [] are = refl
lines_of_replies (bytes ∷ replies) are =
    omega (arith, one_more bytes (flat_map (λ reply. reply) replies) (subst IsLine (sym are.0.1) (reply_line are.0.0)), lines_of_replies replies are.1)
