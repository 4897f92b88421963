-- Facts on counted lines: what a line feed cuts off, and what stands after the last one.
use Rattle.std.proofs.Common.{◌≡◌, ℕ, zero, suc, ◌+◌, ◌<◌, ◌≤◌, List, [], ◌∷◌, ◌++◌, length, take, refl, sym, ◌∙◌, ap, arith, inl, inr, append_assoc, length-append}
use Rattle.std.specs.List.{slice_split, flat_map}
use Rattle.std.proofs.lemmas.List.{take_all, append-nil, length-take}
use Rattle.std.proofs.lemmas.List.Splits.{slice_split_at, slice_split_none, length-slice_split}
use Rattle.std.proofs.lemmas.Bool.{lt-ltb, cases_lt}
use Rattle.line_wire.specs.Lines.{CountedLine, long, is_feed, line_of, counted_lines, whole_lines, all_but_last, kept}
use Rattle.line_wire.specs.Cutter.{IsFeedless, IsPassedOver}

-- a piece with its line feed in front of an input
pub counted-piece : (piece behind : List ℕ) → IsFeedless piece → counted_lines (piece ++ 10 ∷ behind) ≡ line_of piece ++ counted_lines behind
counted-piece piece behind feedless = ap (λ (parts : List (List ℕ)). flat_map line_of parts) (slice_split_at is_feed piece 10 behind feedless refl)

-- an input without a line feed is at most one line
pub counted-last : (piece : List ℕ) → IsFeedless piece → counted_lines piece ≡ line_of piece
counted-last piece feedless = ap (λ (parts : List (List ℕ)). flat_map line_of parts) (slice_split_none is_feed piece feedless) ∙ append-nil (line_of piece)

-- all but the last of one more part
front-cons : (part : List ℕ) (parts : List (List ℕ)) → 0 < length parts → all_but_last (part ∷ parts) ≡ part ∷ all_but_last parts
front-cons part [] some = absurd (omega arith)
front-cons part (p ∷ parts) some = refl

-- the same of the lines whose line feed is there
pub whole-piece : (piece behind : List ℕ) → IsFeedless piece → whole_lines (piece ++ 10 ∷ behind) ≡ line_of piece ++ whole_lines behind
whole-piece piece behind feedless =
    ap (λ (parts : List (List ℕ)). flat_map line_of (all_but_last parts)) (slice_split_at is_feed piece 10 behind feedless refl)
    ∙ ap (λ (parts : List (List ℕ)). flat_map line_of parts) (front-cons piece (slice_split is_feed behind) (omega (arith, length-slice_split is_feed behind)))

-- an input without a line feed has no whole line
pub whole-last : (piece : List ℕ) → IsFeedless piece → whole_lines piece ≡ []
whole-last piece feedless = ap (λ (parts : List (List ℕ)). flat_map line_of (all_but_last parts)) (slice_split_none is_feed piece feedless)

-- nothing stands in front of the first line
pub passed-nil : IsPassedOver []
passed-nil = record { counted = λ behind. refl; whole = λ behind. refl }

-- a line feed joins the piece that it ends
regroup : (skipped piece behind : List ℕ) → (skipped ++ (piece ++ 10 ∷ [])) ++ behind ≡ skipped ++ (piece ++ 10 ∷ behind)
regroup skipped piece behind = simp append_assoc

-- a line that isn't counted joins what was passed over
pub passed-more : (skipped piece : List ℕ) → IsPassedOver skipped → IsFeedless piece → line_of piece ≡ [] → IsPassedOver (skipped ++ (piece ++ 10 ∷ []))
passed-more skipped piece passed feedless none = record {
  counted = λ behind. ap counted_lines (regroup skipped piece behind) ∙ passed.counted (piece ++ 10 ∷ behind) ∙ counted-piece piece behind feedless ∙ ap (λ (ls : List CountedLine). ls ++ counted_lines behind) none;
  whole = λ behind. ap whole_lines (regroup skipped piece behind) ∙ passed.whole (piece ++ 10 ∷ behind) ∙ whole-piece piece behind feedless ∙ ap (λ (ls : List CountedLine). ls ++ whole_lines behind) none;
}

-- more than 8,192 bytes count as a long line
line_of-long : (piece : List ℕ) → 8192 < length piece → line_of piece ≡ long ∷ []
line_of-long piece is = rw (lt-ltb 8192 (length piece) is) refl

-- one byte more than a line may have says what the whole counts as
front-line : (most : ℕ) (piece : List ℕ) → most ≡ 8193 → line_of (take most piece) ≡ line_of piece
front-line most piece is = elim (cases_lt 8192 (length piece)) [
  | inl over ↦ line_of-long (take most piece) (omega (arith, length-take most piece)) ∙ sym (line_of-long piece over)
  | inr fits ↦ ap line_of (take_all most piece (omega arith))
]

-- what is kept of a line says what it counts as
pub line_of-kept : (piece : List ℕ) → line_of (kept piece) ≡ line_of piece
unfolding kept
line_of-kept piece = front-line 8193 piece refl

-- the front of a front with more after it
front-more : (most : ℕ) (line piece : List ℕ) → take most (take most line ++ piece) ≡ take most (line ++ piece)
front-more zero line piece = refl
front-more (suc most) [] piece = refl
front-more (suc most) (b ∷ line) piece = ap (λ (l : List ℕ). b ∷ l) (front-more most line piece)

-- what is kept of a line that grows
pub kept-more : (line piece : List ℕ) → kept (kept line ++ piece) ≡ kept (line ++ piece)
unfolding kept
kept-more = front-more 8193

-- nothing has no front
front-nil : (most : ℕ) → take {A = ℕ} most [] ≡ []
front-nil zero = refl
front-nil (suc most) = refl

-- nothing is kept of nothing
pub kept-nil : kept [] ≡ []
unfolding kept
kept-nil = front-nil 8193

-- a front is no longer than the whole
front-le : (most : ℕ) (line piece shown : List ℕ) → shown ≡ take most (line ++ piece) → length shown ≤ length line + length piece
front-le most line piece shown is = omega (arith, ap (λ (l : List ℕ). length l) is, length-take most (line ++ piece), length-append line piece)

-- what is kept is no longer than the line
pub kept-le : (line piece shown : List ℕ) → shown ≡ kept (line ++ piece) → length shown ≤ length line + length piece
unfolding kept
kept-le = front-le 8193
