-- The bytes that a read copied are the next ones.
use Rattle.std.proofs.Common.{◌≡◌, ◌↔◌, ℕ, ◌+◌, ◌<◌, min, List, [], ◌++◌, length, take, drop, sym, ap, ◌∙◌, arith}
use Rattle.std.proofs.lemmas.List.{drop-drop, take-append-drop, nil_from_length}

-- they stand before what is left after them, and there are none exactly if none is left
pub next_bytes : (bytes left buf : List ℕ) (from count room most : ℕ) → drop from bytes ≡ left → 0 < room → 0 < most
    → count ≡ min (min room most) (length left) → take count buf ≡ take count left
    → (left ≡ take count buf ++ drop (from + count) bytes) × ((count ≡ 0) ↔ (left ≡ []))
next_bytes bytes left buf from count room most rest some more count_is copied = (
  sym (take-append-drop count left) ∙ ap (λ l. l ++ drop count left) (sym copied)
      ∙ ap (λ l. take count buf ++ l) (ap (drop count) (sym rest) ∙ drop-drop count from bytes),
  (λ none. nil_from_length left (omega (arith, none, count_is, some, more)), λ none. omega (arith, count_is, ap length none)),
)
