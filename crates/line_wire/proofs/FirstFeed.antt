-- The first line feed stands at the first place whose byte is one.
use Rattle.std.proofs.Common.{◌≡◌, ◌<◌, ◌∷◌, ◌++◌, ℕ, suc, Bool, true, false, List, Option, Some, None, MatchOption, take, drop, get_or, refl, sym, ap, ◌∙◌, add-one, arith}
use Rattle.std.proofs.Math.Seq.{split_at}
use Rattle.std.proofs.lemmas.Bool.{eqb-true}
use Rattle.std.proofs.lemmas.List.{get_or-take, length-take-le}
use Rattle.std.proofs.lemmas.List.Elements.{All-from_get_or}
use Rattle.memchr.specs.Find.{IsFirstByte, is_byte}
use Rattle.line_wire.specs.Lines.{is_feed}
use Rattle.line_wire.specs.Cutter.{IsFeedless, IsFirstFeed}

-- what isn't so is false
isnt : (b : Bool) → (b ≡ true → ⊥) → b ≡ false
isnt false wrong = refl
isnt true wrong = absurd (wrong refl)

pub first_feed : (bytes : List ℕ) (r : Option ℕ) → IsFirstByte (is_byte 10) bytes r → MatchOption r (IsFeedless bytes) (IsFirstFeed bytes)
first_feed bytes None none = All-from_get_or (λ b. is_feed b ≡ false) bytes 0 (λ i within. isnt (is_feed (get_or bytes i 0)) (none i (omega arith) within))
first_feed bytes (Some k) found = record {
  inside = found.0.high;
  before = All-from_get_or (λ b. is_feed b ≡ false) (take k bytes) 0 (λ i within.
      let below : i < k = omega (arith, length-take-le k bytes (omega (arith, found.0.high))) in
      ap is_feed (get_or-take k bytes i 0 below) ∙ isnt (is_feed (get_or bytes i 0)) (found.0.before i (omega arith) below));
  here =
      let feed : get_or bytes k 0 ≡ 10 = eqb-true (get_or bytes k 0) 10 found.1 in
      split_at bytes k 0 found.0.high
      ∙ ap (λ b. take k bytes ++ b ∷ drop (suc k) bytes) feed
      ∙ ap (λ j. take k bytes ++ 10 ∷ drop j bytes) (sym (add-one k));
}
