-- What stands between known bytes, and the number that it is.
use Rattle.std.proofs.Common.{◌≡◌, ◌≢◌, ◌<◌, ◌^◌, ◌↔◌, ℕ, ℤ, pos, negsuc, Bool, List, [], ◌∷◌, ◌++◌, Option, Some, None, Result, Ok, Err, option_map, Bor, IsTrue, MatchOption, IfNone, IfSome, codes, unsigned_abs, sym, ap, ◌∙◌, subst, arith, append_assoc}
use Rattle.std.specs.Int.{FitsUnsignedBits}
use Rattle.std.specs.Result.{OkIff}
use Rattle.std.specs.Str.{bytes_eq}
use Rattle.std.proofs.lemmas.Slice.Eq.{bytes_eq-Decides}
use Rattle.std.proofs.lemmas.List.{append_cancel_right}
use lib.Signed.{mag}
use Rattle.line_wire.specs.Reply.{IsInRange, IsReply, reply_bytes, numbered}
use Rattle.line_wire.specs.declared.reply.Reply.{Reply}

-- what is left before an end that was taken off
pub stripped : (whole piece end : List ℕ) (r : Option (Bor (List ℕ))) → MatchOption r ((front : List ℕ) → whole ≢ front ++ end) (λ x. whole ≡ x.now ++ end) →
    whole ≡ piece ++ end → option_map (λ x. x.now) r ≡ Some piece
stripped whole piece end None none is = absurd (none piece is)
stripped whole piece end (Some x) before is = ap Some (append_cancel_right x.now piece end (sym before ∙ is))

-- a number of 63 bits and a sign
pub mag_below : (z : ℤ) → unsigned_abs z < 2 ^ 63 → mag z < 2 ^ 63
mag_below (pos n) small = small
mag_below (negsuc n) small = omega arith

-- bytes are a line and its line feed if the line feed put aside leaves the line
pub same_line : (line written bytes : List ℕ) (end : ℕ) (same : Bool) → written ≡ bytes ++ end ∷ [] → end ≡ 10 → same ≡ bytes_eq bytes line →
    IsTrue same ↔ (written ≡ line ++ 10 ∷ [])
same_line line written bytes end same ends feed tests = (to, from)
  where
    with_feed : written ≡ bytes ++ 10 ∷ []
    with_feed = subst (λ (e : ℕ). written ≡ bytes ++ e ∷ []) feed ends

    to : IsTrue same → written ≡ line ++ 10 ∷ []
    to equal = with_feed ∙ ap (λ (l : List ℕ). l ++ 10 ∷ []) ((bytes_eq-Decides bytes line).0 (sym tests ∙ equal))

    from : written ≡ line ++ 10 ∷ [] → IsTrue same
    from is = tests ∙ (bytes_eq-Decides bytes line).1 (append_cancel_right bytes line (10 ∷ []) (sym with_feed ∙ is))

-- a reply in range is the line's if its bytes are the line and a line feed
pub written_line : (line written : List ℕ) (reply : Reply) (same : Bool) → IsInRange reply → written ≡ reply_bytes reply →
    IsTrue same ↔ (written ≡ line ++ 10 ∷ []) → IsTrue same ↔ IsReply line reply
written_line line written reply same range is tests = (
  λ equal. record { range = range; bytes = sym (tests.0 equal) ∙ is },
  λ told. tests.1 (is ∙ sym told.bytes),
)

-- the line of a number after what names it
pub numbered_line : (line front number : List ℕ) → line ++ 10 ∷ [] ≡ numbered front number → line ≡ front ++ (number ++ codes "}")
numbered_line line front number is = append_cancel_right line (front ++ (number ++ codes "}")) (10 ∷ []) (is ∙ sym regroup)
  where
    regroup : (front ++ (number ++ codes "}")) ++ 10 ∷ [] ≡ numbered front number
    regroup = simp append_assoc

-- what is there isn't absent
pub missed : {A : Type 0} (o : Option A) (x : A) → o ≡ None → o ≡ Some x → ⊥
missed None x none some = cc
missed (Some y) x none some = cc

-- nothing is answered, so a fact holds that holds anyway
pub if_none : {P : Type 0} (r : Option Reply) → P → IfNone r P
if_none None holds = holds
if_none (Some reply) holds = tt

-- what is confirmed is the line's
pub confirmed_is : (found : Option Reply) (line : List ℕ) (Wrong : Type 0) → MatchOption found Wrong (λ r. IsReply line r) → IfSome found (IsReply line)
confirmed_is None line Wrong h = tt
confirmed_is (Some reply) line Wrong h = h

-- a reply that isn't confirmed
pub unconfirmed : {P : Type 0} (r : Option Reply) (line : List ℕ) (s : Reply) → MatchOption r (IsReply line s → ⊥) (λ found. IsReply line found) →
    ((IsReply line s → ⊥) → P) → IfNone r P
unconfirmed None line s wrong so = so wrong
unconfirmed (Some reply) line s found so = tt

-- a number without a sign, of so many bits
pub whole : {E : Type 0} (bits : ℕ) (z : ℤ) (n : ℕ) (r : Result ℕ E) → z ≡ pos n → n < 2 ^ bits →
    OkIff r (FitsUnsignedBits bits z) (unsigned_abs z) → r ≡ Ok n
whole bits z n (Ok m) is small read = ap Ok (read.1 ∙ ap unsigned_abs is)
whole bits z n (Err e) is small refused = absurd (refused (subst (λ (y : ℤ). FitsUnsignedBits bits y) (sym is) small))
