-- What stands between quotes is the text with each quote in it doubled.
use Rattle.std.proofs.Common.{◌≡◌, ℕ, suc, ◌+◌, ◌<◌, ◌≢◌, get_or, Bool, true, false, cond, List, [], ◌∷◌, ◌++◌, length, drop, Option, Some, None, refl, sym, ap, ◌∙◌, subst, arith, append_assoc, length-append}
use Rattle.std.specs.Prelude.{◌==◌}
use denote.Ref.{Bor}
use Rattle.std.proofs.lemmas.Str.Pattern.{IsSplitOnceResult, split_parts}
use Rattle.std.specs.Str.{IsUtf8}
use Rattle.std.proofs.lemmas.Bool.{eqb-true, ne_eqb}
use Rattle.std.proofs.lemmas.List.{take_at, drop_at, get_or-append-add}
use Rattle.std.proofs.lemmas.Str.{IsUtf8-append, IsUtf8-take, IsUtf8-drop, IsCharBoundary-before_ascii, IsCharBoundary-after_ascii}
use Rattle.predicate_lang.specs.Tokens.{Quoted, quoted, with_front}
use Rattle.predicate_lang.specs.Printing.{doubled}

-- the bytes are the doubled text, a closing quote, and what follows it
pub record IsQuoted (bytes : List ℕ) (q : Quoted) : Type 0 where
  pub whole : bytes ≡ doubled q.text ++ 39 ∷ drop q.bytes bytes
  pub many : q.bytes ≡ length (doubled q.text) + 1

abbrev quote_before : Bool → List ℕ → List ℕ
quote_before false bytes = bytes
quote_before true bytes = 39 ∷ bytes

-- one byte more that isn't a quote
with_plain : (b : ℕ) (bytes : List ℕ) (p q : Quoted) → (b == 39) ≡ false → IsQuoted bytes p → with_front (b ∷ []) 1 (Some p) ≡ Some q → IsQuoted (b ∷ bytes) q
with_plain b bytes p q plain is h =
    let same : record { text = b ∷ p.text; bytes = 1 + p.bytes } ≡ q = cc in
    let one : 1 + p.bytes ≡ suc p.bytes = omega arith in
    let twice : doubled (b ∷ p.text) ≡ b ∷ doubled p.text = ap (λ t. cond t (39 ∷ 39 ∷ doubled p.text) (b ∷ doubled p.text)) plain in
    subst (IsQuoted (b ∷ bytes)) same (record {
      whole =
          ap (λ xs. b ∷ xs) is.whole ∙ ap (λ xs. xs ++ 39 ∷ drop p.bytes bytes) (sym twice)
          ∙ ap (λ n. doubled (b ∷ p.text) ++ 39 ∷ drop n (b ∷ bytes)) (sym one);
      many = omega (arith, is.many, ap (length {A = ℕ}) twice);
    })

-- one doubled quote more
with_quote : (bytes : List ℕ) (p q : Quoted) → IsQuoted bytes p → with_front (39 ∷ []) 2 (Some p) ≡ Some q → IsQuoted (39 ∷ 39 ∷ bytes) q
with_quote bytes p q is h =
    let same : record { text = 39 ∷ p.text; bytes = 2 + p.bytes } ≡ q = cc in
    let two : 2 + p.bytes ≡ suc (suc p.bytes) = omega arith in
    subst (IsQuoted (39 ∷ 39 ∷ bytes)) same (record {
      whole = ap (λ xs. 39 ∷ 39 ∷ xs) is.whole ∙ ap (λ n. doubled (39 ∷ p.text) ++ 39 ∷ drop n (39 ∷ 39 ∷ bytes)) (sym two);
      many = omega (arith, is.many);
    })

-- a quote with no second one closes
closed_here : (bytes : List ℕ) (q : Quoted) → Some (record { text = []; bytes = 1 }) ≡ Some q → IsQuoted (39 ∷ bytes) q
closed_here bytes q h =
    let same : record { text = []; bytes = 1 } ≡ q = cc in
    subst (IsQuoted (39 ∷ bytes)) same (record { whole = refl; many = refl })

-- what is read up to a closing quote
quoted_flag : (flag : Bool) (bytes : List ℕ) (q : Quoted) → quoted flag bytes ≡ Some q → IsQuoted (quote_before flag bytes) q
quoted_flag false [] q h = absurd cc
quoted_flag true [] q h = closed_here [] q h
quoted_flag false (b ∷ bytes) q h = go (b == 39) refl h (quoted_flag true bytes q) (quoted_flag false bytes)
  where
    plain : (o : Option Quoted) → quoted false bytes ≡ o → (b == 39) ≡ false → with_front (b ∷ []) 1 o ≡ Some q →
        ((p : Quoted) → quoted false bytes ≡ Some p → IsQuoted bytes p) → IsQuoted (b ∷ bytes) q
    plain None e solid i rest = absurd cc
    plain (Some p) e solid i rest = with_plain b bytes p q solid (rest p e) i

    go : (t : Bool) → (b == 39) ≡ t → cond t (quoted true bytes) (with_front (b ∷ []) 1 (quoted false bytes)) ≡ Some q →
        (quoted true bytes ≡ Some q → IsQuoted (39 ∷ bytes) q) → ((p : Quoted) → quoted false bytes ≡ Some p → IsQuoted bytes p) → IsQuoted (b ∷ bytes) q
    go true e i behind rest = subst (λ x. IsQuoted (x ∷ bytes) q) (sym (eqb-true b 39 e)) (behind i)
    go false e i behind rest = plain (quoted false bytes) refl e i rest
quoted_flag true (b ∷ bytes) q h = go (b == 39) refl h (quoted_flag false bytes)
  where
    twice : (o : Option Quoted) → quoted false bytes ≡ o → with_front (39 ∷ []) 2 o ≡ Some q → ((p : Quoted) → quoted false bytes ≡ Some p → IsQuoted bytes p) →
        IsQuoted (39 ∷ 39 ∷ bytes) q
    twice None e i rest = absurd cc
    twice (Some p) e i rest = with_quote bytes p q (rest p e) i

    go : (t : Bool) → (b == 39) ≡ t → cond t (with_front (39 ∷ []) 2 (quoted false bytes)) (Some (record { text = []; bytes = 1 })) ≡ Some q →
        ((p : Quoted) → quoted false bytes ≡ Some p → IsQuoted bytes p) → IsQuoted (39 ∷ b ∷ bytes) q
    go true e i rest = subst (λ x. IsQuoted (39 ∷ x ∷ bytes) q) (sym (eqb-true b 39 e)) (twice (quoted false bytes) refl i rest)
    go false e i rest = closed_here (b ∷ bytes) q i

-- what stands after an opening quote, up to the closing one
pub quoted_is : (bytes : List ℕ) (q : Quoted) → quoted false bytes ≡ Some q → IsQuoted bytes q
quoted_is bytes q h = quoted_flag false bytes q h

-- ---- UTF-8

-- a text may be cut before and after a quote in it
cut_before : (xs ys : List ℕ) → IsUtf8 (xs ++ 39 ∷ ys) → IsUtf8 xs
cut_before xs ys utf8 =
    let inside : length xs < length (xs ++ 39 ∷ ys) = omega (arith, length-append xs (39 ∷ ys)) in
    let here : get_or (xs ++ 39 ∷ ys) (length xs) 0 ≡ 39 = ap (λ n. get_or (xs ++ 39 ∷ ys) n 0) (omega arith) ∙ get_or-append-add xs (39 ∷ ys) 0 0 in
    subst IsUtf8 (take_at xs (39 ∷ ys) (length xs) refl)
    (IsUtf8-take (xs ++ 39 ∷ ys) (length xs) utf8 (IsCharBoundary-before_ascii (xs ++ 39 ∷ ys) (length xs) inside (omega (arith, here))))

-- what stands after a quote
pub cut_behind : (xs ys : List ℕ) → IsUtf8 (xs ++ 39 ∷ ys) → IsUtf8 ys
cut_behind xs ys utf8 =
    let inside : length xs < length (xs ++ 39 ∷ ys) = omega (arith, length-append xs (39 ∷ ys)) in
    let here : get_or (xs ++ 39 ∷ ys) (length xs) 0 ≡ 39 = ap (λ n. get_or (xs ++ 39 ∷ ys) n 0) (omega arith) ∙ get_or-append-add xs (39 ∷ ys) 0 0 in
    let cut : IsUtf8 (drop (length xs + 1) (xs ++ 39 ∷ ys)) =
    IsUtf8-drop (xs ++ 39 ∷ ys) (length xs + 1) utf8 (IsCharBoundary-after_ascii (xs ++ 39 ∷ ys) (length xs) utf8 inside (omega (arith, here))) in
    let rest : drop (length xs + 1) (xs ++ 39 ∷ ys) ≡ ys = ap (drop (length xs + 1)) (sym (append_assoc xs (39 ∷ []) ys))
    ∙ drop_at (xs ++ 39 ∷ []) ys (length xs + 1) (length-append xs (39 ∷ [])) in
    subst IsUtf8 rest cut

-- one quote in place of two
undoubled : (t xs : List ℕ) → IsUtf8 (xs ++ doubled t) → IsUtf8 (xs ++ t)
undoubled [] xs utf8 = utf8
undoubled (b ∷ t) xs utf8 = go (b == 39) refl utf8 (undoubled t (xs ++ b ∷ [])) (undoubled t [])
  where
    go : (r : Bool) → (b == 39) ≡ r → IsUtf8 (xs ++ cond r (39 ∷ 39 ∷ doubled t) (b ∷ doubled t)) →
        (IsUtf8 ((xs ++ b ∷ []) ++ doubled t) → IsUtf8 ((xs ++ b ∷ []) ++ t)) → (IsUtf8 (doubled t) → IsUtf8 t) → IsUtf8 (xs ++ b ∷ t)
    go false e u behind rest = subst IsUtf8 (append_assoc xs (b ∷ []) t) (behind (subst IsUtf8 (sym (append_assoc xs (b ∷ []) (doubled t))) u))
    go true e u behind rest =
        let front : IsUtf8 (xs ++ 39 ∷ []) = cut_before (xs ++ 39 ∷ []) (doubled t) (subst IsUtf8 (sym (append_assoc xs (39 ∷ []) (39 ∷ doubled t))) u) in
        let after : IsUtf8 t = rest (cut_behind [] (doubled t) (cut_behind xs (39 ∷ doubled t) u)) in
        subst (λ x. IsUtf8 (xs ++ x ∷ t)) (sym (eqb-true b 39 e)) (subst IsUtf8 (append_assoc xs (39 ∷ []) t) (IsUtf8-append (xs ++ 39 ∷ []) t front after))

-- a quoted text and what follows it are UTF-8 if the bytes are
pub quoted_utf8 : (bytes : List ℕ) (q : Quoted) → IsUtf8 bytes → quoted false bytes ≡ Some q → IsUtf8 q.text × IsUtf8 (drop q.bytes bytes)
quoted_utf8 bytes q utf8 h =
    let is : IsQuoted bytes q = quoted_is bytes q h in
    let split : IsUtf8 (doubled q.text ++ 39 ∷ drop q.bytes bytes) = subst IsUtf8 is.whole utf8 in
    (undoubled q.text [] (cut_before (doubled q.text) (drop q.bytes bytes) split), cut_behind (doubled q.text) (drop q.bytes bytes) split)

-- ---- quotes in a text

plain_byte : (b : ℕ) (xs : List ℕ) → (b ≡ 39 → ⊥) → doubled (b ∷ xs) ≡ b ∷ doubled xs
plain_byte b xs plain = ap (λ t. cond t (39 ∷ 39 ∷ doubled xs) (b ∷ doubled xs)) (ne_eqb b 39 plain)

-- a text with no quote in it
doubled_plain : (xs : List ℕ) → ((i : ℕ) → i < length xs → get_or xs i 0 ≡ 39 → ⊥) → doubled xs ≡ xs
doubled_plain [] plain = refl
doubled_plain (b ∷ xs) plain =
    plain_byte b xs (plain 0 (omega arith)) ∙ ap (λ ys. b ∷ ys) (doubled_plain xs (λ i lt. plain (suc i) (omega arith)))

-- two texts, one after the other
doubled-append : (xs ys : List ℕ) → doubled (xs ++ ys) ≡ doubled xs ++ doubled ys
doubled-append [] ys = refl
doubled-append (b ∷ xs) ys = go (b == 39) (doubled-append xs ys)
  where
    go : (t : Bool) → doubled (xs ++ ys) ≡ doubled xs ++ doubled ys →
        cond t (39 ∷ 39 ∷ doubled (xs ++ ys)) (b ∷ doubled (xs ++ ys)) ≡ cond t (39 ∷ 39 ∷ doubled xs) (b ∷ doubled xs) ++ doubled ys
    go true e = ap (λ zs. 39 ∷ 39 ∷ zs) e
    go false e = ap (λ zs. b ∷ zs) e

-- if a text is split at its first quote
pub split_quote : (text : List ℕ) (x : Bor (List ℕ) × Bor (List ℕ)) → IsSplitOnceResult 39 text (Some x) → doubled text ≡ x.0.now ++ 39 ∷ 39 ∷ doubled x.1.now
split_quote text x h =
    let parts : (text ≡ x.0.now ++ (39 ∷ x.1.now)) × ((i : ℕ) → i < length x.0.now → get_or x.0.now i 0 ≢ 39) = split_parts 39 text (Some x) h (omega arith) in
    ap doubled parts.0 ∙ doubled-append x.0.now (39 ∷ x.1.now) ∙ ap (λ ys. ys ++ 39 ∷ 39 ∷ doubled x.1.now) (doubled_plain x.0.now parts.1)

-- if there is no quote
pub split_nowhere : (text : List ℕ) → IsSplitOnceResult 39 text None → doubled text ≡ text
split_nowhere text h = doubled_plain text (split_parts 39 text None h (omega arith))

-- what is written at a quote, and what is left
pub next_quote : (text old front out rest : List ℕ) (x : Bor (List ℕ) × Bor (List ℕ)) → IsSplitOnceResult 39 rest (Some x) → old ++ doubled rest ≡ text
    → front ≡ old ++ x.0.now → out ≡ front ++ (39 ∷ 39 ∷ []) → IsUtf8 rest
    → IsUtf8 x.1.now × (out ++ doubled x.1.now ≡ text)
next_quote text old front out rest x h same first second utf8 =
    let parts : (rest ≡ x.0.now ++ (39 ∷ x.1.now)) × ((i : ℕ) → i < length x.0.now → get_or x.0.now i 0 ≢ 39) =
    split_parts 39 rest (Some x) h (omega arith) in (
      cut_behind x.0.now x.1.now (subst IsUtf8 parts.0 utf8),
      ap (λ xs. xs ++ doubled x.1.now) second ∙ append_assoc front (39 ∷ 39 ∷ []) (doubled x.1.now) ∙ ap (λ xs. xs ++ 39 ∷ 39 ∷ doubled x.1.now) first
          ∙ append_assoc old x.0.now (39 ∷ 39 ∷ doubled x.1.now) ∙ ap (λ xs. old ++ xs) (sym (split_quote rest x h)) ∙ same,
    )

-- with the closing quote the whole text stands there
pub last_quote : (old start out end text rest : List ℕ) → start ≡ old ++ 39 ∷ [] → out ++ doubled rest ≡ start ++ doubled text → end ≡ out ++ rest →
    doubled rest ≡ rest → end ++ 39 ∷ [] ≡ old ++ 39 ∷ (doubled text ++ 39 ∷ [])
last_quote old start out end text rest first same last plain =
    ap (λ xs. xs ++ 39 ∷ []) (last ∙ ap (λ xs. out ++ xs) (sym plain) ∙ same ∙ ap (λ xs. xs ++ doubled text) first ∙ append_assoc old (39 ∷ []) (doubled text))
    ∙ append_assoc old (39 ∷ doubled text) (39 ∷ [])
