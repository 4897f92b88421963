-- A quoted text, one byte or one doubled quote at a time.
use Rattle.std.proofs.Common.{◌≡◌, ℕ, ◌+◌, ◌<◌, ◌≤◌, true, false, cond, List, [], ◌∷◌, ◌++◌, length, get_or, drop, Option, Some, None, refl, sym, ap, ◌∙◌, arith, append_assoc, append-nil, add_assoc}
use Rattle.std.proofs.Math.ListN.{drop_of_length-le}
use Rattle.std.proofs.lemmas.List.{drop_more}
use Rattle.std.proofs.lemmas.Bool.{ne_eqb}
use Rattle.predicate_lang.specs.Tokens.{Quoted, quoted, with_front}

-- if nothing stands in front
pub with_front-nothing : (q : Option Quoted) → q ≡ with_front [] 0 q
with_front-nothing None = refl
with_front-nothing (Some q) = let none : q.bytes ≡ 0 + q.bytes = omega arith in ap (λ n. Some (record { text = q.text; bytes = n })) none

-- what stands in front may be put there in two steps
with_front-with_front : (xs ys : List ℕ) (n m : ℕ) (q : Option Quoted) → with_front xs n (with_front ys m q) ≡ with_front (xs ++ ys) (n + m) q
with_front-with_front xs ys n m None = refl
with_front-with_front xs ys n m (Some q) =
    ap (λ t. Some (record { text = t; bytes = n + (m + q.bytes) })) (sym (append_assoc xs ys q.text))
    ∙ ap (λ k. Some (record { text = (xs ++ ys) ++ q.text; bytes = k })) (sym (add_assoc n m q.bytes))

-- a byte that isn't a quote
pub plain_byte : (rest xs ys : List ℕ) (i : ℕ) → i < length rest → (get_or rest i 0 ≡ 39 → ⊥) → ys ≡ xs ++ get_or rest i 0 ∷ []
    → quoted false rest ≡ with_front xs i (quoted false (drop i rest))
    → quoted false rest ≡ with_front ys (i + 1) (quoted false (drop (i + 1) rest))
plain_byte rest xs ys i inside plain kept same =
    let b = get_or rest i 0 in
    let next : quoted false (drop i rest) ≡ quoted false (b ∷ drop (i + 1) rest) = ap (quoted false) (drop_more rest i 0 inside) in
    let one : quoted false (b ∷ drop (i + 1) rest) ≡ with_front (b ∷ []) 1 (quoted false (drop (i + 1) rest)) =
    ap (λ t. cond t (quoted true (drop (i + 1) rest)) (with_front (b ∷ []) 1 (quoted false (drop (i + 1) rest)))) (ne_eqb b 39 plain) in
    same ∙ ap (with_front xs i) (next ∙ one) ∙ with_front-with_front xs (b ∷ []) i 1 (quoted false (drop (i + 1) rest))
    ∙ ap (λ zs. with_front zs (i + 1) (quoted false (drop (i + 1) rest))) (sym kept)

-- a doubled quote
pub doubled_quote : (rest xs ys : List ℕ) (i : ℕ) → i + 1 < length rest → get_or rest i 0 ≡ 39 → get_or rest (i + 1) 0 ≡ 39 → ys ≡ xs ++ get_or rest i 0 ∷ []
    → quoted false rest ≡ with_front xs i (quoted false (drop i rest))
    → quoted false rest ≡ with_front ys (i + 2) (quoted false (drop (i + 2) rest))
doubled_quote rest xs ys i inside first second kept same =
    let next : drop i rest ≡ 39 ∷ 39 ∷ drop (i + 1 + 1) rest = drop_more rest i 0 (omega arith) ∙ ap (λ x. x ∷ drop (i + 1) rest) first
    ∙ ap (λ ys. 39 ∷ ys) (drop_more rest (i + 1) 0 inside ∙ ap (λ x. x ∷ drop (i + 1 + 1) rest) second) in
    let two : i + 1 + 1 ≡ i + 2 = omega arith in
    same ∙ ap (λ ys. with_front xs i (quoted false ys)) (next ∙ ap (λ k. 39 ∷ 39 ∷ drop k rest) two)
    ∙ with_front-with_front xs (39 ∷ []) i 2 (quoted false (drop (i + 2) rest))
    ∙ ap (λ zs. with_front zs (i + 2) (quoted false (drop (i + 2) rest))) (sym (kept ∙ ap (λ b. xs ++ b ∷ []) first))

-- a quote at the end closes the text
pub closed_last : (rest xs : List ℕ) (i : ℕ) → i < length rest → length rest ≤ i + 1 → get_or rest i 0 ≡ 39 →
    quoted false rest ≡ with_front xs i (quoted false (drop i rest)) → quoted false rest ≡ Some (record { text = xs; bytes = i + 1 })
closed_last rest xs i inside last quote same =
    let next : drop i rest ≡ 39 ∷ [] = drop_more rest i 0 inside ∙ ap (λ b. b ∷ drop (i + 1) rest) quote ∙ ap (λ ys. 39 ∷ ys) (drop_of_length-le rest last) in
    same ∙ ap (λ ys. with_front xs i (quoted false ys)) next ∙ ap (λ zs. Some (record { text = zs; bytes = i + 1 })) (append-nil xs)

-- a quote before another byte closes it
pub closed_before : (rest xs : List ℕ) (i : ℕ) → i + 1 < length rest → get_or rest i 0 ≡ 39 → (get_or rest (i + 1) 0 ≡ 39 → ⊥) →
    quoted false rest ≡ with_front xs i (quoted false (drop i rest)) → quoted false rest ≡ Some (record { text = xs; bytes = i + 1 })
closed_before rest xs i inside quote other same =
    let b = get_or rest (i + 1) 0 in
    let next : drop i rest ≡ 39 ∷ b ∷ drop (i + 1 + 1) rest = drop_more rest i 0 (omega arith) ∙ ap (λ x. x ∷ drop (i + 1) rest) quote
    ∙ ap (λ ys. 39 ∷ ys) (drop_more rest (i + 1) 0 inside) in
    same ∙ ap (λ ys. with_front xs i (quoted false ys)) next
    ∙ ap (λ t. with_front xs i (cond t (with_front (39 ∷ []) 2 (quoted false (drop (i + 1 + 1) rest))) (Some (record { text = []; bytes = 1 }))))
    (ne_eqb b 39 other)
    ∙ ap (λ zs. Some (record { text = zs; bytes = i + 1 })) (append-nil xs)

-- with no quote left the text is not closed
pub not_closed : (rest xs : List ℕ) (i : ℕ) → length rest ≤ i → quoted false rest ≡ with_front xs i (quoted false (drop i rest)) → quoted false rest ≡ None
not_closed rest xs i past same = same ∙ ap (λ ys. with_front xs i (quoted false ys)) (drop_of_length-le rest past)
