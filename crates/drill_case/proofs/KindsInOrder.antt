-- The kinds of lines, one after another.
use Rattle.std.proofs.Common.{◌≡◌, ℕ, ◌+◌, ◌<◌, not, List, [], ◌∷◌, ◌++◌, length, take, drop, get_or, filter, sym, ap, ◌∙◌, subst, arith, refl, append-nil, length-append}
use Rattle.std.specs.Prelude.{◌==◌}
use Rattle.std.proofs.lemmas.List.{take_more, take_all, take-append-drop}
use Rattle.std.proofs.lemmas.List.Elements.{filter-append}
use Rattle.drill_case.specs.declared.kinds.ReplyKind.{ReplyKind}
use Rattle.drill_case.specs.Tallies.{HasKind, HaveKinds}

kinds-append : (lines more : List (List ℕ)) (kinds others : List ReplyKind) → HaveKinds lines kinds → HaveKinds more others →
    HaveKinds (lines ++ more) (kinds ++ others)
kinds-append [] more [] others first second = second
kinds-append [] more (kind ∷ kinds) others first second = absurd first
kinds-append (line ∷ lines) more [] others first second = absurd first
kinds-append (line ∷ lines) more (kind ∷ kinds) others first second = (first.0, kinds-append lines more kinds others first.1 second)

-- as many as there are lines
pub as_many : (lines : List (List ℕ)) (kinds : List ReplyKind) → HaveKinds lines kinds → length kinds ≡ length lines
as_many [] [] are = refl
as_many [] (kind ∷ kinds) are = absurd are
as_many (line ∷ lines) [] are = absurd are
as_many (line ∷ lines) (kind ∷ kinds) are = omega (arith, as_many lines kinds are.1)

-- the parts that aren't empty
abbrev pub lines_of : List (List ℕ) → List (List ℕ)
lines_of parts = filter (λ part. not (length part == 0)) parts

-- the lines of the next part, after those of the parts before it
one_more_part : (parts : List (List ℕ)) (count : ℕ) (part : List ℕ) → (count < length parts) × (part ≡ get_or parts count part)
    → lines_of (take (count + 1) parts) ≡ lines_of (take count parts) ++ lines_of (part ∷ [])
one_more_part parts count part next =
    ap lines_of (take_more parts count part next.0 ∙ ap (λ (p : List ℕ). take count parts ++ p ∷ []) (sym next.1))
    ∙ filter-append (λ part. not (length part == 0)) (take count parts) (part ∷ [])

-- the next part is a line, and has its kind
pub one_more_kind : (parts : List (List ℕ)) (count : ℕ) (part : List ℕ) (kinds : List ReplyKind) (kind : ReplyKind)
    → (count < length parts) × (part ≡ get_or parts count part) → lines_of (part ∷ []) ≡ part ∷ [] → HaveKinds (lines_of (take count parts)) kinds
    → HasKind part kind → HaveKinds (lines_of (take (count + 1) parts)) (kinds ++ kind ∷ [])
one_more_kind parts count part kinds kind next is are has =
    subst (λ (lines : List (List ℕ)). HaveKinds lines (kinds ++ kind ∷ []))
    (sym (one_more_part parts count part next ∙ ap (λ (own : List (List ℕ)). lines_of (take count parts) ++ own) is))
    (kinds-append (lines_of (take count parts)) (part ∷ []) kinds (kind ∷ []) are (has, tt))

-- the next part is empty
pub no_more_kind : (parts : List (List ℕ)) (count : ℕ) (part : List ℕ) (kinds : List ReplyKind) → (count < length parts) × (part ≡ get_or parts count part)
    → lines_of (part ∷ []) ≡ [] → HaveKinds (lines_of (take count parts)) kinds → HaveKinds (lines_of (take (count + 1) parts)) kinds
no_more_kind parts count part kinds next is are =
    subst (λ (lines : List (List ℕ)). HaveKinds lines kinds)
    (sym (one_more_part parts count part next ∙ ap (λ (own : List (List ℕ)). lines_of (take count parts) ++ own) is ∙ append-nil (lines_of (take count
    parts)))) are

-- there is room for the kind of the next part
pub fewer_kinds : (parts : List (List ℕ)) (count : ℕ) (part : List ℕ) (kinds : List ReplyKind) → (count < length parts) × (part ≡ get_or parts count part)
    → lines_of (part ∷ []) ≡ part ∷ [] → HaveKinds (lines_of (take count parts)) kinds → length kinds < length (lines_of parts)
fewer_kinds parts count part kinds next is are =
    let behind = lines_of (drop (count + 1) parts) in
    let whole : lines_of parts ≡ lines_of (take (count + 1) parts) ++ behind =
    ap lines_of (sym (take-append-drop (count + 1) parts)) ∙ filter-append (λ part. not (length part == 0)) (take (count + 1) parts) (drop (count + 1) parts) in
    let front : lines_of (take (count + 1) parts) ≡ lines_of (take count parts) ++ part ∷ [] =
    one_more_part parts count part next ∙ ap (λ (own : List (List ℕ)). lines_of (take count parts) ++ own) is in
    omega (
      arith,
      as_many (lines_of (take count parts)) kinds are,
      ap (λ (l : List (List ℕ)). length l) whole,
      ap (λ (l : List (List ℕ)). length l) front,
      length-append (lines_of (take (count + 1) parts)) behind,
      length-append (lines_of (take count parts)) (part ∷ []),
    )

-- all of them
pub all_kinds : (parts : List (List ℕ)) (count : ℕ) (kinds : List ReplyKind) → length parts ≡ count → HaveKinds (lines_of (take count parts)) kinds →
    HaveKinds (lines_of parts) kinds
all_kinds parts count kinds is are = subst (λ (ps : List (List ℕ)). HaveKinds (lines_of ps) kinds) (take_all count parts (omega (arith, is))) are
