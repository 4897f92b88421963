-- Texts with commas between them, and what they are with one text more.
use Rattle.std.proofs.Common.{◌≡◌, ℕ, ℤ, Bool, true, false, if◌then◌else◌, List, [], ◌∷◌, ◌++◌, map, codes, decimal, refl, sym, ap, ◌∙◌, append_assoc}
use Rattle.std.specs.Fmt.{signed_decimal}
use Rattle.std.specs.List.{join_with_byte}
use Rattle.audit_types.specs.Minima.{as_it_stands}

-- texts with commas between them
abbrev pub with_commas : List (List ℕ) → List ℕ
with_commas texts = join_with_byte 44 texts

-- a comma, unless nothing stands before it
abbrev pub comma_unless : Bool → List ℕ
comma_unless first = if first then [] else codes ","

-- a number after the place that it is of
abbrev pub at_place : ℕ → ℤ → List ℕ
at_place place x = codes "[" ++ decimal place ++ codes "," ++ signed_decimal x ++ codes "]"

-- a number that was kept as the table has it, in decimal
abbrev pub stated : Bool → ℤ → List ℕ
stated least x = signed_decimal (as_it_stands least x)

-- what stands before the bounds of a column
abbrev pub bounds_front : Bool → List ℕ
bounds_front least = if least then codes "\"low\":[" else codes "\"high\":["

-- the bounds of a column: what none of a column of maxima is above, and of one of minima, whose numbers are kept negated, is below
abbrev pub bounds : Bool → List ℤ → List ℕ
bounds least numbers = bounds_front least ++ with_commas (map (stated least) numbers) ++ codes "]"

-- whether there is no text
abbrev pub is_none : List (List ℕ) → Bool
is_none [] = true
is_none (text ∷ texts) = false

-- there is one after one more
pub is_none-snoc : (texts : List (List ℕ)) (text : List ℕ) → is_none (texts ++ text ∷ []) ≡ false
is_none-snoc [] text = refl
is_none-snoc (a ∷ texts) text = refl

-- one text more
pub with_commas-snoc : (texts : List (List ℕ)) (text : List ℕ) → with_commas (texts ++ text ∷ []) ≡ with_commas texts ++ comma_unless (is_none texts) ++ text
with_commas-snoc [] text = refl
with_commas-snoc (a ∷ []) text = sym (append_assoc a (44 ∷ []) text)
with_commas-snoc (a ∷ b ∷ texts) text =
    let rest = with_commas (b ∷ texts) in
    ap (λ l. a ++ 44 ∷ l) (with_commas-snoc (b ∷ texts) text ∙ append_assoc rest (44 ∷ []) text)
    ∙ sym (append_assoc (a ++ 44 ∷ rest) (44 ∷ []) text ∙ append_assoc a (44 ∷ rest) (44 ∷ text))

-- a text more stands after the texts so far
pub text_more : (before now line : List ℕ) (first : Bool) (texts : List (List ℕ)) (text : List ℕ) → line ≡ before ++ with_commas texts → first ≡ is_none texts
    → now ≡ line ++ comma_unless first ++ text
    → now ≡ before ++ with_commas (texts ++ text ∷ [])
text_more before now line first texts text so_far none_before added =
    added ∙ ap (λ l. l ++ comma_unless first ++ text) so_far ∙ ap (λ b. before ++ with_commas texts ++ comma_unless b ++ text) none_before
    ∙ append_assoc (before ++ with_commas texts) (comma_unless (is_none texts)) text
    ∙ append_assoc before (with_commas texts) (comma_unless (is_none texts) ++ text)
    ∙ ap (λ l. before ++ l) (sym (append_assoc (with_commas texts) (comma_unless (is_none texts)) text) ∙ sym (with_commas-snoc texts text))
