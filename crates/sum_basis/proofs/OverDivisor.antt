-- Lists whose multiples are combined.
use Rattle.std.proofs.Common.{◌≡◌, ◌≢◌, ℕ, ◌+◌, ◌<◌, cond, ℤ, pos, List, [], ◌∷◌, ◌++◌, length, map, take, get_or, sym, ap, ◌∙◌, subst, arith, inl, inr, append_assoc}
use Rattle.std.specs.Prelude.{◌*ℤ◌, ◌-ℤ◌, unsigned_abs, FitsSigned}
use Rattle.std.specs.Int.{◌∣◌, w128}
use mir.Val.{to_z, of_z}
use Rattle.std.specs.List.{AllByRecursion}
use Rattle.std.proofs.Math.IntN.{*ℤ-zero}
use Rattle.std.proofs.Math.Nat.{dvd-mul_right}
use Rattle.std.proofs.lemmas.Int.{ints, to_z-of_z, unsigned_abs-mul}
use Rattle.std.proofs.lemmas.Bool.{cases_eq}
use Rattle.std.proofs.lemmas.List.{take_more, map-append, length-append, length-map, length-take-le}
use Rattle.audit_types.specs.Truth.{is_zero}
use Rattle.audit_types.specs.Numbers.{test_of_not_zero, zero_or_not}
use Rattle.audit_types.specs.Products.{product_not_zero}
use Rattle.sum_basis.specs.declared.sparse.FreeEntry.{FreeEntry}
use Rattle.sum_basis.specs.Sparse.{entry_at, IsListed, scaled}
use Rattle.sum_basis.proofs.SparseRows.{here, elsewhere, zero_below}
use Rattle.sum_basis.proofs.ListContents.{none, values}

-- the multiple of a list with a quotient more is that with the value
pub put_scaled : (g q v : ℤ) (place : ℕ) (out after : List FreeEntry) → g ≢ pos 0 → v ≡ g *ℤ q
    → after ≡ cond (is_zero q) out (out ++ record { place = place; value = q } ∷ [])
    → map (scaled g) after ≡ cond (is_zero v) (map (scaled g) out) (map (scaled g) out ++ record { place = place; value = v } ∷ [])
put_scaled g q v place out after some is e = elim (zero_or_not q) [
  | inl none ↦
      let nothing : v ≡ pos 0 = is ∙ ap (λ x. g *ℤ x) none ∙ *ℤ-zero g in
      ap (map (scaled g)) (e ∙ ap (λ b. cond b out (out ++ record { place = place; value = q } ∷ [])) (ap is_zero none))
      ∙ sym (ap (λ b. cond b (map (scaled g) out) (map (scaled g) out ++ record { place = place; value = v } ∷ [])) (ap is_zero nothing))
  | inr more ↦
      let there : v ≢ pos 0 = subst (λ x. x ≢ pos 0) (sym is) (product_not_zero g q some more) in
      ap (map (scaled g)) (e ∙ ap (λ b. cond b out (out ++ record { place = place; value = q } ∷ [])) (test_of_not_zero q more))
      ∙ map-append (scaled g) out (record { place = place; value = q } ∷ [])
      ∙ ap (λ x. map (scaled g) out ++ record { place = place; value = x } ∷ []) (sym is)
      ∙ sym (ap (λ b. cond b (map (scaled g) out) (map (scaled g) out ++ record { place = place; value = v } ∷ [])) (test_of_not_zero v there))
]

-- what holds of 0 and of each value of a list holds of what it has at a column
pub entries_with : (P : ℤ → Type 0) (from n : ℕ) (es : List FreeEntry) (j : ℕ) → P (pos 0) → AllByRecursion P (values es) → IsListed from n es →
    P (entry_at es j)
entries_with P from n [] j none all h = none
entries_with P from n (e ∷ es) j none all h = elim (cases_eq e.place j) [
  | inl same ↦
      let first = here e j same in
      let rest = zero_below (e.place + 1) n es j h.3 (omega arith) in
      let sum : entry_at (e ∷ es) j ≡ e.value = omega (arith, ints) in
      subst P (sym sum) all.0
  | inr other ↦
      let first = elsewhere e j other in
      let sum : entry_at (e ∷ es) j ≡ entry_at es j = omega (arith, ints) in
      subst P (sym sum) (entries_with P (e.place + 1) n es j none all.1 h.3)
]

-- a number divides its multiples
pub multiples : (g : ℕ) (es : List FreeEntry) → AllByRecursion (λ x. g ∣ unsigned_abs x) (values (map (scaled (pos g)) es))
multiples g [] = tt
multiples g (e ∷ es) = (subst (λ x. g ∣ x) (sym (unsigned_abs-mul (pos g) e.value)) (dvd-mul_right g (unsigned_abs e.value)), multiples g es)

-- how many entries stand there by now
pub filled : (by : ℤ) (before rest : List FreeEntry) (k : ℕ) → k < length rest → length (before ++ map (scaled by) (take k rest)) ≡ length before + k
filled by before rest k l =
    length-append before (map (scaled by) (take k rest))
    ∙ ap (λ n. length before + n) (length-map (take k rest) (scaled by) ∙ length-take-le k rest (omega arith))

-- with one entry more
pub pushed : (by : ℤ) (before out rest : List FreeEntry) (k : ℕ) (value : ℤ) → k < length rest → out ≡ before ++ map (scaled by) (take k rest)
    → value ≡ by *ℤ (get_or rest k none).value
    → out ++ record { place = (get_or rest k none).place; value = value } ∷ [] ≡ before ++ map (scaled by) (take (k + 1) rest)
pushed by before out rest k value l is e =
    ap (λ o. o ++ record { place = (get_or rest k none).place; value = value } ∷ []) is
    ∙ append_assoc before (map (scaled by) (take k rest)) (record { place = (get_or rest k none).place; value = value } ∷ [])
    ∙ ap (λ v. before ++ (map (scaled by) (take k rest) ++ record { place = (get_or rest k none).place; value = v } ∷ [])) e
    ∙ ap (λ o. before ++ o) (sym (ap (map (scaled by)) (take_more rest k none l) ∙ map-append (scaled by) (take k rest) (get_or rest k none ∷ [])))

-- a positive divisor isn't 0
pub some_divisor : (g : ℕ) → 0 < g → pos g ≢ pos 0
some_divisor g some = λ e. omega (arith, ints)

-- what each common divisor divides, said of the numbers as the code passes them and as they are
pub greatest_of : (g : ℕ) (head by times : ℤ) (first second : List FreeEntry) → FitsSigned w128 head → FitsSigned w128 by → FitsSigned w128 times
    → ((d : ℕ) → d ∣ unsigned_abs (to_z w128 (of_z w128 head)) →
    ((j : ℕ) → d ∣ unsigned_abs (to_z w128 (of_z w128 by) *ℤ entry_at first j -ℤ to_z w128 (of_z w128 times) *ℤ entry_at second j)) → d ∣ g)
    → (d : ℕ) → d ∣ unsigned_abs head → ((j : ℕ) → d ∣ unsigned_abs (by *ℤ entry_at first j -ℤ times *ℤ entry_at second j)) → d ∣ g
greatest_of g head by times first second fh fb ft greatest d divides all =
    greatest d (subst (λ (z : ℤ). d ∣ unsigned_abs z) (sym (to_z-of_z w128 head fh)) divides)
    (λ j. subst (λ (z : ℤ). d ∣ unsigned_abs (z *ℤ entry_at first j -ℤ to_z w128 (of_z w128 times) *ℤ entry_at second j)) (sym (to_z-of_z w128 by fb))
    (subst (λ (z : ℤ). d ∣ unsigned_abs (by *ℤ entry_at first j -ℤ z *ℤ entry_at second j)) (sym (to_z-of_z w128 times ft)) (all j)))
