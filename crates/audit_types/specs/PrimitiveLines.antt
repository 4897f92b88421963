-- Facts on multiples of rows and their contents: two primitive rows on one line are one.
use Rattle.std.proofs.Common.{◌≡◌, ℕ, zero, suc, ◌+◌, ◌*◌, ◌<◌, ◌%◌, ◌/◌, ℤ, pos, negsuc, List, [], ◌∷◌, length, map, refl, sym, ap, ◌∙◌, subst, arith, inl, inr}
use Rattle.std.specs.Prelude.{◌+ℤ◌, ◌*ℤ◌, neg_ℤ, ◌<ℤ◌, unsigned_abs}
use Rattle.std.specs.Int.{◌∣◌, IsGcd}
use Rattle.std.proofs.lemmas.Int.{ints, unsigned_abs-mul}
use Rattle.std.proofs.lemmas.Nat.{mod_below, div-add-mod'}
use Rattle.std.proofs.Math.Nat.{mul-add-mod_self_left, mul-lt-mul_of_pos_left, mod-eq_of_lt}
use Rattle.std.proofs.lemmas.Nat.Gcd.{IsGcd-from_zero, IsGcd-from_mod, dvd_trans, dvd_antisymm, dvd-zero}
use Rattle.std.proofs.lemmas.List.{same_lists, get_or_default, length-map}
use Rattle.std.proofs.lemmas.Bool.{cases_eq}
use Rattle.std.proofs.Math.IntN.{*ℤ_comm, *ℤ-zero}
use Rattle.audit_types.specs.Truth.{number_at}
use Rattle.audit_types.specs.Form.{IsContent}
use Rattle.audit_types.specs.ListLaws.{all-weaker}
use Rattle.audit_types.specs.Numbers.{size_positive}
use Rattle.audit_types.specs.Products.{add-times, neg-times, zero_factor}

-- k times each number
abbrev pub times : ℤ → List ℤ → List ℤ
times k xs = map (λ x. k *ℤ x) xs

-- a remainder of multiples
mod_scaled : (k a b : ℕ) → 0 < k → 0 < b → (k * a) % (k * b) ≡ k * (a % b)
mod_scaled k a b p q =
    let small : k * (a % b) < k * b = mul-lt-mul_of_pos_left (mod_below a b q) p in
    let whole : a ≡ b * (a / b) + a % b = omega (arith, div-add-mod' a b) in
    let spread : k * a ≡ (k * b) * (a / b) + k * (a % b) = ap (λ m. k * m) whole ∙ omega arith in
    ap (λ m. m % (k * b)) spread ∙ mul-add-mod_self_left (k * b) (a / b) (k * (a % b)) ∙ mod-eq_of_lt small

-- a greatest common divisor, and that of the multiples by k
pub scaled_gcd : (k : ℕ) → 0 < k → (n a b : ℕ) → b < n → (g : ℕ) × IsGcd a b g × IsGcd (k * a) (k * b) (k * g)
scaled_gcd k p zero a b h = absurd (omega arith)
scaled_gcd k p (suc n) a b h =
    elim (cases_eq b 0) [
      | inl e ↦ (a, IsGcd-from_zero a b e, IsGcd-from_zero (k * a) (k * b) (rw e (omega arith)))
      | inr more ↦
          let smaller : a % b < b = mod_below a b (omega arith) in
          let rest = scaled_gcd k p n b (a % b) (omega arith) in
          (rest.0, IsGcd-from_mod a b rest.0 rest.1, IsGcd-from_mod (k * a) (k * b) (k * rest.0) (subst (λ m. IsGcd (k * b) m (k * rest.0)) (sym (mod_scaled k a b p (omega arith))) rest.2))
    ]

-- the content of a list with one number more
IsContent-cons : (x : ℤ) (xs : List ℤ) (g h : ℕ) → IsContent xs g → IsGcd (unsigned_abs x) g h → IsContent (x ∷ xs) h
IsContent-cons x xs g h content common = record {
  divides = (common.0, all-weaker (λ y. g ∣ unsigned_abs y) (λ y. h ∣ unsigned_abs y) (λ y d. dvd_trans h common.1 d) xs content.divides);
  greatest = λ d all. common.2 d all.0 (content.greatest d all.1);
}

-- the content of a row, and of its multiple
pub scaled_content : (k : ℤ) → 0 < unsigned_abs k → (row : List ℤ) → (g : ℕ) × IsContent row g × IsContent (times k row) (unsigned_abs k * g)
scaled_content k p [] = (0, record { divides = tt; greatest = λ d h. dvd-zero d }, record { divides = tt; greatest = λ d h. subst (λ m. d ∣ m) (omega arith) (dvd-zero d) })
scaled_content k p (x ∷ row) =
    let rest = scaled_content k p row in
    let here = scaled_gcd (unsigned_abs k) p (suc rest.0) (unsigned_abs x) rest.0 (omega arith) in (
      here.0,
      IsContent-cons x row rest.0 here.0 rest.1 here.1,
      IsContent-cons (k *ℤ x) (times k row) (unsigned_abs k * rest.0) (unsigned_abs k * here.0) rest.2
          (subst (λ m. IsGcd m (unsigned_abs k * rest.0) (unsigned_abs k * here.0)) (sym (unsigned_abs-mul k x)) here.2),
    )

-- a list has one content
content_unique : (row : List ℤ) (g h : ℕ) → IsContent row g → IsContent row h → g ≡ h
content_unique row g h p q = dvd_antisymm (q.greatest g p.divides) (p.greatest h q.divides)

-- a multiple of a primitive list has the factor as its content
content_times : (k : ℤ) (row : List ℤ) → 0 < unsigned_abs k → IsContent row 1 → IsContent (times k row) (unsigned_abs k)
content_times k row p one =
    let any = scaled_content k p row in
    let same = content_unique row any.0 1 any.1 one in
    subst (IsContent (times k row)) (ap (λ m. unsigned_abs k * m) same ∙ omega arith) any.2

-- positive numbers of one size are one
same_size : (x y : ℤ) → pos 0 <ℤ x → pos 0 <ℤ y → unsigned_abs x ≡ unsigned_abs y → x ≡ y
same_size (pos m) (pos n) p q e = ap pos e
same_size (negsuc m) y p q e = absurd (omega (arith, ints))
same_size (pos m) (negsuc n) p q e = absurd (omega (arith, ints))

-- a positive factor cancels
pub cancelled : (x f g : ℤ) → pos 0 <ℤ x → x *ℤ f ≡ x *ℤ g → f ≡ g
cancelled x f g p e =
    let product = add-times f (neg_ℤ g) x in
    let minus = neg-times g x in
    let one = *ℤ_comm x f in
    let two = *ℤ_comm x g in
    let none : f +ℤ neg_ℤ g ≡ pos 0 = zero_factor (f +ℤ neg_ℤ g) x (omega (arith, ints)) p in
    omega (arith, ints)

-- rows of one length with the same numbers are one
pub same_rows : (f g : List ℤ) → length f ≡ length g → ((j : ℕ) → number_at f j ≡ number_at g j) → f ≡ g
same_rows f g l h = same_lists f g l (λ k d m. get_or_default f k d (pos 0) m ∙ h k ∙ get_or_default g k (pos 0) d (omega arith))

-- a number of a multiple
pub number_at-times : (k : ℤ) (f : List ℤ) (j : ℕ) → number_at (times k f) j ≡ k *ℤ number_at f j
number_at-times k [] j = sym (*ℤ-zero k)
number_at-times k (x ∷ f) zero = refl
number_at-times k (x ∷ f) (suc j) = number_at-times k f j

-- two primitive lists on one line, in one direction, are one
pub one_primitive : (x y : ℤ) (f g : List ℤ) → pos 0 <ℤ x → pos 0 <ℤ y → length f ≡ length g → IsContent f 1 → IsContent g 1 → ((j : ℕ) → x *ℤ number_at f j ≡ y *ℤ number_at g j) → f ≡ g
one_primitive x y f g p q l one two h =
    let lists : times x f ≡ times y g = same_rows (times x f) (times y g) (length-map f (λ z. x *ℤ z) ∙ l ∙ sym (length-map g (λ z. y *ℤ z)))
    (λ j. number_at-times x f j ∙ h j ∙ sym (number_at-times y g j)) in
    let sizes = content_unique (times y g) (unsigned_abs x) (unsigned_abs y) (subst (λ r. IsContent r (unsigned_abs x)) lists (content_times x f (size_positive x p) one)) (content_times y g (size_positive y q) two) in
    let same = same_size x y p q sizes in
    same_rows f g l (λ j. cancelled x (number_at f j) (number_at g j) p (h j ∙ ap (λ z. z *ℤ number_at g j) (sym same)))
