-- Whether a list divided by its content is within the limit, by the content alone.
use Rattle.std.proofs.Common.{◌≡◌, ℕ, ◌+◌, ◌*◌, ◌<◌, ◌≤◌, ℤ, pos, List, [], ◌∷◌, map, take, refl, sym, ap, ◌∙◌, subst, arith}
use Rattle.std.specs.Prelude.{◌*ℤ◌, ◌<ℤ◌, int_div, unsigned_abs}
use Rattle.std.specs.Int.{◌∣◌}
use Rattle.std.specs.List.{AllByRecursion}
use Rattle.std.proofs.lemmas.Int.{ints, unsigned_abs-mul}
use Rattle.std.proofs.lemmas.Nat.Gcd.{le_of_dvd}
use Rattle.std.proofs.Math.Nat.{pos_of_dvd_of_pos, mul-le-mul_left, mul-le-mul_right, le_of_mul-le-mul_left}
use Rattle.audit_types.specs.Form.{IsContent}
use Rattle.audit_types.specs.PrimitiveLines.{scaled_content}
use Rattle.audit_types.specs.Numbers.{size_positive}
use Rattle.audit_types.specs.ListLaws.{all-unmap}
use Rattle.int_rows.specs.Exact.{exact}
use Rattle.sum_basis.specs.declared.sparse.FreeEntry.{FreeEntry}
use Rattle.sum_basis.specs.Sparse.{scaled, IsOverContent}
use Rattle.sum_basis.proofs.ListContents.{values, divides_first, over_content}

-- the content of a positive pivot entry and of some values is positive, and not above that of the first of them
pub record HasContent (head : ℤ) (es : List FreeEntry) (g : ℕ) : Type 0 where
  pub content : ℕ
  pub is : IsContent (head ∷ values es) content
  pub positive : 0 < content
  pub at_most : content ≤ g

content_positive : (head : ℤ) (es : List FreeEntry) (g : ℕ) → pos 0 <ℤ head → IsContent (head ∷ values es) g → 0 < g
content_positive head es g p content = pos_of_dvd_of_pos content.divides.0 (size_positive head p)

pub has_content : (head : ℤ) (es : List FreeEntry) (k g : ℕ) → pos 0 <ℤ head → 0 < g → IsContent (head ∷ values (take k es)) g → HasContent head es g
has_content head es k g p some so_far =
    let any = scaled_content (pos 1) (omega arith) (head ∷ values es) in
    let all = any.1.divides in
    record {
      content = any.0;
      is = any.1;
      positive = content_positive head es any.0 p any.1;
      at_most = le_of_dvd some (so_far.greatest any.0 (all.0, divides_first any.0 es k all.1));
    }

-- a list over a common divisor of its values
abbrev pub over : ℕ → List FreeEntry → List FreeEntry
over g es = map (λ (e : FreeEntry). record { place = e.place; value = int_div e.value (pos g) }) es

pub over_is : (g : ℕ) (es : List FreeEntry) → AllByRecursion (λ (e : FreeEntry). g ∣ unsigned_abs e.value) es → es ≡ map (scaled (pos g)) (over g es)
over_is g [] h = refl
over_is g (e ∷ es) h =
    ap (λ (x : ℤ). record { place = e.place; value = x } ∷ es) (exact e.value (pos g) h.0)
    ∙ ap (λ l. scaled (pos g) (record { place = e.place; value = int_div e.value (pos g) }) ∷ l) (over_is g es h.1)

-- the pivot entry and the values over the content
pub is_over : (head over_head : ℤ) (es : List FreeEntry) (g : ℕ) → 0 < g → IsContent (head ∷ values es) g → head ≡ pos g *ℤ over_head →
    IsOverContent head es over_head (over g es)
is_over head over_head es g p content e =
    over_content (pos g) head over_head es (over g es) (omega (arith, ints)) content e
    (over_is g es (all-unmap (λ (e : FreeEntry). e.value) (λ x. g ∣ unsigned_abs x) es content.divides.1))

-- the size of a multiple
size_times : (g : ℕ) (x y : ℤ) → x ≡ pos g *ℤ y → unsigned_abs x ≡ g * unsigned_abs y
size_times g x y e = ap unsigned_abs e ∙ unsigned_abs-mul (pos g) y

-- what is within the limit over the content
pub comes_within : (limit g most : ℕ) (x y : ℤ) → 0 < g → x ≡ pos g *ℤ y → unsigned_abs x ≤ most → most ≤ g * limit → unsigned_abs y ≤ limit
comes_within limit g most x y p e h l = le_of_mul-le-mul_left (subst (λ z. z ≤ g * limit) (size_times g x y e) (omega arith)) p

pub come_within : (limit g most : ℕ) (es made : List FreeEntry) → 0 < g → es ≡ map (scaled (pos g)) made →
    AllByRecursion (λ (e : FreeEntry). unsigned_abs e.value ≤ most) es → most ≤ g * limit →
    AllByRecursion (λ (e : FreeEntry). unsigned_abs e.value ≤ limit) made
come_within limit g most es made p e all l = go made (subst (AllByRecursion (λ (e : FreeEntry). unsigned_abs e.value ≤ most)) e all)
  where
    go : (xs : List FreeEntry) → AllByRecursion (λ (e : FreeEntry). unsigned_abs e.value ≤ most) (map (scaled (pos g)) xs) →
        AllByRecursion (λ (e : FreeEntry). unsigned_abs e.value ≤ limit) xs
    go [] h = tt
    go (x ∷ xs) h = (comes_within limit g most (pos g *ℤ x.value) x.value p refl h.0 l, go xs h.1)

-- what was within the limit times the content
pub was_within : (limit g : ℕ) (x y : ℤ) → x ≡ pos g *ℤ y → unsigned_abs y ≤ limit → unsigned_abs x ≤ g * limit
was_within limit g x y e h = subst (λ z. z ≤ g * limit) (sym (size_times g x y e)) (mul-le-mul_left g h)

pub were_within : (limit g : ℕ) (es made : List FreeEntry) → es ≡ map (scaled (pos g)) made →
    AllByRecursion (λ (e : FreeEntry). unsigned_abs e.value ≤ limit) made →
    AllByRecursion (λ (e : FreeEntry). unsigned_abs e.value ≤ g * limit) es
were_within limit g es made e all = subst (AllByRecursion (λ (e : FreeEntry). unsigned_abs e.value ≤ g * limit)) (sym e) (go made all)
  where
    go : (xs : List FreeEntry) → AllByRecursion (λ (e : FreeEntry). unsigned_abs e.value ≤ limit) xs →
        AllByRecursion (λ (e : FreeEntry). unsigned_abs e.value ≤ g * limit) (map (scaled (pos g)) xs)
    go [] h = tt
    go (x ∷ xs) h = (was_within limit g (pos g *ℤ x.value) x.value refl h.0, go xs h.1)

-- if the content brings the greatest size within the limit, all are
pub small_enough : (limit : ℕ) (head over_head : ℤ) (es : List FreeEntry) (g most least : ℕ) → 0 < g → IsContent (head ∷ values es) g → head
    ≡ pos g *ℤ over_head
    → unsigned_abs head ≤ most → AllByRecursion (λ (e : FreeEntry). unsigned_abs e.value ≤ most) es → most ≤ least * limit → least ≤ g
    → (unsigned_abs over_head ≤ limit) × AllByRecursion (λ (e : FreeEntry). unsigned_abs e.value ≤ limit) (over g es)
small_enough limit head over_head es g most least p content e at_head at_values enough h =
    let part = mul-le-mul_right limit h in
    let within : most ≤ g * limit = omega arith in (
      comes_within limit g most head over_head p e at_head within,
      come_within limit g most es (over g es) p
          (over_is g es (all-unmap (λ (e : FreeEntry). e.value) (λ x. g ∣ unsigned_abs x) es content.divides.1)) at_values within,
    )

-- and if it is less than that needs, not all are
pub too_large : (limit : ℕ) (head over_head : ℤ) (es : List FreeEntry) (g most least : ℕ) → IsContent (head ∷ values es) g → head ≡ pos g *ℤ over_head
    → ((m : ℕ) → unsigned_abs head ≤ m → AllByRecursion (λ (e : FreeEntry). unsigned_abs e.value ≤ m) es → most ≤ m) → least * limit < most + limit
    → g < least
    → ¬ ((unsigned_abs over_head ≤ limit) × AllByRecursion (λ (e : FreeEntry). unsigned_abs e.value ≤ limit) (over g es))
too_large limit head over_head es g most least content e greatest needed h small =
    let most_at = greatest (g * limit) (was_within limit g head over_head e small.0)
    (were_within limit g es (over g es) (over_is g es (all-unmap (λ (e : FreeEntry). e.value) (λ x. g ∣ unsigned_abs x) es content.divides.1)) small.1) in
    let part = mul-le-mul_right limit h in
    absurd (omega arith)
