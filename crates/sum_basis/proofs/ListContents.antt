-- The content of a list of entries, and the list over a divisor.
use Rattle.std.proofs.Math.IntN.{*ℤ-zero}
use Rattle.std.proofs.Common.{◌≡◌, ◌≢◌, ℕ, zero, suc, ◌+◌, ◌<◌, ◌≤◌, ◌^◌, Bool, true, false, cond, nat_eq, ℤ, pos, List, [], ◌∷◌, length, map, take, get_or, set, refl, sym, ap, ◌∙◌, subst, arith, inl, inr}
use Rattle.std.specs.Prelude.{◌*ℤ◌, ◌<ℤ◌, unsigned_abs}
use Rattle.std.specs.Int.{◌∣◌, IsGcd}
use Rattle.std.specs.List.{AllByRecursion}
use Rattle.std.proofs.lemmas.Int.{ints}
use Rattle.std.proofs.lemmas.Bool.{cases_eq}
use Rattle.std.proofs.lemmas.List.Elements.{All-from_recursion}
use Rattle.std.proofs.lemmas.List.{same_lists, get_or_default, get_or-map, length-map, get_or-set_same, get_or-set_other, take_more, map-append}
use Rattle.std.proofs.Math.Nat.{one-dvd}
use Rattle.std.proofs.lemmas.Nat.Gcd.{dvd_refl}
use Rattle.audit_types.specs.Form.{IsContent}
use Rattle.int_rows.specs.ContentLaws.{IsContent-push, all-ones}
use Rattle.sum_basis.specs.declared.sparse.FreeEntry.{FreeEntry}
use Rattle.sum_basis.specs.Sparse.{entry_at, IsListed, scaled, IsOverContent}
use Rattle.int_rows.specs.PrimitiveLaws.{content_one}
use Rattle.audit_types.specs.Products.{times-add, one-times}
use Rattle.audit_types.specs.Numbers.{positive_not_zero}

-- the values of a list
abbrev pub values : List FreeEntry → List ℤ
values es = map (λ e. e.value) es

-- the entry that stands for none
abbrev pub none : FreeEntry
none = record { place = 0; value = pos 0 }

-- the value of entry k of a list of small ones
pub value_small : (es : List FreeEntry) (k : ℕ) → k < length es → AllByRecursion (λ (e : FreeEntry). unsigned_abs e.value ≤ 2 ^ 56) es →
    unsigned_abs (get_or es k none).value ≤ 2 ^ 56
value_small es k l all = All-from_recursion (λ (e : FreeEntry). unsigned_abs e.value ≤ 2 ^ 56) es all k none l

-- the content of one number is its size
pub content_of_one : (head : ℤ) → IsContent (head ∷ []) (unsigned_abs head)
content_of_one head = record { divides = (dvd_refl (unsigned_abs head), tt); greatest = λ d all. all.0 }

-- the content with the value of entry k
pub one_more_value : (head : ℤ) (es : List FreeEntry) (k g h : ℕ) → k < length es → IsContent (head ∷ values (take k es)) g →
    IsGcd g (unsigned_abs (get_or es k none).value) h → IsContent (head ∷ values (take (k + 1) es)) h
one_more_value head es k g h l content common =
    rw (take_more es k none l, map-append (λ (e : FreeEntry). e.value) (take k es) (get_or es k none ∷ []))
    (IsContent-push (head ∷ values (take k es)) (get_or es k none).value g h content common)

-- what divides all values divides the first of them
pub divides_first : (d : ℕ) (es : List FreeEntry) (k : ℕ) → AllByRecursion (λ x. d ∣ unsigned_abs x) (values es) →
    AllByRecursion (λ x. d ∣ unsigned_abs x) (values (take k es))
divides_first d es zero all = tt
divides_first d [] (suc k) all = tt
divides_first d (e ∷ es) (suc k) all = (all.0, divides_first d es k all.1)

-- once the content is 1 it stays
pub stays_one : (head : ℤ) (es : List FreeEntry) (k : ℕ) → IsContent (head ∷ values (take k es)) 1 → IsContent (head ∷ values es) 1
stays_one head es k content = record {
  divides = (one-dvd (unsigned_abs head), all-ones (values es));
  greatest = λ d all. content.greatest d (all.0, divides_first d es k all.1);
}

-- the first k entries are divided, and the others as they were
pub record IsPartlyScaled (old new : List FreeEntry) (by : ℤ) (k : ℕ) : Type 0 where
  pub done : (m : ℕ) → m < k → get_or old m none ≡ scaled by (get_or new m none)
  pub left : (m : ℕ) → k ≤ m → get_or new m none ≡ get_or old m none

-- one entry more is divided
pub one_more_scaled : (old new : List FreeEntry) (by : ℤ) (k : ℕ) (e : FreeEntry) → k < length new → IsPartlyScaled old new by k →
    get_or new k none ≡ scaled by e → IsPartlyScaled old (set new k e) by (k + 1)
one_more_scaled old new by k e inside part is = record {
  done = λ m h. elim (cases_eq m k) [
    | inl same ↦ rw same (sym (part.left k (omega arith)) ∙ is ∙ ap (scaled by) (sym (get_or-set_same new k e none inside)))
    | inr other ↦ part.done m (omega arith) ∙ ap (scaled by) (sym (get_or-set_other new k m e none other))
  ];
  left = λ m h. get_or-set_other new k m e none (λ same. omega arith) ∙ part.left m (omega arith);
}

-- when all are, the old list is the multiple of the new one
pub all_scaled : (old new : List FreeEntry) (by : ℤ) (k : ℕ) → length new ≡ length old → length old ≤ k → IsPartlyScaled old new by k →
    old ≡ map (scaled by) new
all_scaled old new by k same past part =
    same_lists old (map (scaled by) new) (sym (length-map new (scaled by) ∙ same)) (λ m d h.
    get_or_default old m d none h ∙ part.done m (omega arith) ∙ sym (get_or-map (scaled by) new m none d (omega arith)))

-- what a multiple of a list has at a column
pub entry_at-scaled : (by : ℤ) (es : List FreeEntry) (j : ℕ) → entry_at (map (scaled by) es) j ≡ by *ℤ entry_at es j
entry_at-scaled by [] j = let none = *ℤ-zero by in omega (arith, ints)
entry_at-scaled by (e ∷ es) j =
    let rest = entry_at-scaled by es j in
    let sum = times-add by (cond (nat_eq e.place j) e.value (pos 0)) (entry_at es j) in
    let first = value (nat_eq e.place j) in
    omega (arith, ints)
  where
    value : (b : Bool) → cond b (by *ℤ e.value) (pos 0) ≡ by *ℤ cond b e.value (pos 0)
    value true = refl
    value false = sym (*ℤ-zero by)

-- a list is listed if its multiple is
pub listed_scaled : (by : ℤ) (from n : ℕ) (es : List FreeEntry) → IsListed from n (map (scaled by) es) → IsListed from n es
listed_scaled by from n [] h = tt
listed_scaled by from n (e ∷ es) h = (h.0, h.1, λ z. h.2 (ap (λ x. by *ℤ x) z ∙ *ℤ-zero by), listed_scaled by (e.place + 1) n es h.3)

-- entry k, whatever stands for none
pub entry_is : (es : List FreeEntry) (k : ℕ) (e : FreeEntry) → k < length es → e ≡ get_or es k e → get_or es k none ≡ e
entry_is es k e h is = get_or_default es k none e h ∙ sym is

-- the values of a multiple
pub values-scaled : (by : ℤ) (es : List FreeEntry) → values (map (scaled by) es) ≡ map (λ x. by *ℤ x) (values es)
values-scaled by [] = refl
values-scaled by (e ∷ es) = ap (λ l. (by *ℤ e.value) ∷ l) (values-scaled by es)

-- once a list is the list
pub scaled_once : (es : List FreeEntry) → es ≡ map (scaled (pos 1)) es
scaled_once [] = refl
scaled_once (e ∷ es) =
    ap (λ (x : ℤ). record { place = e.place; value = x } ∷ es) (sym (one-times e.value))
    ∙ ap (λ l. record { place = e.place; value = pos 1 *ℤ e.value } ∷ l) (scaled_once es)

-- a pivot entry and a list with content 1 stay
pub over_one : (head : ℤ) (es : List FreeEntry) → IsContent (head ∷ values es) 1 → IsOverContent head es head es
over_one head es content =
    record { by = pos 1; positive = omega (arith, ints); head_is = sym (one-times head); entries_are = scaled_once es; content = content }

-- over their content they have content 1
pub over_content : (by old_head head : ℤ) (old es : List FreeEntry) → pos 0 <ℤ by → IsContent (old_head ∷ values old) (unsigned_abs by) →
    old_head ≡ by *ℤ head → old ≡ map (scaled by) es → IsOverContent old_head old head es
over_content by old_head head old es p content e f = record {
  by = by;
  positive = p;
  head_is = e;
  entries_are = f;
  content =
      content_one by (head ∷ values es) (positive_not_zero by p)
      (subst (λ l. IsContent l (unsigned_abs by)) (ap (λ x. x ∷ values old) e ∙ ap (λ l. (by *ℤ head) ∷ l) (ap values f ∙ values-scaled by es)) content);
}

-- the first of listed entries is not 0
pub first_some : (n : ℕ) (list : List FreeEntry) → IsListed 0 n list → 0 < length list → (get_or list 0 none).value ≢ pos 0
first_some n [] h some = absurd (omega arith)
first_some n (e ∷ list) h some = h.2
