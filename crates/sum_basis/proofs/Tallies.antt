-- Counts by lists of entries, and lists that are near by them.
use Rattle.std.proofs.Common.{◌≡◌, ◌≢◌, ℕ, suc, ◌+◌, ◌<◌, ◌≤◌, nat_eq, ℤ, pos, List, [], ◌∷◌, length, get_or, set, take, refl, sym, ap, ◌∙◌, arith, inl, inr}
use Rattle.std.specs.Prelude.{◌+ℤ◌, ◌*ℤ◌}
use Rattle.std.proofs.lemmas.Int.{ints}
use Rattle.std.proofs.lemmas.Bool.{cases_eq}
use Rattle.std.proofs.lemmas.List.{take_all, get_or-set_same, get_or-set_other, length-set}
use Rattle.std.proofs.Math.IntN.{zero-*ℤ, *ℤ-zero}
use Rattle.audit_types.specs.Numbers.{test_of_not_zero}
use Rattle.audit_types.specs.Products.{zero_product}
use Rattle.sum_basis.specs.Reach.{IsNear, one_if, without_new, times_of}
use Rattle.sum_basis.specs.Sparse.{entry_at, IsListed}
use Rattle.sum_basis.specs.declared.sparse.FreeEntry.{FreeEntry}
use Rattle.sum_basis.proofs.SparseRows.{here, elsewhere, no_entry, stands_within, front_zero, own_value, take_entry}
use Rattle.std.proofs.Common.{cond}

-- the first k entries are counted
pub record IsPartlyTallied (old counts : List ℕ) (es : List FreeEntry) (k : ℕ) : Type 0 where
  pub long : length counts ≡ length old
  pub done : (j : ℕ) → get_or counts j 0 ≡ get_or old j 0 + one_if (entry_at (take k es) j)

pub nothing_tallied : (old : List ℕ) (es : List FreeEntry) → IsPartlyTallied old old es 0
nothing_tallied old es = record { long = refl; done = λ j. omega arith }

module _ (old counts : List ℕ) (es : List FreeEntry) (k : ℕ) (d : FreeEntry) (listed : IsListed 0 (length old) es) (l : k < length es)
    (part : IsPartlyTallied old counts es k) where
  -- where the next entry stands, the count is as it was
  pub not_yet_tallied : get_or counts (get_or es k d).place 0 ≡ get_or old (get_or es k d).place 0
  not_yet_tallied =
      let is = part.done (get_or es k d).place in
      let none = ap one_if (front_zero 0 (length old) es k d listed l) in
      omega arith

  pub place_inside : (get_or es k d).place < length counts
  place_inside = let at = (stands_within 0 (length old) es k d listed l).inside in let same = part.long in omega arith

  pub one_more_tallied : (v : ℕ) → v ≡ get_or counts (get_or es k d).place 0 + 1 → IsPartlyTallied old (set counts (get_or es k d).place v) es (k + 1)
  one_more_tallied v is = record { long = length-set counts (get_or es k d).place v ∙ part.long; done = at }
    where
      e : FreeEntry
      e = get_or es k d

      at : (j : ℕ) → get_or (set counts e.place v) j 0 ≡ get_or old j 0 + one_if (entry_at (take (k + 1) es) j)
      at j =
          let more = take_entry es k d j l in
          elim (cases_eq e.place j) [
            | inl same ↦
                let new = ap (λ (i : ℕ). get_or (set counts e.place v) i 0) (sym same) ∙ get_or-set_same counts e.place v 0 place_inside in
                let before = not_yet_tallied in
                let front = front_zero 0 (length old) es k d listed l in
                let value : entry_at (take (k + 1) es) j ≡ e.value =
                more ∙ ap (λ z. z +ℤ cond (nat_eq e.place j) e.value (pos 0)) (sym (ap (entry_at (take k es)) same) ∙ front)
                ∙ ap (λ z. pos 0 +ℤ z) (here e j same) ∙ (omega (arith, ints)) in
                let one : one_if (entry_at (take (k + 1) es) j) ≡ 1 =
                ap (λ b. cond b 0 1) (test_of_not_zero (entry_at (take (k + 1) es) j)
                (λ z. (stands_within 0 (length old) es k d listed l).some (sym value ∙ z))) in
                let at_old = ap (λ (i : ℕ). get_or old i 0) same in
                omega arith
            | inr other ↦
                let new = get_or-set_other counts e.place j v 0 (λ same. other (sym same)) in
                let value : entry_at (take (k + 1) es) j ≡ entry_at (take k es) j =
                more ∙ ap (λ z. entry_at (take k es) j +ℤ z) (elsewhere e j other) ∙ (omega (arith, ints)) in
                let one = ap one_if value in
                let before = part.done j in
                omega arith
          ]

pub all_tallied : (old counts : List ℕ) (es : List FreeEntry) (k : ℕ) → length es ≤ k → IsPartlyTallied old counts es k → (j : ℕ) →
    get_or counts j 0 ≡ get_or old j 0 + one_if (entry_at es j)
all_tallied old counts es k past part j = part.done j ∙ ap (λ l. get_or old j 0 + one_if (entry_at l j)) (take_all k es past)

-- ---- near lists

-- an entry stands where the list isn't 0
pub entry_there : (es : List FreeEntry) (j : ℕ) (d : FreeEntry) → entry_at es j ≢ pos 0 → (k : ℕ) × (k < length es) × ((get_or es k d).place ≡ j)
entry_there [] j d some = absurd (some refl)
entry_there (e ∷ es) j d some = elim (cases_eq e.place j) [
  | inl same ↦ (0, omega arith, same)
  | inr other ↦
      let rest = entry_there es j d (λ none. some (let first = elsewhere e j other in omega (arith, ints))) in
      (suc rest.0, omega arith, rest.2)
]

-- an empty list is near
pub near_empty : (counts : List ℕ) (reach : ℕ) (es : List FreeEntry) → length es ≡ 0 → IsNear counts reach (entry_at es)
near_empty counts reach es none = λ j some. absurd (some (no_entry es j none))

-- a list with an entry at a near column is
pub near_entry : (n : ℕ) (counts : List ℕ) (reach : ℕ) (es : List FreeEntry) (k : ℕ) (d : FreeEntry) → IsListed 0 n es → k < length es →
    get_or counts (get_or es k d).place 0 < reach → IsNear counts reach (entry_at es)
near_entry n counts reach es k d listed l small = λ j some. (
  (get_or es k d).place,
  λ none. (stands_within 0 n es k d listed l).some (sym (own_value 0 n es k d listed l) ∙ none),
  small,
)

-- no other one is
pub not_near : (n : ℕ) (counts : List ℕ) (reach : ℕ) (es : List FreeEntry) (d : FreeEntry) → IsListed 0 n es → length es ≢ 0 →
    ((k : ℕ) → k < length es → reach ≤ get_or counts (get_or es k d).place 0) → ¬ (IsNear counts reach (entry_at es))
not_near n counts reach es d listed some far near =
    let first : 0 < length es = omega arith in
    let q = near (get_or es 0 d).place (λ none. (stands_within 0 n es 0 d listed first).some (sym (own_value 0 n es 0 d listed first) ∙ none)) in
    let at = entry_there es q.0 d q.1 in
    let small = q.2 in
    let large = far at.0 at.1 in
    let same = ap (λ (i : ℕ). get_or counts i 0) at.2 in
    omega arith

-- ---- lists cleared by a new one

-- there is a new list if the row has something at its pivot
pub some_new : (new : List FreeEntry) (f : ℕ → ℤ) → times_of new f ≢ pos 0 → 0 < length new
some_new [] f some = absurd (some refl)
some_new (e ∷ new) f some = omega arith

-- a row that is 0 at the pivot of the new list is 0 where it is, cleared
module _ (n : ℕ) (new : List FreeEntry) (f : ℕ → ℤ) (listed : IsListed 0 n new) (none : times_of new f ≡ pos 0) (j : ℕ) where
  pub as_it_was : f j ≡ pos 0 → without_new new f j ≡ pos 0
  as_it_was zero_there = go new none
    where
      go : (list : List FreeEntry) → times_of list f ≡ pos 0 → without_new list f j ≡ pos 0
      go [] e = zero_there
      go (x ∷ list) e =
          let first = ap (λ z. x.value *ℤ z) zero_there ∙ *ℤ-zero x.value in
          let second = ap (λ z. z *ℤ entry_at (x ∷ list) j) e ∙ zero-*ℤ (entry_at (x ∷ list) j) in
          omega (arith, ints)

  pub as_it_is : without_new new f j ≡ pos 0 → f j ≡ pos 0
  as_it_is = go new listed none
    where
      go : (list : List FreeEntry) → IsListed 0 n list → times_of list f ≡ pos 0 → without_new list f j ≡ pos 0 → f j ≡ pos 0
      go [] l e cleared = cleared
      go (x ∷ list) l e cleared =
          let second = ap (λ z. z *ℤ entry_at (x ∷ list) j) e ∙ zero-*ℤ (entry_at (x ∷ list) j) in
          zero_product x.value (f j) (omega (arith, ints)) l.2

-- rows that are 0 together are near together
pub near_alike : (counts : List ℕ) (reach : ℕ) (f g : ℕ → ℤ) → ((j : ℕ) → f j ≡ pos 0 → g j ≡ pos 0) → ((j : ℕ) → g j ≡ pos 0 → f j ≡ pos 0) →
    IsNear counts reach f → IsNear counts reach g
near_alike counts reach f g there back near = λ j some.
    let q = near j (λ none. some (there j none)) in (q.0, λ none. q.1 (back q.0 none), q.2)
