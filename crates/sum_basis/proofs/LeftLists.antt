-- Lists of which a multiple is what a new list leaves of entries.
use Rattle.std.proofs.Common.{◌≡◌, ◌≢◌, ℕ, ◌≤◌, ◌^◌, ℤ, pos, List, [], ◌∷◌, get_or, sym, subst, ap, ◌∙◌, arith}
use Rattle.std.specs.Prelude.{◌-ℤ◌, ◌*ℤ◌, unsigned_abs}
use Rattle.std.specs.List.{AllByRecursion}
use Rattle.std.proofs.lemmas.Int.{ints}
use Rattle.std.proofs.Math.IntN.{zero-*ℤ}
use Rattle.audit_types.specs.ListLaws.{all-unmap, all-weaker}
use Rattle.audit_types.specs.Numbers.{product_small}
use Rattle.audit_types.specs.Products.{one-times, times_assoc, product_not_zero, swapped}
use Rattle.sum_basis.specs.Alike.{IsMultipleOf, AreAlikeAfter}
use Rattle.sum_basis.specs.Reach.{AreSmallEntries, times_of, without_new}
use Rattle.sum_basis.specs.Sparse.{entry_at, IsListed, IsMadeList}
use Rattle.sum_basis.specs.declared.sparse.FreeEntry.{FreeEntry}
use Rattle.sum_basis.proofs.ClearedLists.{values_from}
use Rattle.sum_basis.proofs.ListContents.{entry_at-scaled}
use Rattle.sum_basis.proofs.SmallEntries.{entry_small}

-- entries that are 0 at the first place stay, but for a factor
pub stays_after : (n : ℕ) (new entries list : List FreeEntry) → AreSmallEntries n new → times_of new (entry_at entries) ≡ pos 0 → list ≡ entries →
    IsMultipleOf (without_new new (entry_at entries)) (entry_at list)
stays_after n [] entries list small none same = record {
  by = pos 1;
  some = λ e. omega (arith, ints);
  is = λ j. sym (one-times (entry_at entries j)) ∙ ap (λ es. pos 1 *ℤ entry_at es j) (sym same);
}
stays_after n (e ∷ new) entries list small none same = record {
  by = e.value;
  some = small.0.2;
  is = λ j.
      let nothing = ap (λ z. z *ℤ entry_at (e ∷ new) j) none ∙ zero-*ℤ (entry_at (e ∷ new) j) in
      let own = ap (λ es. e.value *ℤ entry_at es j) same in
      omega (arith, ints);
}

-- numbers are themselves
pub own_multiple : (numbers others : ℕ → ℤ) → ((j : ℕ) → others j ≡ numbers j) → IsMultipleOf numbers others
own_multiple numbers others is = record {
  by = pos 1;
  some = λ e. omega (arith, ints);
  is = λ j. sym (is j) ∙ sym (one-times (others j));
}

-- a list over its content
pub over_content_too : (numbers : ℕ → ℤ) (old new : List FreeEntry) → IsMultipleOf numbers (entry_at old) → IsMadeList old new →
    IsMultipleOf numbers (entry_at new)
over_content_too numbers old new is made = record {
  by = is.by *ℤ made.by;
  some = product_not_zero is.by made.by is.some made.not_zero;
  is = λ j.
      is.is j ∙ ap (λ z. is.by *ℤ z) (ap (λ es. entry_at es j) made.is_multiple ∙ entry_at-scaled made.by new j)
      ∙ sym (times_assoc is.by made.by (entry_at new j));
}

-- two multiples of one list
pub alike_by : (new entries others one other : List FreeEntry) → IsMultipleOf (without_new new (entry_at entries)) (entry_at one) →
    IsMultipleOf (without_new new (entry_at others)) (entry_at other) → one ≡ other → AreAlikeAfter new entries others
alike_by new entries others one other first second same = record {
  a = second.by;
  b = first.by;
  a_some = second.some;
  b_some = first.some;
  is = λ j.
      ap (λ z. second.by *ℤ z) (first.is j) ∙ swapped second.by first.by (entry_at one j)
      ∙ ap (λ es. first.by *ℤ (second.by *ℤ entry_at es j)) same ∙ ap (λ z. first.by *ℤ z) (sym (second.is j));
}

-- what is left of small entries isn't large
left_small : (n : ℕ) (list : List FreeEntry) → IsListed 0 n list → ((j : ℕ) → unsigned_abs (entry_at list j) ≤ 2 ^ 126) →
    AllByRecursion (λ (e : FreeEntry). unsigned_abs e.value ≤ 2 ^ 126) list
left_small n list listed small =
    all-unmap (λ (e : FreeEntry). e.value) (λ x. unsigned_abs x ≤ 2 ^ 126) list
    (values_from (λ x. unsigned_abs x ≤ 2 ^ 126) 0 n list listed small (omega arith))

-- what a new list leaves of small entries
without_small : (n : ℕ) (new entries : List FreeEntry) (j : ℕ) → AreSmallEntries n new → AreSmallEntries n entries →
    unsigned_abs (without_new new (entry_at entries) j) ≤ 2 ^ 126
without_small n [] entries j new_small small = let own = entry_small n entries j small in omega (arith, own)
without_small n (e ∷ new) entries j new_small small =
    let first = product_small e.value (entry_at entries j) new_small.1.0 (entry_small n entries j small) in
    let second = product_small (entry_at entries e.place) (entry_at (e ∷ new) j) (entry_small n entries e.place small) (entry_small n (e ∷ new) j new_small) in
    omega (arith, ints)

-- a list of what is left of them has no large entry
pub left_entries_small : (n : ℕ) (new entries list : List FreeEntry) → AreSmallEntries n new → AreSmallEntries n entries → IsListed 0 n list →
    ((j : ℕ) → entry_at list j ≡ without_new new (entry_at entries) j) → AllByRecursion (λ (e : FreeEntry). unsigned_abs e.value ≤ 2 ^ 126) list
left_entries_small n new entries list new_small small listed is =
    left_small n list listed (λ j. subst (λ (z : ℤ). unsigned_abs z ≤ 2 ^ 126) (sym (is j)) (without_small n new entries j new_small small))

-- small entries aren't large
pub small_too : (list entries : List FreeEntry) → list ≡ entries → AllByRecursion (λ (e : FreeEntry). unsigned_abs e.value ≤ 2 ^ 56) entries →
    AllByRecursion (λ (e : FreeEntry). unsigned_abs e.value ≤ 2 ^ 126) list
small_too list entries same small =
    subst (AllByRecursion (λ (e : FreeEntry). unsigned_abs e.value ≤ 2 ^ 126)) (sym same)
    (all-weaker (λ (e : FreeEntry). unsigned_abs e.value ≤ 2 ^ 56) (λ (e : FreeEntry). unsigned_abs e.value ≤ 2 ^ 126)
    (λ e h. omega (arith, h)) entries small)

-- what is cleared by a new list
pub cleared_is : (new entries list : List FreeEntry) (by times : ℤ) (d : FreeEntry) → times ≡ times_of new (entry_at entries) → times ≢ pos 0 →
    by ≡ (get_or new 0 d).value → ((j : ℕ) → entry_at list j ≡ by *ℤ entry_at entries j -ℤ times *ℤ entry_at new j) → (j : ℕ) →
    entry_at list j ≡ without_new new (entry_at entries) j
cleared_is [] entries list by times d times_is some by_is is j = absurd (some times_is)
cleared_is (e ∷ new) entries list by times d times_is some by_is is j =
    is j ∙ ap (λ z. z *ℤ entry_at entries j -ℤ times *ℤ entry_at (e ∷ new) j) by_is
    ∙ ap (λ z. e.value *ℤ entry_at entries j -ℤ z *ℤ entry_at (e ∷ new) j) times_is
