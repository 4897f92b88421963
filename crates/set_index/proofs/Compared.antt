-- Where the rows stand that compare so with a value, by where those below it and those up to it end.
use Rattle.std.proofs.Common.{◌≡◌, ℕ, ◌≤◌, Bool, true, false, not, List, length, refl, sym, ap, ◌∙◌, arith, inl, inr}
use Rattle.std.proofs.lemmas.Bool.{cases_lt, false≢true, true≢false}
use Rattle.std.specs.List.Sorted.{IsPartitionPoint}
use Rattle.std.specs.Ordering.{is_eq, is_ge, is_gt, is_le, is_lt}
use Rattle.std.specs.declared.cmp.Ordering.{Ordering}
use Rattle.std.specs.declared.cmp.Ordering.TheVariants.{Less, Equal, Greater}
use Rattle.set_index.specs.Ranges.{IsRange}

less-eq : (o : Ordering) → is_lt o ≡ true → is_eq o ≡ false
less-eq Less h = refl
less-eq Equal h = absurd (false≢true h)
less-eq Greater h = refl

between-eq : (o : Ordering) → is_lt o ≡ false → is_le o ≡ true → is_eq o ≡ true
between-eq Less h i = absurd (true≢false h)
between-eq Equal h i = refl
between-eq Greater h i = absurd (false≢true i)

greater-eq : (o : Ordering) → is_le o ≡ false → is_eq o ≡ false
greater-eq Less h = refl
greater-eq Equal h = absurd (true≢false h)
greater-eq Greater h = refl

is_gt-not : (o : Ordering) → is_gt o ≡ not (is_le o)
is_gt-not Less = refl
is_gt-not Equal = refl
is_gt-not Greater = refl

is_ge-not : (o : Ordering) → is_ge o ≡ not (is_lt o)
is_ge-not Less = refl
is_ge-not Equal = refl
is_ge-not Greater = refl

less-le : (o : Ordering) → is_lt o ≡ true → is_le o ≡ true
less-le Less h = refl
less-le Equal h = refl
less-le Greater h = absurd (false≢true h)

module _ (value : ℕ → Ordering) (order : List ℕ) where
  -- those below a value end at a place, or those up to it do
  abbrev EndsAt : (Ordering → Bool) → ℕ → Type 0
  EndsAt test at = IsPartitionPoint (λ r. test (value r) ≡ true) (λ r. test (value r) ≡ false) order at

  equal_between : (below within : ℕ) → below ≤ within → within ≤ length order → EndsAt is_lt below → EndsAt is_le within →
      IsRange (λ r. is_eq (value r)) order below within
  equal_between below within le inside less up = record {
    before = λ k d low high. less-eq _ (less.0 k d low high);
    inside = λ k d low high. between-eq _ (less.1 k d low (omega arith)) (up.0 k d (omega arith) high);
    after = λ k d low high. greater-eq _ (up.1 k d low high);
  }

  pub first_range : (test : Ordering → Bool) (at : ℕ) → EndsAt test at → IsRange (λ r. test (value r)) order 0 at
  first_range test at ends = record {
    before = λ k d low high. absurd (omega arith);
    inside = λ k d low high. ends.0 k d low high;
    after = λ k d low high. ends.1 k d low high;
  }

  last_range : (test other : Ordering → Bool) (at : ℕ) → ((o : Ordering) → other o ≡ not (test o)) → EndsAt test at →
      IsRange (λ r. other (value r)) order at (length order)
  last_range test other at opposite ends = record {
    before = λ k d low high. opposite _ ∙ ap not (ends.0 k d low high);
    inside = λ k d low high. opposite _ ∙ ap not (ends.1 k d low high);
    after = λ k d low high. absurd (omega arith);
  }

  pub greater_range : (at : ℕ) → EndsAt is_le at → IsRange (λ r. is_gt (value r)) order at (length order)
  greater_range at ends = last_range is_le is_gt at is_gt-not ends

  pub at_least_range : (at : ℕ) → EndsAt is_lt at → IsRange (λ r. is_ge (value r)) order at (length order)
  at_least_range at ends = last_range is_lt is_ge at is_ge-not ends

  -- those below a value end no later than those up to it
  pub ends_ascend : (below within : ℕ) → below ≤ length order → within ≤ length order → EndsAt is_lt below → EndsAt is_le within → below ≤ within
  ends_ascend below within inside up_inside less up = elim (cases_lt within below) [
    | inl low ↦ absurd (true≢false (sym (less-le _ (less.0 within 0 (omega arith) low)) ∙ up.1 within 0 (omega arith) (omega arith)))
    | inr high ↦ high
  ]

  pub equal_range : (below within : ℕ) → below ≤ length order → within ≤ length order → EndsAt is_lt below → EndsAt is_le within →
      IsRange (λ r. is_eq (value r)) order below within
  equal_range below within inside up_inside less up = equal_between below within (ends_ascend below within inside up_inside less up) up_inside less up
