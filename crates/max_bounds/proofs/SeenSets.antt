-- Sets that are passed over at once: what holds up to a place holds up to a later one if each set between them keeps it.
use Rattle.std.proofs.Common.{◌≡◌, ℕ, zero, suc, ◌+◌, ◌-◌, ◌^◌, ◌<◌, ◌≤◌, ℤ, List, [], ◌∷◌, ◌++◌, length, take, get_or, sym, ap, subst, arith}
use Rattle.std.specs.Prelude.{bit_and}
use Rattle.std.specs.List.{AllByRecursion}
use Rattle.std.specs.Int.Count.{ones}
use Rattle.std.proofs.lemmas.List.{map_more}
use Rattle.audit_types.specs.Column.{Answer}
use Rattle.audit_types.specs.Headcount.{Headcount, CountPeople}
use Rattle.max_bounds.specs.Kept.{left_of}
use Rattle.max_bounds.specs.Marks.{AreMarkedBy, AreLacking}
use Rattle.max_bounds.specs.Maxima.{answer_of, answers_of}
use Rattle.max_bounds.specs.Outside.{IsWithin, HasWithin}
use Rattle.max_bounds.specs.declared.marks.Marking.{Marking}
use Rattle.max_bounds.proofs.DangerCases.{somebody_each}
use Rattle.max_bounds.proofs.MarkedSets.{left_at}
use Rattle.max_bounds.proofs.NearlyHeld.{AreSeen, seen_more}
use Rattle.max_bounds.proofs.WithinSets.{within-push}
use Rattle.std.specs.Prelude.{pos}
use Rattle.max_bounds.specs.declared.answered.AnsweredMax.{AnsweredMax}

-- a set of no rows, which stands for the one at a place where there is none
pub no_set : AnsweredMax
no_set = record { answer = pos 0; rows = record { n = 0; list = [] } }

module _ (P : List Answer → Type 0) (Q : Answer → Type 0) (more : (seen : List Answer) (a : Answer) → P seen → Q a → P (seen ++ a ∷ []))
    (sets : List AnsweredMax) where
  seen_by : (k d : ℕ) → k + d ≤ length sets → P (answers_of (take k sets)) →
      ((i : ℕ) → k ≤ i → i < k + d → Q (answer_of (get_or sets i no_set))) → P (answers_of (take (k + d) sets))
  seen_by k zero within h each = let same : k + 0 ≡ k = omega arith in subst (λ m. P (answers_of (take m sets))) (sym same) h
  seen_by k (suc d) within h each =
      let same : (k + d) + 1 ≡ k + suc d = omega arith in
      let next : k + d < length sets = omega (arith, within) in
      subst (λ m. P (answers_of (take m sets))) same
      (subst P (sym (map_more answer_of sets (k + d) no_set next))
      (more (answers_of (take (k + d) sets)) (answer_of (get_or sets (k + d) no_set))
      (seen_by k d (omega (arith, within)) h (λ i low less. each i low (omega (arith, less)))) (each (k + d) (omega arith) (omega arith))))

  -- up to a later place
  pub seen_until : (k m : ℕ) → k ≤ m → m ≤ length sets → P (answers_of (take k sets)) →
      ((i : ℕ) → k ≤ i → i < m → Q (answer_of (get_or sets i no_set))) → P (answers_of (take m sets))
  seen_until k m order within h each =
      let same : k + (m - k) ≡ m = omega (arith, order) in
      subst (λ l. P (answers_of (take l sets))) same (seen_by k (m - k) (omega (arith, same, within)) h (λ i low less. each i low (omega (arith, same, less))))

-- of sets that their marks show to have rows outside a question's set none lies in it, and of those that have rows enough there, none has few left
module _ (marking : Marking) (least : List AnsweredMax) (marked : List ℕ) (n : ℕ) (rows : List ℕ) (lacking : ℕ) (is : AreMarkedBy marking least marked)
    (same_n : AllByRecursion (λ p. p.rows.n ≡ n) least) (are : AreLacking marking n rows lacking) (fits : (i : ℕ) → get_or marked i 0 < 2 ^ 64) where
  pub within_until : (value : ℤ) (k m : ℕ) → k ≤ m → m ≤ length least →
      ((i : ℕ) → k ≤ i → i < m → 1 ≤ ones (bit_and (get_or marked i 0) lacking)) → (HasWithin (answers_of (take k least)) rows value → ⊥) →
      HasWithin (answers_of (take m least)) rows value → ⊥
  within_until value k m order within shown none =
      seen_until (λ seen. HasWithin seen rows value → ⊥) (λ a. IsWithin rows value a → ⊥)
      (λ seen a before last. within-push seen a rows value before last) least k m order within none (λ i low less held.
      let left = left_at marking least marked n rows lacking i no_set is same_n are (fits i) (omega (arith, less, within)) in
      let one = shown i low less in
      let none = ap length held.none_left in
      omega (arith, left, one, none))

  pub enough_until : (people : Headcount) (m : ℕ) (counted : CountPeople m people) (enough k later : ℕ) → enough ≡ people.fewest + people.own →
      k ≤ later → later ≤ length least →
      ((i : ℕ) → k ≤ i → i < later → enough ≤ ones (bit_and (get_or marked i 0) lacking)) → AreSeen people (answers_of (take k least)) rows →
      AreSeen people (answers_of (take later least)) rows
  enough_until people m counted enough k later exact order within shown seen =
      seen_until (λ seen. AreSeen people seen rows) (λ a. enough ≤ length (left_of rows a)) (λ seen a before many.
      let left = left_of rows a in
      let each = somebody_each m people counted left in
      let fewest = counted.fewest in
      seen_more people seen rows a before
      (λ none. let empty = ap length none in omega (arith, empty, many, fewest, exact))
      (λ few. omega (arith, many, each, few, exact)))
      least k later order within seen (λ i low less.
      let left = left_at marking least marked n rows lacking i no_set is same_n are (fits i) (omega (arith, less, within)) in
      let many = shown i low less in
      omega (arith, left, many))
