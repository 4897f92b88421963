-- The bits of a marked row, written one after another.
use Rattle.std.proofs.Common.{◌≡◌, ℕ, zero, suc, ◌+◌, ◌-◌, ◌<◌, ◌≤◌, Bool, true, false, cond, ◌&&◌, nat_lt, pos, List, [], ◌∷◌, map, length, get_or, set, refl, sym, ap, ◌∙◌, arith, inl, inr}
use Rattle.std.specs.List.{AllByRecursion}
use Rattle.std.proofs.lemmas.Bool.{cases_eq, cases_lt, lt-ltb, ltb-true, false_from_ne_true}
use Rattle.std.proofs.lemmas.List.{length-map, length-set, get_or-set_same, get_or-set_other, get_or_past, length-append}
use Rattle.audit_types.specs.Rows.{has_row}
use Rattle.audit_types.specs.Truth.{number_at}
use Rattle.audit_types.specs.Form.{set_row}
use Rattle.audit_types.specs.RowNumbers.{number_at-set_row, length-set_row}
use Rattle.audit_types.specs.PrimitiveLines.{same_rows}
use Rattle.audit_types.specs.ListLaws.{all-set}
use Rattle.denial_proof.specs.Kept.{marked_row}
use Rattle.denial_proof.proofs.MarkedRows.{at_column, at_own_mark, at_other_mark}

-- the bit of a column: 1 at the set's rows, 0 past the table
abbrev pub bit_of : ℕ → List ℕ → ℕ → ℕ
bit_of n rows j = cond (nat_lt j n && has_row rows j) 1 0

-- a bit as a number
number_at-bits : (bits : List ℕ) (j : ℕ) → number_at (map pos bits) j ≡ pos (get_or bits j 0)
number_at-bits [] j = refl
number_at-bits (b ∷ bits) zero = refl
number_at-bits (b ∷ bits) (suc j) = number_at-bits bits j

-- a bit is 0 or 1
bit_small : (b : Bool) → cond b 1 0 ≤ 1
bit_small true = omega arith
bit_small false = omega arith

-- so are all bits
small_from : (bits : List ℕ) → ((j : ℕ) → j < length bits → get_or bits j 0 ≤ 1) → AllByRecursion (λ b. b ≤ 1) bits
small_from [] h = tt
small_from (b ∷ bits) h = (h 0 (omega arith), small_from bits (λ j l. h (suc j) (omega arith)))

pub bits_small : (n : ℕ) (rows bits : List ℕ) (at : ℕ) → ((j : ℕ) → j < length bits → get_or bits j 0 ≡ bit_of n rows j) →
    AllByRecursion (λ b. b ≤ 1) (set bits at 1)
bits_small n rows bits at written =
    all-set (λ b. b ≤ 1) bits at 1 (small_from bits (λ j l. let is = written j l in let small = bit_small (nat_lt j n && has_row rows j) in omega arith))
    (omega arith)

module _ (n m mark : ℕ) (rows bits : List ℕ) (size : length bits ≡ n + m) (within : mark < m)
    (written : (j : ℕ) → j < length bits → get_or bits j 0 ≡ bit_of n rows j) where
  -- the columns of the table
  at_rows : (j : ℕ) → j < n → number_at (map pos (set bits (n + mark) 1)) j ≡ number_at (marked_row n m mark rows) j
  at_rows j l =
      let test : nat_lt j n ≡ true = lt-ltb j n l in
      let bit : get_or bits j 0 ≡ cond (has_row rows j) 1 0 = written j (omega arith) ∙ ap (λ b. cond (b && has_row rows j) 1 0) test in
      number_at-bits (set bits (n + mark) 1) j ∙ ap pos (get_or-set_other bits (n + mark) j 1 0 (λ e. omega arith) ∙ bit) ∙ as_number (has_row rows j)
      ∙ sym (at_column n m mark rows j l ∙ number_at-set_row n rows j l)
    where
      as_number : (b : Bool) → pos (cond b 1 0) ≡ cond b (pos 1) (pos 0)
      as_number true = refl
      as_number false = refl

  -- the marks
  at_marks : (i : ℕ) → i < m → number_at (map pos (set bits (n + mark) 1)) (n + i) ≡ number_at (marked_row n m mark rows) (n + i)
  at_marks i l = elim (cases_eq i mark) [
    | inl here ↦
        number_at-bits (set bits (n + mark) 1) (n + i) ∙ ap (λ k. pos (get_or (set bits (n + mark) 1) (n + k) 0)) here
        ∙ ap pos (get_or-set_same bits (n + mark) 1 0 (omega arith))
        ∙ sym (ap (λ k. number_at (marked_row n m mark rows) (n + k)) here ∙ at_own_mark n m mark rows within)
    | inr other ↦
        let test : nat_lt (n + i) n ≡ false = false_from_ne_true (nat_lt (n + i) n) (λ e. let less = ltb-true (n + i) n e in absurd (omega arith)) in
        let bit : get_or bits (n + i) 0 ≡ 0 = written (n + i) (omega arith) ∙ ap (λ b. cond (b && has_row rows (n + i)) 1 0) test in
        number_at-bits (set bits (n + mark) 1) (n + i) ∙ ap pos (get_or-set_other bits (n + mark) (n + i) 1 0 (λ e. other (omega arith)) ∙ bit)
        ∙ sym (at_other_mark n m mark rows i l (λ e. other (sym e)))
  ]

  -- all of it
  pub marked_written : map pos (set bits (n + mark) 1) ≡ marked_row n m mark rows
  marked_written = same_rows (map pos (set bits (n + mark) 1)) (marked_row n m mark rows) lengths entries
    where
      whole : length (marked_row n m mark rows) ≡ n + m
      whole = length-append (set_row n rows) (set_row m (mark ∷ [])) ∙ ap (λ k. k + length (set_row m (mark ∷ []))) (length-set_row n rows)
          ∙ ap (λ k. n + k) (length-set_row m (mark ∷ []))

      written_size : length (map pos (set bits (n + mark) 1)) ≡ n + m
      written_size = length-map (set bits (n + mark) 1) pos ∙ length-set bits (n + mark) 1 ∙ size

      lengths : length (map pos (set bits (n + mark) 1)) ≡ length (marked_row n m mark rows)
      lengths = written_size ∙ sym whole

      entries : (j : ℕ) → number_at (map pos (set bits (n + mark) 1)) j ≡ number_at (marked_row n m mark rows) j
      entries j = elim (cases_lt j n) [
        | inl inside ↦ at_rows j inside
        | inr behind ↦ elim (cases_lt j (n + m)) [
          | inl mark_there ↦
              let place : n + (j - n) ≡ j = omega arith in
              sym (ap (number_at (map pos (set bits (n + mark) 1))) place) ∙ at_marks (j - n) (omega arith) ∙ ap (number_at (marked_row n m mark rows)) place
          | inr past ↦
              get_or_past (map pos (set bits (n + mark) 1)) j (pos 0) (let size_is = written_size in omega arith)
              ∙ sym (get_or_past (marked_row n m mark rows) j (pos 0) (let size_is = whole in omega arith))
        ]
      ]
