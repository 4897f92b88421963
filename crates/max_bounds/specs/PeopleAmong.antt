-- How many people stand behind some rows of others.
use Rattle.std.proofs.Common.{◌≡◌, ◌∙◌, ℕ, ◌+◌, ◌≤◌, Bool, true, false, cond, not, List, [], ◌∷◌, ◌++◌, refl, sym, subst, arith, inl, inr}
use Rattle.std.specs.List.{filter}
use Rattle.std.proofs.lemmas.Bool.{true≢false}
use Rattle.audit_types.specs.Headcount.{Headcount, AreFew, count_at, people_behind}
use Rattle.audit_types.specs.Rows.{has_row, AscendsFrom}
use Rattle.audit_types.specs.RowLaws.{has_first}
use Rattle.audit_types.specs.WalkLaws.{has_later, first_or_later, row_from}

-- behind ascending rows among others there are no more people
pub people_among : (counts : List ℕ) (low n : ℕ) (few many : List ℕ) → AscendsFrom low n few → AscendsFrom low n many →
    ((r : ℕ) → has_row few r ≡ true → has_row many r ≡ true) → people_behind counts few ≤ people_behind counts many
people_among counts low n [] many p q all = omega arith
people_among counts low n (x ∷ few) [] p q all = absurd (true≢false (sym (all x (has_first x few))))
people_among counts low n (x ∷ few) (y ∷ many) p q all = elim (first_or_later y x many (all x (has_first x few))) [
  | inl same ↦
      let rest = people_among counts (x + 1) n few many p.2 (subst (λ k. AscendsFrom (k + 1) n many) same q.2)
      (λ r there. elim (first_or_later y r many (all r (has_later x r few there))) [
        | inl is ↦ absurd (let after = row_from (x + 1) n few r p.2 there in omega arith)
        | inr later ↦ later
      ]) in subst (λ k. (count_at counts x + people_behind counts few) ≤ (count_at counts k + people_behind counts many)) (sym same) (omega (arith, rest))
  | inr behind ↦
      let after = row_from (y + 1) n many x q.2 behind in
      let rest = people_among counts (y + 1) n (x ∷ few) many (omega arith, p.1, p.2) q.2 (λ r there. elim (first_or_later y r many (all r there)) [
        | inl is ↦ absurd (elim (first_or_later x r few there) [
          | inl same ↦ let x_is = same in omega arith
          | inr later ↦ let beyond = row_from (x + 1) n few r p.2 later in omega arith
        ])
        | inr later ↦ later
      ]) in omega (arith, rest)
]

-- so they are few if those behind the others are
pub few_among : (people : Headcount) (n : ℕ) (own few many : List ℕ) → AscendsFrom 0 n few → AscendsFrom 0 n many →
    ((r : ℕ) → has_row few r ≡ true → has_row many r ≡ true) → AreFew people own many → AreFew people own few
few_among people n own few many p q all so_few = let less = people_among people.counts 0 n few many p q all in omega (arith, less, so_few)

-- behind rows that pass one test where they pass another there are no more
pub people_grow : (counts : List ℕ) (p t : ℕ → Bool) (rows : List ℕ) → ((r : ℕ) → has_row rows r ≡ true → p r ≡ true → t r ≡ true) →
    people_behind counts (filter p rows) ≤ people_behind counts (filter t rows)
people_grow counts p t [] h = omega arith
people_grow counts p t (x ∷ rows) h = go (p x) (t x) refl refl (people_grow counts p t rows (λ r there passes. h r (has_later x r rows there) passes))
  where
    go : (a b : Bool) → p x ≡ a → t x ≡ b → people_behind counts (filter p rows) ≤ people_behind counts (filter t rows) →
        people_behind counts (cond (p x) (x ∷ filter p rows) (filter p rows)) ≤ people_behind counts (cond (t x) (x ∷ filter t rows) (filter t rows))
    go true true e f rest = rw (e, f) (omega (arith, rest))
    go true false e f rest = absurd (true≢false (sym (h x (has_first x rows) e) ∙ f))
    go false true e f rest = rw (e, f) (omega (arith, rest))
    go false false e f rest = rw (e, f) rest

-- behind the rows that pass a test and those that don't there are all
pub people_parted : (counts : List ℕ) (test : ℕ → Bool) (rows : List ℕ) →
    people_behind counts rows ≡ people_behind counts (filter test rows) + people_behind counts (filter (λ r. not (test r)) rows)
people_parted counts test [] = refl
people_parted counts test (x ∷ rows) = go (test x) refl (people_parted counts test rows)
  where
    go : (b : Bool) → test x ≡ b →
        people_behind counts rows ≡ people_behind counts (filter test rows) + people_behind counts (filter (λ r. not (test r)) rows) →
        count_at counts x + people_behind counts rows
        ≡ people_behind counts (cond (test x) (x ∷ filter test rows) (filter test rows))
        + people_behind counts (cond (not (test x)) (x ∷ filter (λ r. not (test r)) rows) (filter (λ r. not (test r)) rows))
    go true e rest = rw e (omega (arith, rest))
    go false e rest = rw e (omega (arith, rest))

-- behind two lists of rows there are the people behind both
pub people_together : (counts xs ys : List ℕ) → people_behind counts (xs ++ ys) ≡ people_behind counts xs + people_behind counts ys
people_together counts [] ys = omega arith
people_together counts (x ∷ xs) ys = let rest = people_together counts xs ys in omega (arith, rest)
