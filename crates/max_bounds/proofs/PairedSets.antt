-- What is read of sets and answers in two lists, and what a change of both leaves.
use Rattle.std.proofs.Common.{◌≡◌, ℕ, zero, suc, ◌<◌, ℤ, List, [], ◌∷◌, map, length, get_or, set, refl, sym, ap, ◌∙◌, arith}
use Rattle.std.specs.Prelude.{pos}
use Rattle.std.specs.List.{AllByRecursion, insert}
use Rattle.audit_types.specs.Rows.{Rows}
use Rattle.audit_types.specs.RowSets.{no_rows}
use Rattle.max_bounds.specs.Maxima.{ListOfMaxima, no_pair, pair_at}
use Rattle.max_bounds.specs.Paired.{paired, maxima_of}
use Rattle.max_bounds.specs.declared.answered.AnsweredMax.{AnsweredMax}
use Rattle.max_bounds.specs.declared.answered_maxima.AnsweredMaxima.TheInside.{Inside}
use Rattle.std.proofs.lemmas.List.{get_or_default}

-- as many as sets
pub length-paired : (answers : List ℤ) (sets : List Rows) → length answers ≡ length sets → length (paired answers sets) ≡ length sets
length-paired [] [] e = refl
length-paired [] (s ∷ sets) e = absurd (omega arith)
length-paired (a ∷ answers) [] e = absurd (omega arith)
length-paired (a ∷ answers) (s ∷ sets) e = ap suc (length-paired answers sets (omega arith))

-- their answers
pub answers-paired : (answers : List ℤ) (sets : List Rows) → length answers ≡ length sets → map (λ (p : AnsweredMax). p.answer) (paired answers sets) ≡ answers
answers-paired [] [] e = refl
answers-paired [] (s ∷ sets) e = absurd (omega arith)
answers-paired (a ∷ answers) [] e = absurd (omega arith)
answers-paired (a ∷ answers) (s ∷ sets) e = ap (λ l. a ∷ l) (answers-paired answers sets (omega arith))

-- the one at a place
pub at-paired : (answers : List ℤ) (sets : List Rows) (k : ℕ) → length answers ≡ length sets →
    get_or (paired answers sets) k no_pair ≡ record { answer = get_or answers k (pos 0); rows = get_or sets k no_rows }
at-paired [] [] k e = refl
at-paired [] (s ∷ sets) k e = absurd (omega arith)
at-paired (a ∷ answers) [] k e = absurd (omega arith)
at-paired (a ∷ answers) (s ∷ sets) zero e = refl
at-paired (a ∷ answers) (s ∷ sets) (suc k) e = at-paired answers sets k (omega arith)

-- with another set at a place
pub set-paired : (answers : List ℤ) (sets : List Rows) (k : ℕ) (rows : Rows) → length answers ≡ length sets →
    paired answers (set sets k rows) ≡ set (paired answers sets) k (record { answer = get_or answers k (pos 0); rows = rows })
set-paired [] [] k rows e = refl
set-paired [] (s ∷ sets) k rows e = absurd (omega arith)
set-paired (a ∷ answers) [] k rows e = absurd (omega arith)
set-paired (a ∷ answers) (s ∷ sets) zero rows e = refl
set-paired (a ∷ answers) (s ∷ sets) (suc k) rows e = ap (λ l. record { answer = a; rows = s } ∷ l) (set-paired answers sets k rows (omega arith))

-- with one more at a place
pub insert-paired : (answers : List ℤ) (sets : List Rows) (k : ℕ) (answer : ℤ) (rows : Rows) → length answers ≡ length sets →
    paired (insert answers k answer) (insert sets k rows) ≡ insert (paired answers sets) k (record { answer = answer; rows = rows })
insert-paired [] [] zero answer rows e = refl
insert-paired [] [] (suc k) answer rows e = refl
insert-paired [] (s ∷ sets) k answer rows e = absurd (omega arith)
insert-paired (a ∷ answers) [] k answer rows e = absurd (omega arith)
insert-paired (a ∷ answers) (s ∷ sets) zero answer rows e = refl
insert-paired (a ∷ answers) (s ∷ sets) (suc k) answer rows e = ap (λ l. record { answer = a; rows = s } ∷ l)
    (insert-paired answers sets k answer rows (omega arith))

-- what holds of all sets holds of them with their answers
pub all-paired : (P : Rows → Type 0) (answers : List ℤ) (sets : List Rows) → AllByRecursion P sets → AllByRecursion (λ (p : AnsweredMax). P p.rows)
    (paired answers sets)
all-paired P [] sets h = tt
all-paired P (a ∷ answers) [] h = tt
all-paired P (a ∷ answers) (s ∷ sets) h = (h.0, all-paired P answers sets h.1)

module _ (a : Inside) (now : ListOfMaxima) (is : maxima_of a ≡ now) (inv : length a.answers.items ≡ length a.sets.list) where
  -- there are as many as sets
  pub count : length now.items ≡ length a.sets.list
  count = ap (λ (m : ListOfMaxima). length m.items) (sym is) ∙ length-paired a.answers.items a.sets.list inv

  -- so a place among them is one among the sets
  pub within : (k : ℕ) → k < length now.items → k < length a.sets.list
  within k l = let same = count in omega arith

  -- the one at a place is the set there with the answer there
  pub pair_is : (k : ℕ) → pair_at now.items k ≡ record { answer = get_or a.answers.items k (pos 0); rows = get_or a.sets.list k no_rows }
  pair_is k = ap (λ (m : ListOfMaxima). pair_at m.items k) (sym is) ∙ at-paired a.answers.items a.sets.list k inv

  -- where the answer is read
  pub answer_is : (k : ℕ) (x : ℤ) → k < length now.items → x ≡ get_or a.answers.items k x → (pair_at now.items k).answer ≡ x
  answer_is k x l read =
      ap (λ (p : AnsweredMax). p.answer) (pair_is k) ∙ get_or_default a.answers.items k (pos 0) x (let same = within k l in omega (arith, inv, same)) ∙ sym read
