-- Laws of rows below a number, and of rows that pass a test.
use Rattle.std.proofs.Common.{◌≡◌, ℕ, ◌+◌, ◌<◌, ◌≤◌, Bool, true, false, cond, ◌&&◌, ◌||◌, List, [], ◌∷◌, ◌==◌, refl, sym, ap, ◌∙◌, arith, inl, inr}
use Rattle.std.specs.List.{filter, AllByRecursion}
use Rattle.std.proofs.lemmas.Bool.{cases_eq, eq-eqb, ne_eqb}
use Rattle.audit_types.specs.Rows.{has_row, AscendsFrom}

-- rows of a table are below any number that is no less than its own
pub rows_within : (low n end : ℕ) (rows : List ℕ) → n ≤ end → AscendsFrom low n rows → AllByRecursion (λ q. q < end) rows
rows_within low n end [] most are = tt
rows_within low n end (q ∷ rows) most are = (omega (arith, are.1), rows_within (q + 1) n end rows most are.2)

-- rows that ascend from a row ascend from each lower one
pub from_lower : (low m n : ℕ) (rows : List ℕ) → low ≤ m → AscendsFrom m n rows → AscendsFrom low n rows
from_lower low m n [] l h = tt
from_lower low m n (r ∷ rows) l h = (omega (arith, h.0), h.1, h.2)

-- a row that passes is there
has_here : (b : Bool) (x r : ℕ) (rest : List ℕ) (p : ℕ → Bool) (later : Bool) → p x ≡ b → has_row rest r ≡ (later && p r) → (x == r) ≡ true → x ≡ r →
    has_row (cond b (x ∷ rest) rest) r ≡ (((x == r) || later) && p r)
has_here true x r rest p later e h test same = rw (test, ← same, e) refl
has_here false x r rest p later e h test same = let gone : p r ≡ false = sym (ap p same) ∙ e in h ∙ rw (test, gone) (elim later as (λ l. (l && false) ≡ false) [ true ↦ refl | false ↦ refl ])

-- another row is as before
has_there : (b : Bool) (x r : ℕ) (rest : List ℕ) (p : ℕ → Bool) (later : Bool) → has_row rest r ≡ (later && p r) → (x == r) ≡ false →
    has_row (cond b (x ∷ rest) rest) r ≡ (((x == r) || later) && p r)
has_there true x r rest p later h test = rw test h
has_there false x r rest p later h test = rw test h

-- whether a row is there
has_kept : (b : Bool) (x r : ℕ) (rest : List ℕ) (p : ℕ → Bool) (later : Bool) → p x ≡ b → has_row rest r ≡ (later && p r) →
    has_row (cond b (x ∷ rest) rest) r ≡ (((x == r) || later) && p r)
has_kept b x r rest p later e h = elim (cases_eq x r) [
  | inl same ↦ has_here b x r rest p later e h (eq-eqb x r same) same
  | inr other ↦ has_there b x r rest p later h (ne_eqb x r other)
]

-- a row is there if it was and passes
pub has_filtered : (p : ℕ → Bool) (rows : List ℕ) (r : ℕ) → has_row (filter p rows) r ≡ (has_row rows r && p r)
has_filtered p [] r = refl
has_filtered p (x ∷ rows) r = has_kept (p x) x r (filter p rows) p (has_row rows r) refl (has_filtered p rows r)
