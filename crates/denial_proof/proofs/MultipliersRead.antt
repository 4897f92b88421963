-- The common multiple and the numbers at the marks, read off a form and divided.
use Rattle.std.proofs.Common.{◌≡◌, ℕ, suc, ◌+◌, ◌*◌, ◌≤◌, ◌^◌, ℤ, pos, List, [], ◌∷◌, ◌++◌, length, take, drop, refl, sym, ap, ◌∙◌, subst, arith, inl, inr, add-one, length-append}
use Rattle.std.specs.Prelude.{◌*ℤ◌, ◌<ℤ◌, unsigned_abs}
use Rattle.std.specs.List.{AllByRecursion}
use Rattle.std.proofs.lemmas.Bool.{cases_eq}
use Rattle.std.proofs.lemmas.List.{get_or_append_left, get_or-append-add, length-map, take-append-le, take_all}
use Rattle.sum_basis.specs.Limits.{most_columns}
use Rattle.audit_types.specs.ListLaws.{all-push}
use Rattle.audit_types.specs.Truth.{number_at}
use Rattle.audit_types.specs.Form.{combined}
use Rattle.denial_proof.specs.Numbers.{AreReadSoFar, AreTaken, IsTakenSmall, IsDivided, AreMultipliers}

-- a row for each row is taken
pub length_taken : (common : ℤ) (f : ℕ → ℤ) (form : List (List ℤ)) (taken : List ℤ) → AreTaken common f form taken → length taken ≡ length form
length_taken common f [] taken are = ap length are
length_taken common f (row ∷ form) [] are = absurd are
length_taken common f (row ∷ form) (c ∷ taken) are = ap suc (length_taken common f form taken are.1)

pub read_push : (common : ℤ) (f : ℕ → ℤ) (mark : ℕ) (numbers : List ℤ) (x : ℤ) → AreReadSoFar common f mark numbers → x ≡ f mark →
    unsigned_abs x ≤ 2 ^ 112 * most_columns → AreReadSoFar common f (mark + 1) (numbers ++ x ∷ [])
read_push common f mark numbers x before is small = record {
  one_each = length-append numbers (x ∷ []) ∙ ap (λ k. k + 1) before.one_each;
  first = get_or_append_left numbers (x ∷ []) (pos 0) 0 (let size = before.one_each in omega arith) ∙ before.first;
  exact = λ k l. elim (cases_eq k mark) [
    | inl last ↦
        let place : k + 1 ≡ length numbers + 0 = let size = before.one_each in omega arith in
        ap (number_at (numbers ++ x ∷ [])) place ∙ get_or-append-add numbers (x ∷ []) 0 (pos 0) ∙ is ∙ ap f (sym last)
    | inr earlier ↦ get_or_append_left numbers (x ∷ []) (pos 0) (k + 1) (let size = before.one_each in omega arith) ∙ before.exact k (omega arith)
  ];
  small = all-push (λ y. unsigned_abs y ≤ 2 ^ 112 * most_columns) numbers x before.small small;
}

-- a list of one number more is a first number and the others
first_and_rest : (list : List ℤ) (m : ℕ) → length list ≡ m + 1 → (rest : List ℤ) × (list ≡ number_at list 0 ∷ rest) × (length rest ≡ m)
first_and_rest [] m size = absurd (omega arith)
first_and_rest (x ∷ rest) m size = (rest, refl, omega arith)

-- once they are divided, they are the multipliers
pub multipliers_from : (form : List (List ℤ)) (target : List ℤ) (n m : ℕ) (common : ℤ) (taken old new : List ℤ) → pos 0 <ℤ common →
    unsigned_abs common ≤ 2 ^ 56 → AreTaken common (number_at target) form taken →
    AllByRecursion IsTakenSmall taken → AreReadSoFar common (λ k. combined taken form (n + k)) m old → IsDivided old new → AreMultipliers form target n m new
multipliers_from form target n m common taken old new positive small are few read divided =
    let split = first_and_rest old m read.one_each in
    let whole : old ≡ common ∷ split.0 = split.1 ∙ ap (λ x. x ∷ split.0) read.first in record {
      common = common;
      numbers = split.0;
      positive = positive;
      small = small;
      read = record {
        taken = taken;
        are_taken = are;
        small = few;
        one_each = split.2;
        exact = λ k l. sym (ap (λ (list : List ℤ). number_at list (suc k)) whole) ∙ sym (ap (number_at old) (add-one k)) ∙ read.exact k l;
      };
      divided = subst (λ list. IsDivided list new) whole divided;
    }

-- there is one more than marks
pub length_multipliers : (form : List (List ℤ)) (target : List ℤ) (n m : ℕ) (list : List ℤ) → AreMultipliers form target n m list → length list ≡ m + 1
length_multipliers form target n m list are =
    let factor = are.divided.factor in
    let whole = ap length are.divided.is_multiple in
    let count = length-map list (λ x. factor *ℤ x) in
    let each = are.read.one_each in
    omega arith

-- what a write through a whole list leaves
pub written_whole : (len : ℕ) (new old : List ℤ) → len ≡ length new → take len (new ++ drop (length new) old) ≡ new
written_whole len new old size = take-append-le len new (drop (length new) old) (omega arith) ∙ take_all len new (omega arith)
