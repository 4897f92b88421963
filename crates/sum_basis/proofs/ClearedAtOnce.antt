-- A row that is cleared over a divisor of its values.
use Rattle.std.proofs.Common.{◌≡◌, ℕ, ◌<◌, ℤ, pos, List, ◌∷◌, map, get_or, refl, ◌∙◌, subst, arith}
use Rattle.std.specs.Prelude.{◌*ℤ◌, ◌-ℤ◌, unsigned_abs}
use Rattle.std.specs.Int.{◌∣◌}
use Rattle.std.proofs.lemmas.Int.{ints}
use Rattle.std.proofs.Math.Nat.{dvd-zero}
use Rattle.audit_types.specs.Form.{IsContent, IsPrimitive}
use Rattle.sum_basis.specs.declared.sparse.FreeEntry.{FreeEntry}
use Rattle.sum_basis.specs.declared.sparse.SparseRow.{SparseRow}
use Rattle.sum_basis.specs.Sparse.{entry_at, row_of, IsListed, entries_of, IsKept, scaled, IsNew}
use Rattle.sum_basis.proofs.ListContents.{none, values, entry_at-scaled, over_content}
use Rattle.sum_basis.proofs.Merges.{scaled_listed}
use Rattle.sum_basis.proofs.ClearedLists.{IsResult, result_is}
use Rattle.sum_basis.proofs.OverDivisor.{entries_with, multiples, some_divisor}

-- if each divisor of the pivot entry and of all values divides it, it is their content
pub at_once : (n : ℕ) (r : SparseRow) (new made : List FreeEntry) (g : ℕ) (times p head : ℤ) → IsKept n r → IsPrimitive n (row_of n (entries_of r)) →
    IsNew n new
    → r.pivot < (get_or new 0 none).place → times ≡ entry_at r.free.items (get_or new 0 none).place → p ≡ (get_or new 0 none).value *ℤ r.head
    → IsListed 0 n made → ((j : ℕ) → pos g *ℤ entry_at made j ≡ (get_or new 0 none).value *ℤ entry_at r.free.items j -ℤ times *ℤ entry_at new j)
    → 0 < g → g ∣ unsigned_abs p
    → ((d : ℕ) → d ∣ unsigned_abs p → ((j : ℕ) → d ∣ unsigned_abs ((get_or new 0 none).value *ℤ entry_at r.free.items j -ℤ times *ℤ entry_at new j)) → d ∣ g)
    → p ≡ pos g *ℤ head → IsResult n r new head made
at_once n r new made g times p head kept primitive is_new before times_is e listed combined positive divides greatest is =
    result_is n r new old times p head made kept primitive is_new before times_is old_listed old_is e
    (over_content (pos g) p head old made (omega (arith, ints)) content is refl)
  where
    old : List FreeEntry
    old = map (scaled (pos g)) made

    old_listed : IsListed 0 n old
    old_listed = scaled_listed (pos g) 0 n made (some_divisor g positive) listed

    old_is : (j : ℕ) → entry_at old j ≡ (get_or new 0 none).value *ℤ entry_at r.free.items j -ℤ times *ℤ entry_at new j
    old_is j = entry_at-scaled (pos g) made j ∙ combined j

    content : IsContent (p ∷ values old) g
    content = record {
      divides = (divides, multiples g made);
      greatest = λ d all. greatest d all.0
          (λ j. subst (λ (z : ℤ). d ∣ unsigned_abs z) (old_is j) (entries_with (λ z. d ∣ unsigned_abs z) 0 n old j (dvd-zero d) all.1 old_listed));
    }
