-- The blocks that a secret part keeps of its columns.
use Rattle.std.proofs.Common.{◌≡◌, ℕ, ◌+◌, ◌<◌, List, [], length, map, get_or, set, get_or-set_same, get_or-set_other, sym, ap, ◌∙◌, subst, arith, inl, inr, Vec, Global}
use Rattle.std.specs.Prelude.{ℤ}
use Rattle.std.proofs.lemmas.List.{get_or-map}
use Rattle.std.proofs.lemmas.Bool.{cases_eq}
use Rattle.audit_types.specs.Shapes.{kind_at}
use Rattle.audit_types.specs.declared.shapes.Kind.{Kind}
use Rattle.audit_types.specs.declared.shapes.Shape.{Shape}
use Rattle.table_load.specs.Kept.{AreBlocks}

-- a column's list, as contracts see it
pub listed : (lists : List (Vec ℤ Global)) (column : ℕ) (v : Vec ℤ Global) (list : List ℤ) → column < length lists → v ≡ get_or lists column v →
    list ≡ v.items → get_or (map (λ w. w.items) lists) column [] ≡ list
listed lists column v list within is items = get_or-map (λ (w : Vec ℤ Global). w.items) lists column v [] within ∙ ap (λ w. w.items) (sym is) ∙ sym items

-- the blocks of a column are those of its list
pub column_blocks : (kind other : Kind) (n m : ℕ) (list same blocks : List ℤ) → kind ≡ other → n ≡ m → list ≡ same → AreBlocks kind n list blocks →
    AreBlocks other m same blocks
column_blocks kind other n m list same blocks k e l are =
    subst (λ x. AreBlocks x m same blocks) k (subst (λ x. AreBlocks kind x same blocks) e (subst (λ x. AreBlocks kind n x blocks) l are))

-- the blocks of one column more
pub next_column : (shape : Shape) (lists before : List (List ℤ)) (column : ℕ) (blocks : List ℤ) → column < length before →
    ((k : ℕ) → k < column → AreBlocks (kind_at shape k) shape.rows (get_or lists k []) (get_or before k [])) →
    AreBlocks (kind_at shape column) shape.rows (get_or lists column []) blocks →
    (k : ℕ) → k < column + 1 → AreBlocks (kind_at shape k) shape.rows (get_or lists k []) (get_or (set before column blocks) k [])
next_column shape lists before column blocks within so_far are k below = elim (cases_eq k column) [
  | inl here ↦ subst (λ j. AreBlocks (kind_at shape j) shape.rows (get_or lists j []) (get_or (set before column blocks) j [])) (sym here)
      (subst (AreBlocks (kind_at shape column) shape.rows (get_or lists column [])) (sym (get_or-set_same before column blocks [] within)) are)
  | inr other ↦ subst (AreBlocks (kind_at shape k) shape.rows (get_or lists k [])) (sym (get_or-set_other before column k blocks [] other))
      (so_far k (omega arith))
]
