use Rattle.std.proofs.Common.{◌≡◌, ℕ, ◌<◌, pos, List, [], ◌∷◌, length, get_or, refl, sym, ◌∙◌, arith, rules, subst, IsTrue}
use Rattle.std.specs.Prelude.{FitsSigned}
use Rattle.std.specs.Int.{w128}
use Rattle.std.proofs.lemmas.Int.{to_z-of_z}
use Rattle.std.proofs.lemmas.Bool.{eqb-true}
use Rattle.sum_basis.specs.declared.sparse.FreeEntry.{FreeEntry}
use Rattle.sum_basis.specs.Sparse.{entry_at, IsListed}
use Rattle.sum_basis.proofs.SparseRows.{no_entry, value_from_there, zero_below}
use Rattle.sum_basis.proofs.ListContents.{none}
use Rattle.sum_basis.proofs.cleared_list.value_at.Goals.{then-is_empty-via-then-is_empty, then-is_empty-via-else-is_empty+then-column-entries}
use Rattle.sum_basis.proofs.cleared_list.value_at.Goals as goal

-- nothing stands before the first entry
before_first : (n : ℕ) (es : List FreeEntry) (j : ℕ) → IsListed 0 n es → j < (get_or es 0 none).place → entry_at es j ≡ pos 0
before_first n [] j h before = refl
before_first n (e ∷ es) j h before = zero_below e.place n (e ∷ es) j (omega arith, h.1, h.2, h.3) before

pub returns-then-is_empty : goal.returns-then-is_empty
returns-then-is_empty c = elim c.then-is_empty.branch [
  | then-is_empty-via-then-is_empty w ↦ sym (no_entry c.args.entries.now c.args.column
      (eqb-true (length c.args.entries.now) 0 (subst IsTrue c.is_empty.ensures w.if-is_empty.true)))
  | then-is_empty-via-else-is_empty+then-column-entries w ↦ sym (before_first 65536 c.args.entries.now c.args.column c.requires w.if-column-entries.true)
]

pub returns : goal.returns
returns c =
    let fits : FitsSigned w128 c.value_from.result = search rules in
    let parted = c.places_before-k.ensures.parted in
    to_z-of_z w128 c.value_from.result fits ∙ c.value_from.ensures
    ∙ value_from_there 0 65536 c.args.entries.now c.places_before-k.result c.args.column c.requires (λ i d h l. parted.0 i d (omega arith) h)
    (λ d l. parted.1 c.places_before-k.result d (omega arith) l)
