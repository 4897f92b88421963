use Rattle.std.proofs.Common.{◌≡◌, ℕ, ℤ, pos, List, length, sym, ap, ◌∙◌, subst, arith, rules}
use Rattle.std.specs.Prelude.{FitsSigned, unsigned_abs, ◌*ℤ◌}
use Rattle.std.specs.Int.{w128, ◌∣◌}
use Rattle.std.specs.List.{AllByRecursion}
use mir.Val.{to_z, of_z}
use Rattle.std.proofs.lemmas.Int.{to_z-of_z}
use Rattle.std.proofs.lemmas.List.{length-map}
use Rattle.audit_types.specs.Truth.{number_at}
use Rattle.audit_types.specs.Form.{IsNarrow, pivot, pivot_entry}
use Rattle.audit_types.specs.Numbers.{size_positive}
use Rattle.audit_types.specs.PrimitiveLines.{times}
use Rattle.sum_basis.specs.declared.sparse.SparseRow.{SparseRow}
use Rattle.sum_basis.specs.Basis.{Echelon}
use Rattle.sum_basis.specs.Elimination.{IsSmall, IsSmallForm, IsRemainder}
use Rattle.sum_basis.specs.Sparse.{row_of, rows_of, entries_of}
use Rattle.sum_basis.proofs.Ranks.{rank_at_most}
use Rattle.sum_basis.proofs.SetRows.{multiple_small, entries_divide}
use Rattle.sum_basis.proofs.WideForms.{is_narrow}
use Rattle.sum_basis.proofs.Sizes.{small_form}
use Rattle.sum_basis.proofs.form.Form.remainder.Goals as goal
use Rattle.sum_basis.proofs.LeastMultiples.{positive_size}

-- what `scale` writes
is_multiple : (row v : List ℤ) (common : ℤ) → FitsSigned w128 common → row ≡ times (to_z w128 (of_z w128 common)) v → row ≡ times common v
is_multiple row v common fits e = e ∙ ap (λ z. times z v) (to_z-of_z w128 common fits)

-- how long it is
long : (row v : List ℤ) (common : ℤ) (n : ℕ) → row ≡ times common v → length v ≡ n → length row ≡ n
long row v common n e l = ap length e ∙ length-map v (λ z. common *ℤ z) ∙ l

pub reduce-requires-clause-few : goal.reduce-requires-clause-few
reduce-requires-clause-few c =
    let rank = rank_at_most c.self.inside.columns
    (rows_of c.self.inside.columns c.self.inside.rows.items) c.self.invariant.form.primitive c.self.invariant.form.echelon in
    let most = c.self.invariant.at_most in
    let l = length-map c.self.inside.rows.items (λ (x : SparseRow). row_of c.self.inside.columns (entries_of x)) in
    let same = ap length c.deref.ensures.value in
    omega arith

pub reduce-requires-clause-small : goal.reduce-requires-clause-small
reduce-requires-clause-small c =
    let fits : FitsSigned w128 c.self.inside.common = search rules in
    subst IsSmall (sym (is_multiple c.scale.new.row c.args.row.now c.self.inside.common fits c.scale.ensures))
    (multiple_small c.args.row.now c.self.inside.common c.requires.bits
    (let within = c.self.invariant.within in let fits = c.self.invariant.width_fits.1 in omega arith))

pub reduce-requires-clause-divides : goal.reduce-requires-clause-divides
reduce-requires-clause-divides c =
    let fits : FitsSigned w128 c.self.inside.common = search rules in
    let is = is_multiple c.scale.new.row c.args.row.now c.self.inside.common fits c.scale.ensures in
    let n = long c.scale.new.row c.args.row.now c.self.inside.common c.self.inside.columns is
    (c.requires.length ∙ sym (ap (λ (e : Echelon). e.n) c.self.view_is)) in
    rw (n, c.deref.ensures.value)
    (subst (λ (row : List ℤ). AllByRecursion (λ r. unsigned_abs (pivot_entry r) ∣ unsigned_abs (number_at row (pivot r)))
    (rows_of c.self.inside.columns c.self.inside.rows.items)) (sym is)
    (entries_divide (rows_of c.self.inside.columns c.self.inside.rows.items) c.args.row.now c.self.inside.common c.self.invariant.multiple.multiple))

pub returns-clause-remainder : goal.returns-clause-remainder
returns-clause-remainder c =
    let fits : FitsSigned w128 c.self.inside.common = search rules in
    let is = is_multiple c.scale.new.row c.args.row.now c.self.inside.common fits c.scale.ensures in
    let n = long c.scale.new.row c.args.row.now c.self.inside.common c.self.inside.columns is
    (c.requires.length ∙ sym (ap (λ (e : Echelon). e.n) c.self.view_is)) in
    let rows = ap (λ (m : ℕ). rows_of m c.deref.result.now) n ∙ ap (rows_of c.self.inside.columns) c.deref.ensures.value
    ∙ ap (λ (e : Echelon). e.rows) c.self.view_is in
    let row = is ∙ ap (λ (z : ℤ). times z c.args.row.now) (positive_size c.self.inside.common c.self.invariant.positive) in (
      unsigned_abs c.self.inside.common,
      size_positive c.self.inside.common c.self.invariant.positive,
      subst (λ (form : List (List ℤ)). IsRemainder form (times (pos (unsigned_abs c.self.inside.common)) c.args.row.now) c.reduce.new.row) rows
          (subst (λ (old : List ℤ). IsRemainder (rows_of (length c.scale.new.row) c.deref.result.now) old c.reduce.new.row) row c.reduce.ensures.remainder),
    )

pub returns-clause-form : goal.returns-clause-form
returns-clause-form c =
    subst (λ (e : Echelon). IsSmallForm e.n e.rows) c.self.view_is
    (small_form c.self.inside.width c.self.inside.columns _ c.self.invariant.width_fits.1 c.self.invariant.form)

pub returns-clause-narrow : goal.returns-clause-narrow
returns-clause-narrow c =
    subst (λ (e : Echelon). IsNarrow e.width e.rows) c.self.view_is
    (is_narrow c.self.inside.columns c.self.inside.width (unsigned_abs c.self.inside.common)
    (rows_of c.self.inside.columns c.self.inside.rows.items) c.self.invariant.form c.self.invariant.multiple c.self.invariant.within)
