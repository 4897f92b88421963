use Rattle.std.proofs.Common.{◌≡◌, ℕ, ◌+◌, ◌*◌, ◌<◌, ◌≤◌, Bool, true, ℤ, pos, List, length, inr, get_or, nat_eq, refl, sym, ◌∙◌, subst, arith, rules}
use Rattle.std.specs.Prelude.{unsigned_abs, ◌<ℤ◌, FitsSigned}
use Rattle.std.specs.Int.{◌∣◌, w128}
use Rattle.std.specs.List.{AllByRecursion}
use Rattle.std.proofs.lemmas.List.{length-map}
use Rattle.std.proofs.lemmas.Bool.{eqb-true, eq-eqb, ne_eqb, true≢false}
use Rattle.audit_types.specs.Truth.{number_at}
use Rattle.audit_types.specs.Form.{IsPrimitive, pivot, pivot_entries}
use Rattle.sum_basis.specs.declared.sparse.FreeEntry.{FreeEntry}
use Rattle.sum_basis.specs.declared.sparse.SparseRow.{SparseRow}
use Rattle.sum_basis.specs.Basis.{Echelon}
use Rattle.sum_basis.specs.Elimination.{IsWithin}
use Rattle.sum_basis.specs.Sparse.{row_of, rows_of, entries_of, IsKept, IsNew}
use Rattle.sum_basis.proofs.MergedNumbers.{passed}
use Rattle.sum_basis.proofs.ListContents.{none}
use Rattle.sum_basis.proofs.ClearedLists.{is_led}
use Rattle.sum_basis.proofs.KeptRows.{of_row, of_whole_row, nothing_at, lone_new, cleared_at, row_within}
use Rattle.sum_basis.proofs.LookingAhead.{IsLooked, IsGlanced, nothing_glanced, one_more_glanced, glanced_is_looked, glanced_at_once, glanced_to_end, looked_large, foreseen, looked_grows, looked_fixing, looked_open}
use Rattle.sum_basis.proofs.LoneRows.{all_cleared_within}
use Rattle.sum_basis.proofs.BoundedRows.{bounded_by_more}
use Rattle.sum_basis.proofs.SureRows.{rest_stays_within}
use Rattle.sum_basis.proofs.looking.look_by_bounds.Goals as goal

-- at the start
start : (n width : ℕ) (rows : List SparseRow) (new : List FreeEntry) → IsNew n new →
    IsGlanced n width (rows_of n rows) (row_of n new) 0 (nat_eq (length new) 1)
start n width rows new is_new =
    let lone = lone_new n new is_new in
    nothing_glanced n width (rows_of n rows) (row_of n new) (nat_eq (length new) 1)
    (λ t. lone.0 (eqb-true (length new) 1 t), λ is. eq-eqb (length new) 1 (lone.1 is))

pub loop-row-init : goal.loop-row-init
loop-row-init c =
    record {
      glanced = subst (λ b. IsGlanced c.args.columns c.args.width (rows_of c.args.columns c.args.rows.now) (row_of c.args.columns c.args.new.now) 0 b)
          (ne_eqb (length c.args.new.now) 1 c.if-new-eq1.false) (start c.args.columns c.args.width c.args.rows.now c.args.new.now c.requires.new);
      room = c.requires.room;
    }

pub look_at-requires-clause-most : goal.look_at-requires-clause-most
look_at-requires-clause-most c = c.bound_of-most.ensures.values

pub look_at-requires-clause-primitive : goal.look_at-requires-clause-primitive
look_at-requires-clause-primitive c =
    of_whole_row
    (IsPrimitive c.args.columns) c.args.columns c.args.rows.now c.loop-row.row-index c.row-item.result c.loop-row-test.true c.row-item.is
    c.requires.form.primitive

pub look_at-requires-clause-within : goal.look_at-requires-clause-within
look_at-requires-clause-within c =
    of_whole_row (IsWithin c.args.width) c.args.columns c.args.rows.now c.loop-row.row-index c.row-item.result c.loop-row-test.true c.row-item.is
    c.requires.form.entries

pub look_at-requires-clause-zero : goal.look_at-requires-clause-zero
look_at-requires-clause-zero c =
    let kept = of_row (IsKept c.args.columns) c.args.rows.now c.loop-row.row-index c.row-item.result c.loop-row-test.true c.row-item.is c.requires.kept in
    nothing_at c.args.columns c.row-item.result c.args.new.now kept c.requires.new
    (of_whole_row (λ other. number_at (row_of c.args.columns c.args.new.now)
    (pivot other) ≡ pos 0) c.args.columns c.args.rows.now c.loop-row.row-index c.row-item.result c.loop-row-test.true c.row-item.is c.requires.zero)

pub loop-row-preserved : goal.loop-row-preserved
loop-row-preserved c =
    let n = c.args.columns in
    let rows = c.args.rows.now in
    let all = rw c.in-Some.is at c.look_at.ensures.cleared in
    record {
      glanced =
          one_more_glanced n c.args.width (rows_of n rows) (row_of n c.args.new.now) c.loop-row.row-index c.loop-row.fixing all.0 c.in-Some.lone
          c.either-fixing.result
          (row_within n rows c.loop-row.row-index c.loop-row-test.true) c.loop-row.invariant.glanced
          (cleared_at n (row_of n c.args.new.now) rows c.loop-row.row-index c.row-item.result all.0 c.loop-row-test.true c.row-item.is all.1) all.2.0 all.2.1
          c.either-fixing.ensures;
      room = c.look_at.ensures.room;
    }

-- what was looked at, with the least common multiple
looked : (n width : ℕ) (form : List (List ℤ)) (new : List FreeEntry) (k : ℕ) (fixing : Bool) → IsNew n new
    → (m : ℕ) × AllByRecursion (λ x. x ∣ m) (pivot_entries form) × (0 < m) × (unsigned_abs (get_or new 0 none).value * m ≤ width)
    → IsGlanced n width form (row_of n new) k fixing
    → (common : ℤ) × IsLooked n width form (row_of n new) k common fixing
looked n width form new k fixing is_new multiple g =
    let led = is_led n new is_new in
    glanced_is_looked n width form (row_of n new) k multiple.0 fixing is_new.primitive multiple.2 multiple.1
    (subst (λ z. unsigned_abs z * multiple.0 ≤ width) (sym led.pivot_entry_is) multiple.3) g

pub returns-in_default-clause-foresees : goal.returns-in_default-clause-foresees
returns-in_default-clause-foresees c =
    let n = c.args.columns in
    let rows = c.args.rows.now in
    let form : Echelon = record { n = n; width = c.args.width; rows = rows_of n rows } in
    let all = rw c.in_default.is at c.look_at.ensures.cleared in
    let l = looked n c.args.width (rows_of n rows) c.args.new.now c.loop-row.row-index c.loop-row.fixing c.requires.new c.requires.multiple
    c.loop-row.invariant.glanced in
    looked_large form (row_of n c.args.new.now) c.requires.form c.requires.new.primitive c.requires.zero c.loop-row.row-index l.0 c.loop-row.fixing all.0
    (row_within n rows c.loop-row.row-index c.loop-row-test.true) l.1
    (cleared_at n (row_of n c.args.new.now) rows c.loop-row.row-index c.row-item.result all.0 c.loop-row-test.true c.row-item.is all.1) all.2

pub returns-then-fixing-clause-foresees : goal.returns-then-fixing-clause-foresees
returns-then-fixing-clause-foresees c =
    let n = c.args.columns in
    let rows = c.args.rows.now in
    let form : Echelon = record { n = n; width = c.args.width; rows = rows_of n rows } in
    let past : length form.rows ≤ c.loop-row.row-index = let l = length-map rows (λ (x : SparseRow). row_of n (entries_of x)) in omega arith in
    let l = looked n c.args.width (rows_of n rows) c.args.new.now c.loop-row.row-index c.loop-row.fixing c.requires.new c.requires.multiple
    c.loop-row.invariant.glanced in
    let new = row_of n c.args.new.now in (
      foreseen form new c.requires.form c.requires.new.primitive c.requires.zero c.loop-row.row-index l.0 c.loop-row.fixing past l.1 c.requires.new_within,
      looked_grows form new c.requires.form c.requires.new.primitive c.requires.zero c.loop-row.row-index l.0 c.loop-row.fixing past l.1 c.requires.new_within,
      looked_fixing form new c.requires.form c.requires.new.primitive c.requires.zero c.loop-row.row-index l.0 c.loop-row.fixing past l.1 c.requires.new_within
          c.if-fixing.true,
    )

pub returns-then-greatest_bound-sure-clause-foresees : goal.returns-then-greatest_bound-sure-clause-foresees
returns-then-greatest_bound-sure-clause-foresees c =
    let n = c.args.columns in
    let rows = c.args.rows.now in
    let form : Echelon = record { n = n; width = c.args.width; rows = rows_of n rows } in
    let new = row_of n c.args.new.now in
    let k = c.loop-row.row-index in
    let all = rw c.in-Some.is at c.look_at.ensures.cleared in
    let first = one_more_glanced n c.args.width form.rows new k c.loop-row.fixing all.0 c.in-Some.lone true (row_within n rows k c.loop-row-test.true)
    c.loop-row.invariant.glanced (cleared_at n new rows k c.row-item.result all.0 c.loop-row-test.true c.row-item.is all.1) all.2.0 all.2.1
    (λ yes. inr c.if-lone.true, λ either. refl) in
    let fits : FitsSigned w128 c.number-by.result = search rules in
    let enough = rw (passed c.number-by.result (get_or c.args.new.now 0 none).value fits c.number-by.ensures) at c.sure_bound-sure.ensures in
    let rest = rest_stays_within n c.args.width c.args.new.now c.requires.new c.bound_of-most.result c.bound_of-most.ensures.values c.sure_bound-sure.result
    enough (k + 1) rows c.requires.kept c.requires.form.primitive c.requires.form.entries c.requires.zero
    (bounded_by_more c.args.greatest_bound c.sure_bound-sure.result c.if-greatest_bound-sure.true rows c.requires.greatest_bound) in
    let end = length form.rows in
    let l = looked n c.args.width form.rows c.args.new.now end true c.requires.new c.requires.multiple
    (glanced_to_end n c.args.width form.rows new (k + 1) rest.0 first rest.1 rest.2) in (
      foreseen form new c.requires.form c.requires.new.primitive c.requires.zero end l.0 true (omega arith) l.1 c.requires.new_within,
      looked_grows form new c.requires.form c.requires.new.primitive c.requires.zero end l.0 true (omega arith) l.1 c.requires.new_within,
      looked_fixing form new c.requires.form c.requires.new.primitive c.requires.zero end l.0 true (omega arith) l.1 c.requires.new_within refl,
    )

pub returns-then-new-eq1-clause-foresees : goal.returns-then-new-eq1-clause-foresees
returns-then-new-eq1-clause-foresees c =
    let n = c.args.columns in
    let rows = c.args.rows.now in
    let form : Echelon = record { n = n; width = c.args.width; rows = rows_of n rows } in
    let new = row_of n c.args.new.now in
    let made = all_cleared_within n c.args.width c.args.new.now c.requires.new c.if-new-eq1.true rows c.requires.kept c.requires.form.primitive
    c.requires.form.entries
    c.requires.zero in
    let all = length form.rows in
    let l = looked n c.args.width (rows_of n rows) c.args.new.now all true c.requires.new c.requires.multiple
    (glanced_at_once n c.args.width form.rows new made.0 made.1 made.2 ((lone_new n c.args.new.now c.requires.new).0 c.if-new-eq1.true)) in (
      foreseen form new c.requires.form c.requires.new.primitive c.requires.zero all l.0 true (omega arith) l.1 c.requires.new_within,
      looked_grows form new c.requires.form c.requires.new.primitive c.requires.zero all l.0 true (omega arith) l.1 c.requires.new_within,
      looked_fixing form new c.requires.form c.requires.new.primitive c.requires.zero all l.0 true (omega arith) l.1 c.requires.new_within refl,
    )

pub returns-else-fixing-clause-foresees : goal.returns-else-fixing-clause-foresees
returns-else-fixing-clause-foresees c =
    let n = c.args.columns in
    let rows = c.args.rows.now in
    let form : Echelon = record { n = n; width = c.args.width; rows = rows_of n rows } in
    let past : length form.rows ≤ c.loop-row.row-index = let l = length-map rows (λ (x : SparseRow). row_of n (entries_of x)) in omega arith in
    let l = looked n c.args.width (rows_of n rows) c.args.new.now c.loop-row.row-index c.loop-row.fixing c.requires.new c.requires.multiple
    c.loop-row.invariant.glanced in
    let new = row_of n c.args.new.now in (
      foreseen form new c.requires.form c.requires.new.primitive c.requires.zero c.loop-row.row-index l.0 c.loop-row.fixing past l.1 c.requires.new_within,
      looked_grows form new c.requires.form c.requires.new.primitive c.requires.zero c.loop-row.row-index l.0 c.loop-row.fixing past l.1 c.requires.new_within,
      looked_open form new c.requires.form c.requires.new.primitive c.requires.zero c.loop-row.row-index l.0 c.loop-row.fixing past l.1 c.requires.new_within
          (λ t. true≢false (sym t ∙ c.if-fixing.false)),
    )

pub look_at-requires-clause-kept : goal.look_at-requires-clause-kept
look_at-requires-clause-kept c =
    of_row (IsKept c.args.columns) c.args.rows.now c.loop-row.row-index c.row-item.result c.loop-row-test.true c.row-item.is c.requires.kept

pub sure_bound-sure-requires : goal.sure_bound-sure-requires
sure_bound-sure-requires c =
    let new = c.args.new.now in
    let fits : FitsSigned w128 c.number-by.result = search rules in
    let led = is_led c.args.columns new c.requires.new in
    rw (passed c.number-by.result (get_or new 0 none).value fits c.number-by.ensures)
    (record { width = c.requires.width.1; by = (subst (λ z. pos 0 <ℤ z) led.pivot_entry_is c.requires.new.primitive.leading, led.small) })
