use Rattle.std.proofs.Common.{◌≡◌, ℕ, ◌<◌, ◌≤◌, ◌^◌, ℤ, pos, List, length, sym, ap, ◌∙◌, subst, arith}
use Rattle.std.specs.Prelude.{Result, Ok, Err, IfOk, unsigned_abs}
use Rattle.std.specs.List.{AllByRecursion}
use Rattle.std.proofs.lemmas.List.{length-map}
use Rattle.std.proofs.lemmas.Result.{IfOk-weaker}
use Rattle.int_rows.specs.PrimitiveLaws.{one_times}
use Rattle.audit_types.specs.Form.{set_row}
use Rattle.audit_types.specs.ListLaws.{all-unmap}
use Rattle.audit_types.specs.PrimitiveLines.{times}
use Rattle.audit_types.specs.RowNumbers.{length-set_row}
use Rattle.audit_types.specs.Truth.{number_at}
use Rattle.sum_basis.specs.declared.sparse.FreeEntry.{FreeEntry}
use Rattle.sum_basis.specs.declared.sparse.SparseRow.{SparseRow}
use Rattle.sum_basis.specs.Basis.{Echelon}
use Rattle.sum_basis.specs.Elimination.{IsRemainder, IsShortForm}
use Rattle.sum_basis.specs.Growth.{LeavesEntries}
use Rattle.sum_basis.specs.Sparse.{entry_at, row_of, rows_of, entries_of, IsListed}
use Rattle.sum_basis.proofs.ClearedLists.{values_from}
use Rattle.sum_basis.proofs.Ranks.{rank_at_most}
use Rattle.sum_basis.proofs.ShortRows.{bit_of, short_rows}
use Rattle.sum_basis.proofs.Sizes.{small_form}
use Rattle.sum_basis.proofs.form.Form.short_entries.Goals as goal

-- how long the row of the set is
long : (row : List ℤ) (m n k : ℕ) (set : List ℕ) → row ≡ set_row m set → m ≡ n → k ≡ n → length row ≡ k
long row m n k set e p q = ap length e ∙ length-set_row m set ∙ p ∙ sym q

pub write_ones-requires-clause-length : goal.write_ones-requires-clause-length
write_ones-requires-clause-length c = c.requires.length ∙ sym c.requires.n

pub reduce_short-requires-clause-kept : goal.reduce_short-requires-clause-kept
reduce_short-requires-clause-kept c =
    let n = long c.write_ones.new.row c.args.set.now.n c.args.self.now.n c.self.inside.columns c.args.set.now.list c.write_ones.ensures c.requires.n
    (ap (λ (e : Echelon). e.n) c.self.view_is) in
    rw (n, c.deref.ensures.value) c.self.invariant.kept

pub reduce_short-requires-clause-form : goal.reduce_short-requires-clause-form
reduce_short-requires-clause-form c =
    let n = long c.write_ones.new.row c.args.set.now.n c.args.self.now.n c.self.inside.columns c.args.set.now.list c.write_ones.ensures c.requires.n
    (ap (λ (e : Echelon). e.n) c.self.view_is) in
    rw (n, c.deref.ensures.value) (small_form c.self.inside.width c.self.inside.columns _ c.self.invariant.width_fits.1 c.self.invariant.form)

pub reduce_short-requires-clause-short : goal.reduce_short-requires-clause-short
reduce_short-requires-clause-short c =
    rw c.deref.ensures.value (short_rows c.self.inside.columns c.self.inside.rows.items c.self.invariant.kept
    (subst (λ (e : Echelon). IsShortForm e.rows) (sym c.self.view_is) c.requires.short))

pub reduce_short-requires-clause-few : goal.reduce_short-requires-clause-few
reduce_short-requires-clause-few c =
    let rank = rank_at_most c.self.inside.columns
    (rows_of c.self.inside.columns c.self.inside.rows.items) c.self.invariant.form.primitive c.self.invariant.form.echelon in
    let most = c.self.invariant.at_most in
    let l = length-map c.self.inside.rows.items (λ (x : SparseRow). row_of c.self.inside.columns (entries_of x)) in
    let same = ap length c.deref.ensures.value in
    omega arith

pub reduce_short-requires-clause-bits : goal.reduce_short-requires-clause-bits
reduce_short-requires-clause-bits c = λ j. rw c.write_ones.ensures (bit_of c.args.set.now.n c.args.set.now.list j)

pub list_of_short-requires : goal.list_of_short-requires
list_of_short-requires c =
    let n = c.reduce_short.auto.row ∙ c.write_ones.auto.row ∙ c.requires.length in
    let same = ap (λ (e : Echelon). e.n) c.self.view_is in
    let most = c.self.invariant.at_most in
    omega arith

pub returns-clause-left : goal.returns-clause-left
returns-clause-left c =
    let n = long c.write_ones.new.row c.args.set.now.n c.args.self.now.n c.self.inside.columns c.args.set.now.list c.write_ones.ensures c.requires.n
    (ap (λ (e : Echelon). e.n) c.self.view_is) in
    let rows = ap (λ (m : ℕ). rows_of m c.deref.result.now) n ∙ ap (rows_of c.self.inside.columns) c.deref.ensures.value
    ∙ ap (λ (e : Echelon). e.rows) c.self.view_is in
    let row = c.write_ones.ensures ∙ ap (λ (m : ℕ). set_row m c.args.set.now.list) c.requires.n ∙ one_times (set_row c.args.self.now.n c.args.set.now.list) in
    IfOk-weaker c.list_of_short.result (λ list. (j : ℕ) → entry_at list.items j ≡ number_at c.reduce_short.new.row j)
    (λ list. LeavesEntries c.args.self.now (set_row c.args.self.now.n c.args.set.now.list) list.items)
    (λ list is. record {
      row = c.reduce_short.new.row;
      long = c.reduce_short.auto.row ∙ c.write_ones.auto.row ∙ c.requires.length;
      remainder = (
        1,
        omega arith,
        subst (λ (form : List (List ℤ)). IsRemainder form (times (pos 1) (set_row c.args.self.now.n c.args.set.now.list)) c.reduce_short.new.row) rows
            (subst (λ (old : List ℤ). IsRemainder (rows_of (length c.write_ones.new.row) c.deref.result.now) old c.reduce_short.new.row) row
            c.reduce_short.ensures.remainder),
      );
      is = is;
    }) c.list_of_short.ensures.is

pub returns-clause-listed : goal.returns-clause-listed
returns-clause-listed c =
    subst (λ k. IfOk c.list_of_short.result (λ list. IsListed 0 k list.items)) (c.reduce_short.auto.row ∙ c.write_ones.auto.row ∙ c.requires.length)
    c.list_of_short.ensures.listed

-- the numbers of a list that has the numbers of a row
sizes : (row : List ℤ) (list : List FreeEntry) → ((j : ℕ) → unsigned_abs (number_at row j) < 2 ^ 63) → IsListed 0 (length row) list →
    ((j : ℕ) → entry_at list j ≡ number_at row j) → AllByRecursion (λ (e : FreeEntry). unsigned_abs e.value ≤ 2 ^ 126) list
sizes row list small listed is =
    all-unmap (λ (e : FreeEntry). e.value) (λ x. unsigned_abs x ≤ 2 ^ 126) list
    (values_from (λ x. unsigned_abs x ≤ 2 ^ 126) 0 (length row) list listed (λ j. rw (is j) (let at = small j in omega arith)) (omega arith))

-- what two facts of a result say together
both : {A E : Type 0} (r : Result A E) (P Q R : A → Type 0) → ((x : A) → P x → Q x → R x) → IfOk r P → IfOk r Q → IfOk r R
both (Ok x) P Q R f p q = f x p q
both (Err e) P Q R f p q = tt

pub returns-clause-size : goal.returns-clause-size
returns-clause-size c =
    both c.list_of_short.result (λ list. IsListed 0 (length c.reduce_short.new.row) list.items)
    (λ list. (j : ℕ) → entry_at list.items j ≡ number_at c.reduce_short.new.row j)
    (λ list. AllByRecursion (λ (e : FreeEntry). unsigned_abs e.value ≤ 2 ^ 126) list.items)
    (λ list listed is. sizes c.reduce_short.new.row list.items c.reduce_short.ensures.small listed is) c.list_of_short.ensures.listed
    c.list_of_short.ensures.is
