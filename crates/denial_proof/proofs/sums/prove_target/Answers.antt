use Rattle.std.proofs.Common.{◌≡◌, ◌+◌, ◌<◌, ℕ, suc, length, sym, subst, arith}
use Rattle.std.specs.List.{AllByRecursion}
use Rattle.audit_types.specs.Form.{set_row, pivot}
use Rattle.denial_proof.specs.Certificates.{rows_of}
use Rattle.denial_proof.specs.Numbers.{AreMultipliers}
use Rattle.denial_proof.specs.Weights.{own_rows}
use Rattle.denial_proof.proofs.TargetProofs.{few, enough, below, as_asked}
use Rattle.denial_proof.proofs.sums.prove_target.Goals as goal

pub overflow_cast-kept : goal.overflow_cast-kept
overflow_cast-kept c =
    let facts = c.args.facts.now in
    let fewer = few facts.n facts.protected.now.people.own facts.history.now facts.protected.now facts.asked.now c.args.told.own c.args.places.now
    c.args.form.now c.requires.marks c.requires.few c.requires.independent in
    let most = c.requires.at_most in
    omega arith

pub overflow_add-kept : goal.overflow_add-kept
overflow_add-kept c =
    let facts = c.args.facts.now in
    let fewer = few facts.n facts.protected.now.people.own facts.history.now facts.protected.now facts.asked.now c.args.told.own c.args.places.now
    c.args.form.now c.requires.marks c.requires.few c.requires.independent in
    let most = c.requires.at_most in
    omega arith

pub rows_of-rows-requires-clause-target : goal.rows_of-rows-requires-clause-target
rows_of-rows-requires-clause-target c = c.requires.first.told.is_target

pub multipliers-requires-clause-columns : goal.multipliers-requires-clause-columns
multipliers-requires-clause-columns c =
    let facts = c.args.facts.now in
    let room = enough facts.n facts.protected.now.people.own facts.history.now facts.protected.now facts.asked.now c.args.told.own c.args.places.now
    c.args.form.now c.requires.marks c.requires.few c.requires.independent in
    let columns = c.requires.marks.marked.columns in
    let rows = c.rows_of-rows.ensures.n in
    let beside = c.sets_beside.ensures in
    omega arith

pub multipliers-requires-clause-below : goal.multipliers-requires-clause-below
multipliers-requires-clause-below c =
    let facts = c.args.facts.now in
    subst (λ (k : ℕ). AllByRecursion (λ row. pivot row < k) c.args.form.now.rows) (sym c.rows_of-rows.ensures.n)
    (below facts.n facts.protected.now.people.own facts.history.now facts.protected.now facts.asked.now c.args.told.own c.args.places.now
    c.args.form.now c.requires.marks c.requires.few c.requires.independent)

pub prove_by-requires-clause-numbers : goal.prove_by-requires-clause-numbers
prove_by-requires-clause-numbers c =
    let facts = c.args.facts.now in
    let n = facts.n in
    let places = c.args.places.now in
    let form = c.args.form.now in
    let group = rows_of facts.protected.now c.args.told.target in
    let items = c.in_ok-numbers.numbers.items in
    let m = length places + suc (length (own_rows c.args.told.own)) in
    let mark : (length places) + c.sets_beside.result ≡ m = let beside = c.sets_beside.ensures in omega arith in
    let are : AreMultipliers form.rows (set_row n group) n m items
    = as_asked form.rows n c.rows_of-rows.result.n m group c.rows_of-rows.result.list items c.rows_of-rows.ensures.n c.rows_of-rows.ensures.rows
    (subst (λ (k : ℕ). AreMultipliers form.rows (set_row c.rows_of-rows.result.n c.rows_of-rows.result.list) c.rows_of-rows.result.n k items) mark
    c.in_ok-numbers.ensures.are) in
    record {
      form = form;
      marks = c.requires.marks;
      small = c.columns.ensures.form.entries;
      are = subst (AreMultipliers form.rows (set_row n group) n m) (sym c.deref.ensures.value) are;
    }
