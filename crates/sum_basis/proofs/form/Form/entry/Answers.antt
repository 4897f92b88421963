use Rattle.std.proofs.Common.{◌+◌, ap, ◌∙◌, arith, rules}
use Rattle.std.specs.Prelude.{FitsSigned}
use Rattle.std.specs.Int.{w128}
use Rattle.std.proofs.lemmas.Int.{to_z-of_z}
use Rattle.sum_basis.specs.Sparse.{entry_at}
use Rattle.sum_basis.proofs.SparseRows.{listed_from, listed_to}
use Rattle.sum_basis.proofs.KeptForms.{kept_row, head_seen, free_seen}
use Rattle.sum_basis.proofs.form.Form.entry.Goals as goal

pub value_at-requires : goal.value_at-requires
value_at-requires c =
    let r = c.index-row.result.now in
    let n = c.self.inside.columns in
    let kept = kept_row n c.self.inside.rows.items c.args.self.now c.self.view_is c.self.invariant.kept c.args.k r c.requires.k c.index-row.ensures in
    let most = c.self.invariant.at_most in
    rw c.deref.ensures.value (listed_to 0 n 65536 r.free.items (omega arith) (listed_from (r.pivot + 1) 0 n r.free.items (omega arith) kept.listed.3))

pub returns-then-column-row : goal.returns-then-column-row
returns-then-column-row c =
    let head : FitsSigned w128 c.index-row.result.now.head = search rules in
    to_z-of_z w128 c.index-row.result.now.head head
    ∙ head_seen c.self.inside.columns c.self.inside.rows.items c.args.self.now c.self.view_is c.self.invariant.kept c.args.k c.index-row.result.now c.requires.k
    c.index-row.ensures c.args.column c.if-column-row.true

pub returns-else-column-row : goal.returns-else-column-row
returns-else-column-row c =
    let value : FitsSigned w128 c.value_at.result = search rules in
    to_z-of_z w128 c.value_at.result value ∙ c.value_at.ensures ∙ ap (λ l. entry_at l c.args.column) c.deref.ensures.value
    ∙ free_seen c.self.inside.columns c.self.inside.rows.items c.args.self.now c.self.view_is c.self.invariant.kept c.args.k c.index-row.result.now c.requires.k
    c.index-row.ensures c.args.column c.if-column-row.false
