use Rattle.std.proofs.Common.{sym, ap, ◌∙◌, arith, rules}
use Rattle.std.specs.Prelude.{FitsSigned}
use Rattle.std.specs.Int.{w128}
use Rattle.std.proofs.lemmas.Int.{to_z-of_z}
use Rattle.audit_types.specs.Truth.{number_at}
use Rattle.sum_basis.specs.Sparse.{entry_at}
use Rattle.sum_basis.proofs.SparseRows.{listed_to, number_at-row_of}
use Rattle.sum_basis.proofs.row_with.WholeRow.entry.Goals as goal

pub value_at-requires : goal.value_at-requires
value_at-requires c =
    let few = c.self.invariant.0 in
    rw c.deref.ensures.value (listed_to 0 c.self.inside.columns 65536 c.self.inside.entries.items (omega arith) c.self.invariant.1)

pub returns : goal.returns
returns c =
    let value : FitsSigned w128 c.value_at.result = search rules in
    to_z-of_z w128 c.value_at.result value ∙ c.value_at.ensures ∙ ap (λ l. entry_at l c.args.column) c.deref.ensures.value
    ∙ sym (number_at-row_of 0 c.self.inside.columns c.self.inside.entries.items c.self.invariant.1 c.args.column)
    ∙ ap (λ row. number_at row c.args.column) c.self.view_is
