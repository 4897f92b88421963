use Rattle.std.proofs.Common.{arith}
use Rattle.sum_basis.proofs.SparseRows.{listed_to}
use Rattle.sum_basis.proofs.keeping.forget.Goals as goal

pub value_at-requires : goal.value_at-requires
value_at-requires c =
    let n = c.args.form.now.n in
    let list = c.in-Some.list in
    let left = rw c.in-Some.is at c.requires.1 in
    let most = c.columns.ensures.at_most in
    rw c.deref.ensures.value (listed_to 0 n 65536 list.items (omega arith) left.0.listed)
