use Rattle.std.proofs.Common.{ℕ, sym, subst, arith}
use Rattle.audit_types.specs.Rows.{AreRows}
use Rattle.sum_basis.specs.Asking.{AreNotAsking}
use Rattle.sum_basis.proofs.ExchangedRows.{asks_but_one, asks_all}
use Rattle.sum_basis.proofs.beside.not_asking.Goals as goal

pub returns-then-len-eq1-clause-rows : goal.returns-then-len-eq1-clause-rows
returns-then-len-eq1-clause-rows c =
    subst (AreNotAsking c.args.several.now.n c.args.several.now.list c.args.set.now.list) (sym c.or_with.ensures.either)
    (asks_but_one c.args.several.now.n c.args.several.now.list c.args.set.now.list (omega (arith, c.len.ensures, c.if-len-eq1.true)))

pub returns-else-len-eq1-clause-rows : goal.returns-else-len-eq1-clause-rows
returns-else-len-eq1-clause-rows c =
    asks_all c.args.several.now.n c.args.several.now.list c.args.set.now.list
    (subst (λ (k : ℕ). AreRows k c.args.set.now.list) c.requires.same_n c.n.ensures.are_rows) c.requires.some
    (λ one. absurd (omega (arith, one, c.len.ensures, c.if-len-eq1.false)))
