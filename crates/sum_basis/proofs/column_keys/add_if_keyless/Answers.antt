use Rattle.std.proofs.Common.{ℕ, List, refl, sym, ap, ◌∙◌, arith}
use Rattle.audit_types.specs.Rows.{has_row}
use Rattle.sum_basis.proofs.ColumnLists.{not_added}
use Rattle.sum_basis.proofs.column_keys.add_if_keyless.Goals as goal

pub returns-clause-fewer : goal.returns-clause-fewer
returns-clause-fewer c = λ q below h.
    (not_added c.args.keyless.now.n c.args.keyless.now.list c.args.column q (omega (arith, below, c.requires.n))
    (sym (ap (λ (l : List ℕ). has_row l q) c.add.ensures.added) ∙ h)).0

pub returns-clause-own : goal.returns-clause-own
returns-clause-own c = λ h.
    absurd ((not_added c.args.keyless.now.n c.args.keyless.now.list c.args.column c.args.column (omega (arith, c.requires.column, c.requires.n))
    (sym (ap (λ (l : List ℕ). has_row l c.args.column) c.add.ensures.added) ∙ h)).1 refl)
