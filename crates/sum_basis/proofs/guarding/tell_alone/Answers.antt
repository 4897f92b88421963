use Rattle.std.proofs.Common.{sym, ◌∙◌, [], arith, rules}
use Rattle.std.specs.Prelude.{Option, Vec}
use Rattle.std.specs.declared.alloc.Global.{Global}
use Rattle.std.proofs.lemmas.Bool.{false≢true}
use Rattle.sum_basis.specs.Basis.{Echelon}
use Rattle.sum_basis.specs.Growth.{SpansOneAfter}
use Rattle.sum_basis.specs.declared.sparse.FreeEntry.{FreeEntry}
use Rattle.sum_basis.proofs.SpansWithOneMore.{told_own, told_open}
use Rattle.sum_basis.proofs.guarding.tell_alone.Goals as goal

-- of no sets none lies in the span
none_spanned : (form : Echelon) (left : Option (Vec FreeEntry Global)) → SpansOneAfter form left [] → ⊥
none_spanned form left (set, (k, inside, is), spans) = absurd (omega arith)

pub returns-then-has_own_unit : goal.returns-then-has_own_unit
returns-then-has_own_unit c = λ asked is.
    told_own c.args.form.now asked c.args.weighed.now is c.args.shared.now.list [] (search rules) ((c.has_own_unit.ensures asked is).0 c.if-has_own_unit.true)

pub returns-else-has_own_unit : goal.returns-else-has_own_unit
returns-else-has_own_unit c = λ asked is.
    told_open c.args.form.now asked c.args.weighed.now is c.args.shared.now.list [] (search rules)
    (λ own. false≢true (sym c.if-has_own_unit.false ∙ (c.has_own_unit.ensures asked is).1 own))
    (none_spanned c.args.form.now c.args.weighed.now.list)
