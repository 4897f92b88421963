use Rattle.std.proofs.Common.{sym, ◌∙◌, map}
use Rattle.std.proofs.lemmas.Bool.{false≢true}
use Rattle.audit_types.specs.Rows.{Rows}
use Rattle.sum_basis.proofs.SpansWithOneMore.{told_own, told_spanned, told_open}
use Rattle.sum_basis.proofs.guarding.tell_narrow.Goals as goal

pub returns-then-has_own_unit : goal.returns-then-has_own_unit
returns-then-has_own_unit c = λ asked is.
    told_own c.args.form.now asked c.args.weighed.now is c.args.shared.now.list (map (λ (s : Rows). s.list) c.args.apart.now) c.requires.narrow
    ((c.has_own_unit.ensures asked is).0 c.if-has_own_unit.true)

pub returns-then-spans_one_after : goal.returns-then-spans_one_after
returns-then-spans_one_after c = λ asked is.
    told_spanned c.args.form.now asked c.args.weighed.now is c.args.shared.now.list (map (λ (s : Rows). s.list) c.args.apart.now) c.requires.narrow
    (c.spans_one_after.ensures.0 c.if-spans_one_after.true)

pub returns-else-spans_one_after : goal.returns-else-spans_one_after
returns-else-spans_one_after c = λ asked is.
    told_open c.args.form.now asked c.args.weighed.now is c.args.shared.now.list (map (λ (s : Rows). s.list) c.args.apart.now) c.requires.narrow
    (λ own. false≢true (sym c.if-has_own_unit.false ∙ (c.has_own_unit.ensures asked is).1 own))
    (λ found. false≢true (sym c.if-spans_one_after.false ∙ c.spans_one_after.ensures.1 found))
