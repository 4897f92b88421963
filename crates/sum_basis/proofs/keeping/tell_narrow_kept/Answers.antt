use Rattle.std.proofs.Common.{List, ℕ, sym, ap, ◌∙◌, subst, map}
use Rattle.std.proofs.lemmas.Bool.{false≢true}
use Rattle.audit_types.specs.Rows.{Rows}
use Rattle.sum_basis.specs.Growth.{SpansOneAfter}
use Rattle.sum_basis.specs.declared.keeping.KeptSet.{KeptSet}
use Rattle.sum_basis.proofs.KeptSets.{lists_of_kept}
use Rattle.sum_basis.proofs.SpansWithOneMore.{told_own, told_spanned, told_open}
use Rattle.sum_basis.proofs.keeping.tell_narrow_kept.Goals as goal

pub returns-then-has_own_unit-clause-told : goal.returns-then-has_own_unit-clause-told
returns-then-has_own_unit-clause-told c = λ asked is.
    told_own c.args.form.now asked c.args.weighed.now is c.args.shared.now.list (map (λ (s : Rows). s.list) c.args.apart.now) c.requires.narrow
    ((c.has_own_unit.ensures asked is).0 c.if-has_own_unit.true)

pub returns-then-spans_one_kept-clause-told : goal.returns-then-spans_one_kept-clause-told
returns-then-spans_one_kept-clause-told c = λ asked is.
    let lists = ap (map (λ (k : KeptSet). k.rows.list)) c.deref.ensures.value
    ∙ lists_of_kept c.settle_all.new.kept.items c.args.apart.now (c.settle_all.ensures.are ∙ c.in_ok-keep_all.ensures.are) in
    told_spanned c.args.form.now asked c.args.weighed.now is c.args.shared.now.list (map (λ (s : Rows). s.list) c.args.apart.now) c.requires.narrow
    (subst (λ (sets : List (List ℕ)). SpansOneAfter c.args.form.now c.args.weighed.now.list sets) lists (c.spans_one_kept.ensures.0 c.if-spans_one_kept.true))

pub returns-else-spans_one_kept-clause-told : goal.returns-else-spans_one_kept-clause-told
returns-else-spans_one_kept-clause-told c = λ asked is.
    let lists = ap (map (λ (k : KeptSet). k.rows.list)) c.deref.ensures.value
    ∙ lists_of_kept c.settle_all.new.kept.items c.args.apart.now (c.settle_all.ensures.are ∙ c.in_ok-keep_all.ensures.are) in
    told_open c.args.form.now asked c.args.weighed.now is c.args.shared.now.list (map (λ (s : Rows). s.list) c.args.apart.now) c.requires.narrow
    (λ own. false≢true (sym c.if-has_own_unit.false ∙ (c.has_own_unit.ensures asked is).1 own))
    (λ found. false≢true (sym c.if-spans_one_kept.false ∙ c.spans_one_kept.ensures.1
    (subst (λ (sets : List (List ℕ)). SpansOneAfter c.args.form.now c.args.weighed.now.list sets) (sym lists) found)))

pub returns-in_err-keep_all-clause-kept : goal.returns-in_err-keep_all-clause-kept
returns-in_err-keep_all-clause-kept c = c.keep_all.ensures.kept c.args.form.now c.requires.same_n c.requires.kept

pub settle_all-requires-clause-kept : goal.settle_all-requires-clause-kept
settle_all-requires-clause-kept c = c.keep_all.ensures.kept c.args.form.now c.requires.same_n c.requires.kept
