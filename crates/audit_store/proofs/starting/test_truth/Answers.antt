use Rattle.std.proofs.Common.{◌≢◌, rules, refl, sym, ap, subst, arith, FitsSigned, to_z, of_z, ◌∙◌}
use Rattle.std.specs.Int.{w64}
use Rattle.std.proofs.Math.Facts.{to_z-of_z}
use Rattle.std.proofs.lemmas.Option.{slice_get_read, slice_get_within}
use Rattle.audit_types.specs.Shapes.{is_least}
use Rattle.table_load.specs.Database.{secret_table}
use Rattle.answer_journal.specs.declared.refusals.JournalRefusal.{JournalRefusal}
use Rattle.audit_store.specs.Starting.{HistoryCause, stated_answer}
use Rattle.audit_store.proofs.Causes.{same_stated}
use Rattle.audit_store.proofs.LegalHistories.{next_is_true, plain_table}
use Rattle.audit_store.proofs.starting.test_truth.Goals as goal

pub returns-then-now-answered-clause-err : goal.returns-then-now-answered-clause-err
returns-then-now-answered-clause-err c = λ protected.
    let list = c.args.list.now in
    let r = c.index-list-place.result in
    let kept : FitsSigned w64 r.answer = search rules in
    let now : FitsSigned w64 c.truth-now.result = search rules in
    let different : to_z w64 (of_z w64 r.answer) ≢ to_z w64 (of_z w64 c.truth-now.result) = search rules in
    let table = secret_table c.args.secret.now protected in
    subst (λ (f : JournalRefusal). HistoryCause f c.args.secret.now.shape list table) (sym c.untrue.ensures) (
      refl,
      record {
        at = r;
        stands = slice_get_read list _ c.loop-place.place r refl c.loop-place-test.true c.index-list-place.is;
        kept_is = refl;
        now_is = ap (stated_answer table r) (to_z-of_z now ∙ c.truth-now.ensures);
        differ = λ same. different (to_z-of_z kept ∙ same_stated (is_least c.args.secret.now.shape r.column) _ _ same);
        before = c.loop-place.invariant;
      },
    )

pub loop-place-preserved : goal.loop-place-preserved
loop-place-preserved c =
    let list = c.args.list.now in
    let r = c.index-list-place.result in
    let kept : FitsSigned w64 r.answer = search rules in
    let now : FitsSigned w64 c.truth-now.result = search rules in
    let stands = slice_get_read list _ c.loop-place.place r refl c.loop-place-test.true c.index-list-place.is in
    let is = sym (to_z-of_z kept) ∙ (rw c.if-now-answered.false at (to_z-of_z now)) ∙ c.truth-now.ensures in
    next_is_true (plain_table c.args.secret.now) list c.loop-place.place r stands is c.loop-place.invariant

pub returns-clause-ok : goal.returns-clause-ok
returns-clause-ok c =
    λ protected i r here. c.loop-place.invariant i r (omega (arith, slice_get_within c.args.list.now i r here, c.loop-place-test.false)) here
