use Rattle.std.proofs.Common.{sym, subst}
use Rattle.bench_core.specs.Moments.{still_quiet}
use Rattle.answer_journal.specs.Whole.{AreBehindGate}
use Rattle.answer_journal.proofs.WholeMoments.{all_moments, stands_appended}
use Rattle.answer_journal.proofs.whole.write_whole.Goals as goal

pub returns-in_err-open_over-in-Some-clause-any_moment : goal.returns-in_err-open_over-in-Some-clause-any_moment
returns-in_err-open_over-in-Some-clause-any_moment g c = λ told unmade quiet.
    let are = subst (AreBehindGate c.args.shape.now c.args.list.now) (sym c.deref.ensures.value) c.in_ok-behind.ensures in
    let looked = c.look.ensures.reads in
    all_moments c.args.shape.now c.args.list.now c.deref.result.now c.requires.few c.requires.fit are g.B.Bench _ _ _ unmade looked quiet
    (c.open_over.ensures.any_moment told (still_quiet g.B.Bench _ _ looked quiet))

pub returns-clause-any_moment : goal.returns-clause-any_moment
returns-clause-any_moment g c = λ told unmade quiet.
    let are = subst (AreBehindGate c.args.shape.now c.args.list.now) (sym c.deref.ensures.value) c.in_ok-behind.ensures in
    let looked = c.look.ensures.reads in
    all_moments c.args.shape.now c.args.list.now c.deref.result.now c.requires.few c.requires.fit are g.B.Bench _ _ _ unmade looked quiet
    (c.open_over.ensures.any_moment told (still_quiet g.B.Bench _ _ looked quiet))

pub returns-clause-done : goal.returns-clause-done
returns-clause-done g c = λ told.
    let are = subst (AreBehindGate c.args.shape.now c.args.list.now) (sym c.deref.ensures.value) c.in_ok-behind.ensures in
    stands_appended c.args.shape.now c.args.list.now c.deref.result.now c.requires.few c.requires.fit are _ _ (c.in_ok-open_over-in-Some.ensures.done told)
