use Rattle.denial_proof.proofs.OneCanonicalSum.{none_too_wide}
use Rattle.denial_proof.proofs.sums.prove_told.Goals as goal

pub prove_target-requires-clause-marks : goal.prove_target-requires-clause-marks
prove_target-requires-clause-marks c = rw (c.requires.same_n, c.deref-2.ensures.value) c.in_ok-form.ensures.marks

pub prove_target-requires-clause-independent : goal.prove_target-requires-clause-independent
prove_target-requires-clause-independent c = rw (c.requires.same_n, c.deref-2.ensures.value) c.requires.independent

pub prove_target-requires-clause-few : goal.prove_target-requires-clause-few
prove_target-requires-clause-few c = c.requires.askers

pub prove_target-requires-clause-first : goal.prove_target-requires-clause-first
prove_target-requires-clause-first c = rw c.requires.same_n c.requires.first

pub prove_target-requires-clause-spanned : goal.prove_target-requires-clause-spanned
prove_target-requires-clause-spanned c = rw (c.requires.same_n, c.deref-2.ensures.value) c.requires.spanned

pub returns-clause-narrow : goal.returns-clause-narrow
returns-clause-narrow c =
    none_too_wide c.args.sums.now.n c.args.facts.now.history.now c.args.facts.now.protected.now c.args.facts.now.asked.now c.args.told.own
    c.args.marks.now.places.items c.in_ok-form.form c.in_ok-form.ensures.marks c.requires.independent c.args.told.target c.requires.first
    c.prove_target.result (rw c.requires.same_n at c.prove_target.ensures.is)

pub prove_by-requires-clause-numbers : goal.prove_by-requires-clause-numbers
prove_by-requires-clause-numbers c =
    let given = rw c.in-Some.is at c.in_ok-numbers.ensures.numbers in
    rw (c.requires.same_n, c.deref.ensures.value, c.deref-in-Some.ensures.value) given

pub prove_by-requires-clause-independent : goal.prove_by-requires-clause-independent
prove_by-requires-clause-independent c = rw (c.requires.same_n, c.deref.ensures.value) c.requires.independent

pub prove_by-requires-clause-few : goal.prove_by-requires-clause-few
prove_by-requires-clause-few c = c.requires.askers

pub prove_by-requires-clause-first : goal.prove_by-requires-clause-first
prove_by-requires-clause-first c = rw c.requires.same_n c.requires.first

pub prove_by-requires-clause-spanned : goal.prove_by-requires-clause-spanned
prove_by-requires-clause-spanned c = rw (c.requires.same_n, c.deref.ensures.value) c.requires.spanned

pub returns-in-Some-clause-narrow : goal.returns-in-Some-clause-narrow
returns-in-Some-clause-narrow c =
    let given = rw c.in-Some.is at c.in_ok-numbers.ensures.numbers in
    none_too_wide c.args.sums.now.n c.args.facts.now.history.now c.args.facts.now.protected.now c.args.facts.now.asked.now c.args.told.own
    c.args.marks.now.places.items given.form given.marks c.requires.independent c.args.told.target c.requires.first
    c.prove_by.result (rw c.requires.same_n at c.prove_by.ensures.is)
