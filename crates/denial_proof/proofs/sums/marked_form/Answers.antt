use Rattle.std.proofs.Common.{◌≡◌, ◌∙◌, ℕ, suc, inl, sym, subst}
use Rattle.denial_proof.specs.Canonical.{AreMarksWide}
use Rattle.denial_proof.specs.Kept.{AreMarks, AreMarksOf}
use Rattle.denial_proof.proofs.Tests.{ok_weaker, some_weaker}
use Rattle.denial_proof.proofs.sums.marked_form.Goals as goal

pub form_for-requires-clause-width : goal.form_for-requires-clause-width
form_for-requires-clause-width c = some_weaker (λ form marked. marked.width) c.args.marks.now.form c.requires.marks.marked

pub returns-clause-marks : goal.returns-clause-marks
returns-clause-marks c =
    let asked = c.args.facts.now.asked.now in
    let history = c.args.facts.now.history.now in
    let places = c.args.marks.now.places.items in
    let more = suc c.args.facts.now.protected.now.people.own in
    let same : asked.rows.n ≡ c.args.sums.now.n = c.args.facts.now.same_n ∙ c.requires.same_n in
    let before = subst (λ (k : ℕ). AreMarksOf k asked.column history more places c.args.marks.now.form) (sym same) c.requires.marks in
    ok_weaker (λ form marks. subst (λ (k : ℕ). AreMarks k history asked more c.args.told.own places form) same (marks history more before))
    c.form_for.result c.form_for.ensures.marks

pub returns-clause-wide : goal.returns-clause-wide
returns-clause-wide c = λ fault.
    let asked = c.args.facts.now.asked.now in
    let history = c.args.facts.now.history.now in
    let places = c.args.marks.now.places.items in
    let more = suc c.args.facts.now.protected.now.people.own in
    let same : asked.rows.n ≡ c.args.sums.now.n = c.args.facts.now.same_n ∙ c.requires.same_n in
    let before = subst (λ (k : ℕ). AreMarksOf k asked.column history more places c.args.marks.now.form) (sym same) c.requires.marks in
    inl (record {
      target = c.args.told.target;
      own = c.args.told.own;
      first = c.requires.first;
      marks = subst (λ (k : ℕ). AreMarksWide k history more asked c.args.told.own) same (c.form_for.ensures.wide fault history more before);
    })
