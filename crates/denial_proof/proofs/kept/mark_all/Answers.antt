use Rattle.std.proofs.Common.{◌≡◌, ◌+◌, ◌<◌, ℕ, ℤ, List, map, length, get_or, sym, ap, ◌∙◌, subst, arith, []}
use Rattle.std.proofs.lemmas.List.{take_all, length-map}
use Rattle.audit_types.specs.declared.records.Answered.{Answered}
use Rattle.audit_types.specs.ListLaws.{all-get_or}
use Rattle.audit_types.specs.Form.{IsReducedForm}
use Rattle.sum_basis.specs.Basis.{Echelon}
use Rattle.denial_proof.specs.Weights.{rows_at}
use Rattle.denial_proof.specs.Kept.{marked_row, marked_rows, MarksNext, HasWideFormOf, HasWideFront}
use Rattle.denial_proof.proofs.MarkedFronts.{front_step, length-marked_rows, take_marked, no_wide_front, narrow_push}
use Rattle.denial_proof.proofs.kept.mark_all.Goals as goal

pub returns-then-not-branch-clause-none : goal.returns-then-not-branch-clause-none
returns-then-not-branch-clause-none c = λ few.
    let k = c.loop-mark.mark in
    let r = c.index-history-places.result in
    let place = get_or c.args.places.now k 0 in
    let sets = map (rows_at c.args.history.now) c.args.places.now in
    let size = length-marked_rows c.args.n c.args.marks sets in
    let count = length-map c.args.places.now (rows_at c.args.history.now) in
    let within : place < length c.args.history.now = all-get_or (λ p. p < length c.args.history.now) c.args.places.now k 0 c.requires.there
    c.loop-mark-test.true in
    let at : r.rows.n ≡ c.args.n
    = subst (λ (x : Answered). x.rows.n ≡ c.args.n) (sym c.index-history-places.is)
    (all-get_or (λ (x : Answered). x.rows.n ≡ c.args.n) c.args.history.now place r c.requires.same_n within) in (
      k + 1,
      omega arith,
      front_step HasWideFormOf c.args.n c.args.marks c.args.history.now c.args.places.now k r c.loop-mark.form c.loop-mark-test.true within
          c.index-history-places.is at
          c.loop-mark.invariant.same_n
          c.loop-mark.invariant.reduced (subst (λ (x : Answered). MarksNext c.loop-mark.form x.rows k (HasWideFormOf c.loop-mark.form.n))
          (sym c.index-history-places.is) (c.in_ok-mark_next.ensures.wide c.if-not-branch.true)),
    )

pub loop-mark-init : goal.loop-mark-init
loop-mark-init c =
    let columns = c.args.n + c.args.marks in
    let is = c.in_ok-form.ensures in
    let none : columns ≡ c.args.n + c.args.marks = omega arith in
    let first : IsReducedForm columns [] [] = record { primitive = tt; echelon = tt; within = tt; spans = tt } in record {
      same_n = ap (λ (f : Echelon). f.n) is ∙ sym none;
      same_width = ap (λ (f : Echelon). f.width) is;
      reduced = subst (λ rows. IsReducedForm columns [] rows) (sym (ap (λ (f : Echelon). f.rows) is)) first;
      narrow = no_wide_front c.forms_are_unique.ensures columns
          (marked_rows c.args.n c.args.marks 0 (map (rows_at c.args.history.now) c.args.places.now));
    }

pub loop-mark-preserved : goal.loop-mark-preserved
loop-mark-preserved c =
    let k = c.loop-mark.mark in
    let r = c.index-history-places.result in
    let place = get_or c.args.places.now k 0 in
    let m = c.args.marks in
    let sets = map (rows_at c.args.history.now) c.args.places.now in
    let count = length-map c.args.places.now (rows_at c.args.history.now) in
    let within : place < length c.args.history.now = all-get_or (λ p. p < length c.args.history.now) c.args.places.now k 0 c.requires.there
    c.loop-mark-test.true in
    let at : r.rows.n ≡ c.args.n
    = subst (λ (x : Answered). x.rows.n ≡ c.args.n) (sym c.index-history-places.is)
    (all-get_or (λ (x : Answered). x.rows.n ≡ c.args.n) c.args.history.now place r c.requires.same_n within) in
    let IsFormNow : ℕ → List (List ℤ) → Type 0 = λ n rows. IsReducedForm n rows c.mark_next.new.form.rows in
    let reduced = front_step IsFormNow c.args.n c.args.marks c.args.history.now c.args.places.now k r c.loop-mark.form c.loop-mark-test.true within
    c.index-history-places.is
    at c.loop-mark.invariant.same_n
    c.loop-mark.invariant.reduced (subst (λ (x : Answered). MarksNext c.loop-mark.form x.rows k (IsFormNow c.loop-mark.form.n)) (sym c.index-history-places.is)
    (c.in_ok-mark_next.ensures.added c.if-not-branch.false)) in
    let next = take_marked c.args.n m sets k (omega arith) in record {
      same_n = c.in_ok-mark_next.ensures.n ∙ c.loop-mark.invariant.same_n;
      same_width = c.in_ok-mark_next.ensures.width ∙ c.loop-mark.invariant.same_width;
      reduced = reduced;
      narrow = subst (λ rows. ¬ (HasWideFront (c.args.n + m) rows)) (sym next)
          (narrow_push c.forms_are_unique.ensures (c.args.n + m) _ (marked_row c.args.n m k (get_or sets k [])) c.mark_next.new.form.rows
          c.loop-mark.invariant.narrow
          (subst (λ rows. IsReducedForm (c.args.n + m) rows c.mark_next.new.form.rows) next reduced) c.in_ok-mark_next.ensures.narrow);
    }

pub returns-clause-some : goal.returns-clause-some
returns-clause-some c =
    let sets = map (rows_at c.args.history.now) c.args.places.now in
    let m = c.args.marks in
    let size = length-marked_rows c.args.n m sets in
    let count = length-map c.args.places.now (rows_at c.args.history.now) in
    let all = take_all c.loop-mark.mark (marked_rows c.args.n m 0 sets) (omega arith) in record {
      columns = c.loop-mark.invariant.same_n;
      width = c.loop-mark.invariant.same_width;
      reduced = subst (λ (rows : List (List ℤ)). IsReducedForm (c.args.n + m) rows c.loop-mark.form.rows) all c.loop-mark.invariant.reduced;
      narrow = subst (λ (rows : List (List ℤ)). ¬ (HasWideFront (c.args.n + m) rows)) all c.loop-mark.invariant.narrow;
    }
