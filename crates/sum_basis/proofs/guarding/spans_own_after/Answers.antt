use Rattle.std.proofs.Common.{◌≡◌, false, [], length, get_or, sym, ap, ◌∙◌, subst, arith, inl, inr}
use Rattle.std.specs.Prelude.{not}
use Rattle.std.proofs.lemmas.Bool.{cases_eq, false≢true, eqb-true, eq-eqb, not-true}
use Rattle.audit_types.specs.Form.{pivot}
use Rattle.audit_types.specs.Rows.{has_row}
use Rattle.sum_basis.specs.Basis.{unit_row}
use Rattle.sum_basis.specs.Growth.{SpansAfter, SpansOwnAfter}
use Rattle.sum_basis.specs.Sparse.{row_of}
use Rattle.sum_basis.specs.declared.sparse.FreeEntry.{FreeEntry}
use Rattle.sum_basis.proofs.SpansWithOneMore.{first_place}
use Rattle.sum_basis.proofs.OwnRows.{none_at_all}
use Rattle.sum_basis.proofs.AloneRows.{own_at_left}
use Rattle.sum_basis.proofs.guarding.spans_own_after.Goals as goal
use Rattle.sum_basis.proofs.guarding.spans_own_after.Goals.{else-not-has-via-then-not-has+else-is_alone_after, else-not-has-via-else-not-has}

pub loop-k-preserved : goal.loop-k-preserved
loop-k-preserved c = λ j before mine span.
    let form = c.args.form.now in
    let k = c.loop-k.k in
    elim (cases_eq j k) [
      | inl same ↦
          let at = c.pivot.ensures.pivot in
          let own : has_row c.args.shared.now.list (pivot (get_or form.rows k [])) ≡ false =
          subst (λ i. has_row c.args.shared.now.list (pivot (get_or form.rows i [])) ≡ false) same mine in
          let here : SpansAfter form c.args.left.now (unit_row form.n (pivot (get_or form.rows k []))) =
          subst (λ i. SpansAfter form c.args.left.now (unit_row form.n (pivot (get_or form.rows i [])))) same span in
          elim c.else-not-has.branch [
            | else-not-has-via-then-not-has+else-is_alone_after w ↦
                false≢true (sym w.if-is_alone_after.false ∙ w.is_alone_after.ensures.1 here)
            | else-not-has-via-else-not-has w ↦
                false≢true (sym own ∙ ap (has_row c.args.shared.now.list) (sym at) ∙ sym c.has.ensures ∙ w.if-not-has.false)
          ]
      | inr other ↦ c.loop-k.invariant j (let b = before in omega (arith, other)) mine span
    ]

pub returns-then-len-eq1 : goal.returns-then-len-eq1
returns-then-len-eq1 c =
    let form = c.args.form.now in
    let list = c.in-Some.list in
    let over = rw c.in-Some.is at c.requires.left in
    let rank = c.rank-k-end.ensures.rank in
    let place : pivot (row_of form.n list.items) ≡ c.index.result.now.place =
    first_place form.n list.items c.index.result.now over.0.some over.0.listed ∙ ap (λ (e : FreeEntry). e.place) (sym c.index.ensures) in
    let told = own_at_left form c.rank-k-end.ensures.form list over c.args.shared.now.list (λ j below mine span.
    c.loop-k.invariant j (let ends = c.loop-k-test.false in omega arith) mine
    (subst (λ o. SpansAfter form o (unit_row form.n (pivot (get_or form.rows j [])))) (sym c.in-Some.is) span)) in
    let one : length list.items ≡ 1 = omega (arith, list.ok.0, c.len.ensures, c.if-len-eq1.true) in
    let at = c.has-then-len-eq1.ensures ∙ ap (has_row c.args.shared.now.list) (sym place) in (
      λ yes. subst (λ o. SpansOwnAfter form o c.args.shared.now.list) (sym c.in-Some.is) (told.1 (one, sym at ∙ not-true c.has-then-len-eq1.result yes)),
      λ found. ap not (at ∙ (told.0 (subst (λ o. SpansOwnAfter form o c.args.shared.now.list) c.in-Some.is found)).1),
    )

pub returns-else-len-eq1 : goal.returns-else-len-eq1
returns-else-len-eq1 c =
    let form = c.args.form.now in
    let list = c.in-Some.list in
    let over = rw c.in-Some.is at c.requires.left in
    let rank = c.rank-k-end.ensures.rank in
    let told = own_at_left form c.rank-k-end.ensures.form list over c.args.shared.now.list (λ j below mine span.
    c.loop-k.invariant j (let ends = c.loop-k-test.false in omega arith) mine
    (subst (λ o. SpansAfter form o (unit_row form.n (pivot (get_or form.rows j [])))) (sym c.in-Some.is) span)) in (
      λ yes. absurd (c.if-len-eq1.false (eqb-true c.len.result 1 yes)),
      λ found. eq-eqb c.len.result 1 (c.len.ensures ∙ list.ok.0 ∙ (told.0 (subst (λ o. SpansOwnAfter form o c.args.shared.now.list) c.in-Some.is found)).0),
    )

pub returns-in-None : goal.returns-in-None
returns-in-None c = (
  λ yes. absurd (false≢true yes),
  λ found.
      let form = c.args.form.now in
      let rank = c.rank-k-end.ensures.rank in
      absurd (none_at_all form c.rank-k-end.ensures.form c.args.shared.now.list found.0 found.1 found.2
      (λ j below mine span. c.loop-k.invariant j (let ends = c.loop-k-test.false in omega arith) mine
      (subst (λ o. SpansAfter form o (unit_row form.n (pivot (get_or form.rows j [])))) (sym c.in-None.is) span))
      (subst (λ o. SpansAfter form o (unit_row form.n found.0)) c.in-None.is found.3)),
)
