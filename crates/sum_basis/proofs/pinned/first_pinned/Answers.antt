use Rattle.std.proofs.Common.{◌≡◌, ◌++◌, false, [], ◌∷◌, get_or, Some, sym, ap, ◌∙◌, subst, arith, inl, inr}
use Rattle.std.proofs.lemmas.Bool.{cases_eq, false≢true}
use Rattle.audit_types.specs.Form.{InSpan, pivot}
use Rattle.audit_types.specs.Rows.{has_row, IsLeast}
use Rattle.sum_basis.specs.Basis.{unit_row}
use Rattle.sum_basis.specs.RowsWith.{IsPinnedPivot}
use Rattle.sum_basis.specs.Sparse.{row_of}
use Rattle.sum_basis.proofs.PinnedRows.{still_none, first_one, none_of_pivots, spanned_in_grown}
use Rattle.sum_basis.proofs.pinned.first_pinned.Goals as goal
use Rattle.sum_basis.proofs.pinned.first_pinned.Goals.{else-not-has-via-then-not-has+else-is_alone_with, else-not-has-via-else-not-has}

pub loop-k-preserved : goal.loop-k-preserved
loop-k-preserved c = λ j before mine span.
    let form = c.args.form.now in
    let both = form.rows ++ row_of form.n c.args.new.now ∷ [] in
    let shared = c.args.shared.now.list in
    let k = c.loop-k.k in
    elim (cases_eq j k) [
      | inl same ↦
          let at = c.pivot-pivot.ensures.pivot in
          let own : has_row shared (pivot (get_or form.rows k [])) ≡ false = subst (λ i. has_row shared (pivot (get_or form.rows i [])) ≡ false) same mine in
          let here : InSpan both (unit_row form.n (pivot (get_or form.rows k []))) =
          subst (λ i. InSpan both (unit_row form.n (pivot (get_or form.rows i [])))) same span in
          elim c.else-not-has.branch [
            | else-not-has-via-then-not-has+else-is_alone_with w ↦ false≢true (sym w.if-is_alone_with.false ∙ w.is_alone_with.ensures.1 here)
            | else-not-has-via-else-not-has w ↦ false≢true (sym own ∙ ap (has_row shared) (sym at) ∙ sym c.has.ensures ∙ w.if-not-has.false)
          ]
      | inr other ↦ c.loop-k.invariant j (let b = before in omega (arith, other)) mine span
    ]

pub returns-then-is_alone_with : goal.returns-then-is_alone_with
returns-then-is_alone_with c = λ grown reduced small.
    let form = c.args.form.now in
    let new = row_of form.n c.args.new.now in
    let shared = c.args.shared.now.list in
    let f = c.rank-k-end.ensures.form in
    let at = c.pivot-pivot.ensures.pivot in
    let left = c.requires.new in
    let rank = c.rank-k-end.ensures.rank in
    let below = c.loop-k-test.true in
    subst (λ i. IsLeast (IsPinnedPivot form.n form.rows grown shared) (Some i)) (sym at)
    (first_one form.n form.rows new shared f left.0.primitive left.1 grown reduced small c.loop-k.k (omega (arith, rank, below))
    (still_none form.n form.rows new shared f left.0.primitive left.1 grown reduced small c.loop-k.k c.loop-k.invariant)
    (ap (has_row shared) (sym at) ∙ sym c.has.ensures ∙ c.if-not-has.true)
    (spanned_in_grown form.n form.rows new shared f left.0.primitive left.1 grown reduced small _ (c.is_alone_with.ensures.0 c.if-is_alone_with.true)))

pub returns : goal.returns
returns c = λ grown reduced small.
    let form = c.args.form.now in
    let new = row_of form.n c.args.new.now in
    let shared = c.args.shared.now.list in
    let f = c.rank-k-end.ensures.form in
    let left = c.requires.new in
    let rank = c.rank-k-end.ensures.rank in
    none_of_pivots form.n form.rows new shared f left.0.primitive left.1 grown reduced small c.loop-k.k (let past = c.loop-k-test.false in omega arith)
    (still_none form.n form.rows new shared f left.0.primitive left.1 grown reduced small c.loop-k.k c.loop-k.invariant)
