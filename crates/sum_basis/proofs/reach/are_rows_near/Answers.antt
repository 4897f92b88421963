use Rattle.std.proofs.Common.{◌≡◌, ℕ, ◌<◌, ◌≤◌, false, [], length, get_or, refl, sym, ap, ◌∙◌, subst, arith, inl, inr}
use Rattle.std.specs.Vec.{vec_capacity}
use Rattle.std.proofs.lemmas.Bool.{cases_eq, false≢true}
use Rattle.audit_types.specs.Rows.{has_row}
use Rattle.audit_types.specs.Truth.{number_at}
use Rattle.audit_types.specs.Form.{pivot}
use Rattle.sum_basis.specs.Reach.{AreSmallEntries, IsReached, without_new}
use Rattle.sum_basis.specs.Sparse.{entry_at}
use Rattle.sum_basis.proofs.Reaching.{reached, near}
use Rattle.sum_basis.proofs.SmallEntries.{free_small, new_small}
use Rattle.sum_basis.proofs.WithinReach.{has_grown, row_value}
use Rattle.sum_basis.proofs.reach.are_rows_near.Goals as goal
use Rattle.sum_basis.proofs.reach.are_rows_near.Goals.{else-not-has-via-then-not-has+else-not-is_near_row, else-not-has-via-else-not-has}

pub is_near_row-requires-clause-free : goal.is_near_row-requires-clause-free
is_near_row-requires-clause-free c =
    subst (λ (n : ℕ). AreSmallEntries n c.free.result.now) (sym c.columns-columns.ensures.columns)
    (free_small c.args.form.now c.loop-k.k c.free.result.now c.columns-columns.ensures.form (omega (arith, c.rank-k-end.ensures.rank)) c.free.ensures)

pub is_near_row-requires-clause-new : goal.is_near_row-requires-clause-new
is_near_row-requires-clause-new c =
    subst (λ (n : ℕ). AreSmallEntries n c.args.new.now) (sym c.columns-columns.ensures.columns) (new_small c.args.form.now c.args.new.now c.requires.new)

pub returns-then-not-is_near_row-clause-near : goal.returns-then-not-is_near_row-clause-near
returns-then-not-is_near_row-clause-near c = λ grown is.
    let form = c.args.form.now in
    let k = c.loop-k.k in
    let within : k < length form.rows = omega (arith, c.rank-k-end.ensures.rank) in
    let g = has_grown form c.args.new.now grown c.columns-columns.ensures.form c.requires.new is in (
      λ yes. absurd (false≢true yes),
      λ all. absurd (false≢true (sym c.if-not-is_near_row.true ∙ c.is_near_row.ensures.near.1
          (near form.n form.rows c.args.new.now grown g c.args.counts.now c.args.reach (c.requires.counted grown is)
          (λ w. number_at w (pivot (get_or form.rows k []))) (without_new c.args.new.now (entry_at c.free.result.now))
          (row_value form.n form.rows c.args.new.now grown g k c.free.result.now within c.free.ensures)
          (all k within (ap (has_row c.args.shared.now.list) (sym c.pivot.ensures.pivot) ∙ sym c.has.ensures ∙ c.if-not-has.true))))),
    )

pub loop-k-preserved : goal.loop-k-preserved
loop-k-preserved c =
    let form = c.args.form.now in
    let k = c.loop-k.k in
    let within : k < length form.rows = omega (arith, c.rank-k-end.ensures.rank) in
    record {
      near = λ grown is m before own. elim (cases_eq m k) [
        | inl same ↦
            let mine : has_row c.args.shared.now.list (pivot (get_or form.rows k [])) ≡ false =
            subst (λ (i : ℕ). has_row c.args.shared.now.list (pivot (get_or form.rows i [])) ≡ false) same own in
            let here : IsReached form.n c.args.reach grown (λ w. number_at w (pivot (get_or form.rows k []))) =
            elim c.else-not-has.branch [
              | else-not-has-via-then-not-has+else-not-is_near_row w ↦
                  let g = has_grown form c.args.new.now grown c.columns-columns.ensures.form c.requires.new is in
                  reached form.n form.rows c.args.new.now grown g c.args.counts.now c.args.reach (c.requires.counted grown is)
                  (λ x. number_at x (pivot (get_or form.rows k []))) (without_new c.args.new.now (entry_at w.free.result.now))
                  (row_value form.n form.rows c.args.new.now grown g k w.free.result.now within w.free.ensures)
                  (w.is_near_row.ensures.near.0 w.if-not-is_near_row.false)
              | else-not-has-via-else-not-has w ↦
                  absurd (false≢true (sym mine ∙ ap (has_row c.args.shared.now.list) (sym c.pivot.ensures.pivot) ∙ sym c.has.ensures ∙ w.if-not-has.false))
            ] in
            subst (λ (i : ℕ). IsReached form.n c.args.reach grown (λ w. number_at w (pivot (get_or form.rows i [])))) (sym same) here
        | inr other ↦ c.loop-k.invariant.near grown is m (let b = before in omega (arith, other)) own
      ];
      room = elim c.else-not-has.branch [
        | else-not-has-via-then-not-has+else-not-is_near_row w ↦ subst (λ r. c.columns-columns.result ≤ vec_capacity r)
            (sym w.room-is) w.is_near_row.ensures.room
        | else-not-has-via-else-not-has w ↦ subst (λ r. c.columns-columns.result ≤ vec_capacity r) (sym w.room-is) c.loop-k.invariant.room
      ];
    }

pub returns-clause-near : goal.returns-clause-near
returns-clause-near c = λ grown is. (
  λ yes k within own. c.loop-k.invariant.near grown is k (let ends = c.loop-k-test.false in omega (arith, c.rank-k-end.ensures.rank)) own,
  λ all. refl,
)
