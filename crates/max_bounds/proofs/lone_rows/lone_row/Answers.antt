use Rattle.std.proofs.Common.{◌≡◌, sym, ◌∙◌, inl, inr, to_z, of_z}
use Rattle.std.specs.Int.{w128}
use Rattle.std.proofs.lemmas.Int.{to_z-of_z}
use Rattle.max_bounds.specs.Reaching.{bound_at}
use Rattle.max_bounds.proofs.LoneRows.{counting_begins, counting_found, counting_passed, counting_ends}
use Rattle.max_bounds.proofs.lone_rows.lone_row.Goals as goal
use Rattle.max_bounds.proofs.lone_rows.lone_row.Goals.{then-count-eq0, else-count-eq0}
use Rattle.audit_types.specs.BoundLaws.{is_bound-option_eq}

pub loop-row-init : goal.loop-row-init
loop-row-init c =
    rw (c.into_iter-row-iterator.ensures.into_iter_gives, c.iter-row-items.ensures)
    (counting_begins (bound_at c.args.bounds.now) c.args.rows.now.n c.args.rows.now.list _ c.n.ensures.are_rows c.n.ensures.at_most)

pub loop-row-preserved-then-eq : goal.loop-row-preserved-then-eq
loop-row-preserved-then-eq c =
    counting_found (bound_at c.args.bounds.now) c.args.rows.now.list
    (to_z w128 (of_z w128 c.args.answer)) c.in-Some.row c.next.new.self c.loop-row.count c.loop-row.lone c.if-count-eq0.lone
    (rw c.in-Some.ensures.steps at c.loop-row.invariant)
    (sym (is_bound-option_eq _ (to_z w128 (of_z w128 c.args.answer))) ∙ sym c.eq.ensures ∙ c.if-eq.true)
    (elim c.if-count-eq0.branch [
      | then-count-eq0 w ↦ inl (w.if-count-eq0.true, w.lone-is)
      | else-count-eq0 w ↦ inr (w.if-count-eq0.false, w.lone-is)
    ])

pub loop-row-preserved : goal.loop-row-preserved
loop-row-preserved c =
    counting_passed (bound_at c.args.bounds.now) c.args.rows.now.list
    (to_z w128 (of_z w128 c.args.answer)) c.in-Some.row c.next.new.self c.loop-row.count c.loop-row.lone
    (rw c.in-Some.ensures.steps at c.loop-row.invariant)
    (sym (is_bound-option_eq _ (to_z w128 (of_z w128 c.args.answer))) ∙ sym c.eq.ensures ∙ c.if-eq.false)

pub returns : goal.returns
returns c =
    let same : to_z w128 (of_z w128 c.args.answer) ≡ c.args.answer = to_z-of_z w128 c.args.answer c.ranges.answer in
    let ends = counting_ends (bound_at c.args.bounds.now) c.args.rows.now.list c.args.answer c.loop-row.count c.loop-row.lone
    (rw (same, c.in-None.ensures.steps.0) at c.loop-row.invariant) in
    ends.1
