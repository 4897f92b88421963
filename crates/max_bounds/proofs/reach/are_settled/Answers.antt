use Rattle.std.proofs.Common.{◌≡◌, Bool, true, false, arith, refl, sym, ap, ◌∙◌, subst, inl, inr, to_z, of_z}
use Rattle.std.specs.Prelude.{not}
use Rattle.std.specs.Int.{w64}
use Rattle.std.proofs.lemmas.Int.{to_z-of_z}
use Rattle.audit_types.specs.RowLaws.{walk_row, walk_more}
use Rattle.max_bounds.specs.Reaching.{bound_at}
use Rattle.max_bounds.specs.Kept.{AreSettled}
use Rattle.audit_types.specs.WalkLaws.{has-push}
use Rattle.max_bounds.proofs.Walks.{equal_bounds, walk_ends}
use Rattle.std.proofs.lemmas.Bool.{true≢false}
use Rattle.max_bounds.proofs.reach.are_settled.Goals as goal

not_false : (b : Bool) → not b ≡ false → b ≡ true
not_false true e = refl
not_false false e = absurd cc

pub bounds-upper-row : goal.bounds-upper-row
bounds-upper-row c =
    let below = walk_row c.args.rows.now.n c.loop-row.yielded c.loop-row.row-iterator c.next.new.self c.args.rows.now.list c.in-Some.row
    c.n.ensures.are_rows c.loop-row.invariant.together c.in-Some.ensures.steps in
    omega arith

pub loop-row-preserved : goal.loop-row-preserved
loop-row-preserved c =
    let equal = equal_bounds _ _ (not_false _ (sym c.ne.ensures ∙ c.if-ne.false)) in
    record {
      together =
          walk_more c.loop-row.yielded c.loop-row.row-iterator c.next.new.self c.args.rows.now.list c.in-Some.row
          c.loop-row.invariant.together c.in-Some.ensures.steps;
      settled = λ r there. elim (has-push c.loop-row.yielded c.in-Some.row r there) [
        | inl before ↦ c.loop-row.invariant.settled r before
        | inr last ↦ ap (bound_at c.args.upper.now) (sym last) ∙ equal
      ];
    }

pub returns : goal.returns
returns c = λ yes.
    let same : to_z w64 (of_z w64 c.args.answer) ≡ c.args.answer = to_z-of_z w64 c.args.answer c.ranges.answer in
    let all = walk_ends c.loop-row.yielded c.loop-row.row-iterator c.args.rows.now.list c.loop-row.invariant.together c.in-None.ensures.steps.0 in
    subst (AreSettled (bound_at c.args.upper.now) c.args.answer) all
    (subst (λ a. AreSettled (bound_at c.args.upper.now) a c.loop-row.yielded) same c.loop-row.invariant.settled)

pub loop-row-init : goal.loop-row-init
loop-row-init c = record {
  together = c.into_iter-row-iterator.ensures.into_iter_gives ∙ c.iter-row-items.ensures;
  settled = λ r there. absurd (true≢false (sym there));
}

pub returns-then-ne : goal.returns-then-ne
returns-then-ne c = λ yes. absurd (true≢false (sym yes))
