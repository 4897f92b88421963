use Rattle.std.proofs.Common.{◌≡◌, ◌<◌, ℕ, Bool, ◌++◌, arith, sym, ap, ◌∙◌, refl, true, false, ◌&&◌, Some, int_eq, append-nil, to_z, of_z, w64}
use Rattle.std.proofs.lemmas.Int.{ints}
use Rattle.std.specs.Option.{option_eq}
use Rattle.audit_types.specs.Rows.{rows_that, has_row, with_row}
use Rattle.audit_types.specs.RowLaws.{walk_row, walk_more, rows_that_none}
use Rattle.audit_types.specs.Extremes.{upper_bound, is_bound}
use Rattle.audit_types.specs.History.{answers_of}
use Rattle.audit_types.specs.BoundLaws.{is_bound-option_eq}
use Rattle.oracles.proofs.UpperBounds.{filter-rows, rows-taken, rows-passed, rows_of_all}
use Rattle.oracles.proofs.bounds.extremes.Goals as goal

pub loop-row-init : goal.loop-row-init
loop-row-init c = record {
  together = c.into_iter-row-iterator.ensures.into_iter_gives ∙ c.iter-row-items.ensures;
  same_n = c.new-extremes.ensures.n ∙ c.n.ensures.n;
  rows = c.new-extremes.ensures.empty ∙ sym (rows_that_none _ _ (λ r l. refl));
}

row : (c : goal.In-Some) → c.in-Some.row < c.args.answered.now.rows.n
row c = walk_row c.args.answered.now.rows.n c.loop-row.yielded c.loop-row.row-iterator c.next.new.self c.args.answered.now.rows.list c.in-Some.row
    c.n.ensures.are_rows c.loop-row.invariant.together c.in-Some.ensures.steps

pub upper_bound-requires : goal.upper_bound-requires
upper_bound-requires c = rows_of_all c.args.answered.now.rows.n c.in-Some.row c.args.history.now c.requires (row c)

pub add-requires : goal.add-requires
add-requires c =
    let below = walk_row c.args.answered.now.rows.n c.loop-row.yielded c.loop-row.row-iterator c.next.new.self c.args.answered.now.rows.list c.in-Some.row
    c.n.ensures.are_rows c.loop-row.invariant.together c.in-Some.ensures.steps in
    omega (arith, c.loop-row.invariant.same_n)

pub loop-row-preserved-then-eq : goal.loop-row-preserved-then-eq
loop-row-preserved-then-eq c =
    let p : ℕ → Bool = λ r. is_bound (upper_bound (answers_of c.args.answered.now.column c.args.history.now) r) c.args.answered.now.answer in
    let answer : to_z w64 (of_z w64 c.args.answered.now.answer) ≡ c.args.answered.now.answer = omega (arith, ints) in
    let passes : p c.in-Some.row ≡ true =
    sym (is_bound-option_eq (upper_bound (answers_of c.args.answered.now.column c.args.history.now) c.in-Some.row) c.args.answered.now.answer)
    ∙ ap (λ b. option_eq int_eq b (Some c.args.answered.now.answer)) (sym c.upper_bound.ensures)
    ∙ ap (λ a. option_eq int_eq c.upper_bound.result (Some a)) (sym answer) ∙ sym c.eq.ensures ∙ c.if-eq.true in
    record {
      together =
          walk_more c.loop-row.yielded c.loop-row.row-iterator c.next.new.self c.args.answered.now.rows.list c.in-Some.row c.loop-row.invariant.together
          c.in-Some.ensures.steps;
      same_n = c.add.ensures.n ∙ c.loop-row.invariant.same_n;
      rows = c.add.ensures.added ∙ ap (λ n. with_row n c.loop-row.extremes.list c.in-Some.row) c.loop-row.invariant.same_n
          ∙ ap (λ l. with_row c.args.answered.now.rows.n l c.in-Some.row) c.loop-row.invariant.rows
          ∙ rows-taken p c.args.answered.now.rows.n c.loop-row.yielded c.in-Some.row passes;
    }

pub loop-row-preserved : goal.loop-row-preserved
loop-row-preserved c =
    let p : ℕ → Bool = λ r. is_bound (upper_bound (answers_of c.args.answered.now.column c.args.history.now) r) c.args.answered.now.answer in
    let answer : to_z w64 (of_z w64 c.args.answered.now.answer) ≡ c.args.answered.now.answer = omega (arith, ints) in
    let fails : p c.in-Some.row ≡ false =
    sym (is_bound-option_eq (upper_bound (answers_of c.args.answered.now.column c.args.history.now) c.in-Some.row) c.args.answered.now.answer)
    ∙ ap (λ b. option_eq int_eq b (Some c.args.answered.now.answer)) (sym c.upper_bound.ensures)
    ∙ ap (λ a. option_eq int_eq c.upper_bound.result (Some a)) (sym answer) ∙ sym c.eq.ensures ∙ c.if-eq.false in
    record {
      together =
          walk_more c.loop-row.yielded c.loop-row.row-iterator c.next.new.self c.args.answered.now.rows.list c.in-Some.row c.loop-row.invariant.together
          c.in-Some.ensures.steps;
      same_n = c.loop-row.invariant.same_n;
      rows = c.loop-row.invariant.rows ∙ rows-passed p c.args.answered.now.rows.n c.loop-row.yielded c.in-Some.row fails;
    }

pub returns-clause-rows : goal.returns-clause-rows
returns-clause-rows c =
    let p : ℕ → Bool = λ r. is_bound (upper_bound (answers_of c.args.answered.now.column c.args.history.now) r) c.args.answered.now.answer in
    let all : c.loop-row.yielded ≡ c.args.answered.now.rows.list =
    sym (append-nil c.loop-row.yielded) ∙ ap (λ rest. c.loop-row.yielded ++ rest) (sym c.in-None.ensures.steps.0) ∙ c.loop-row.invariant.together in
    c.loop-row.invariant.rows ∙ ap (λ rows. rows_that (λ r. has_row rows r && p r) c.args.answered.now.rows.n) all
    ∙ sym (filter-rows p c.args.answered.now.rows.n c.args.answered.now.rows.list c.n.ensures.are_rows)
