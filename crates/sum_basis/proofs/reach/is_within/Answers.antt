use Rattle.std.proofs.Common.{ℕ, ◌<◌, [], length, get_or, map, refl, sym, ◌∙◌, arith}
use Rattle.std.proofs.lemmas.Bool.{false≢true, eqb-true}
use Rattle.std.proofs.lemmas.List.Elements.{All-from_recursion}
use Rattle.audit_types.specs.Rows.{Rows}
use Rattle.audit_types.specs.Form.{pivot, IsPrimitive}
use Rattle.audit_types.specs.FormRows.{pivot_below}
use Rattle.sum_basis.specs.Basis.{Echelon}
use Rattle.sum_basis.specs.Elimination.{IsSmallForm}
use Rattle.sum_basis.proofs.Reaching.{all_below, columns_near, new_near, all_within, contains_list}
use Rattle.sum_basis.proofs.WithinReach.{has_grown}
use Rattle.sum_basis.proofs.reach.is_within.Goals as goal

pub returns-then-not-are_columns_near : goal.returns-then-not-are_columns_near
returns-then-not-are_columns_near c = λ grown is.
    let form = c.args.form.now in
    let g = has_grown form c.args.new.now grown c.columns.ensures.form c.requires.new is in
    let counts = c.args.counts.now in
    let are = c.requires.counted grown is in (
      λ yes. absurd (false≢true yes),
      λ within. absurd (false≢true (sym c.if-not-are_columns_near.true ∙ c.are_columns_near.ensures.1
          (λ j below own. columns_near form.n form.rows c.args.new.now grown g counts c.args.reach are c.args.shared.now.list
          (map (λ (s : Rows). s.list) c.args.sets.now) c.requires.reach within j (let all = are.one_each in omega arith) own))),
    )

pub returns-then-not-is_new_near : goal.returns-then-not-is_new_near
returns-then-not-is_new_near c = λ grown is.
    let form = c.args.form.now in
    let g = has_grown form c.args.new.now grown c.columns.ensures.form c.requires.new is in
    let counts = c.args.counts.now in
    let are = c.requires.counted grown is in (
      λ yes. absurd (false≢true yes),
      λ within. absurd (false≢true (sym c.if-not-is_new_near.true ∙ c.is_new_near.ensures.1
          (new_near form.n form.rows c.args.new.now grown g counts c.args.reach are c.args.shared.now.list
          (map (λ (s : Rows). s.list) c.args.sets.now) within))),
    )

-- a pivot of the form is one of its columns
pivot_inside : (form : Echelon) (k : ℕ) → IsSmallForm form.n form.rows → k < length form.rows → pivot (get_or form.rows k []) < form.n
pivot_inside form k f l = pivot_below form.n (get_or form.rows k []) (All-from_recursion (IsPrimitive form.n) form.rows f.primitive k [] l)

pub returns-then-not-are_rows_near : goal.returns-then-not-are_rows_near
returns-then-not-are_rows_near c = λ grown is. (
  λ yes. absurd (false≢true yes),
  λ within. absurd (false≢true (sym c.if-not-are_rows_near.true ∙ (c.are_rows_near.ensures.near grown is).1
      (λ k l own. within.numbers (pivot (get_or c.args.form.now.rows k [])) (pivot_inside c.args.form.now k c.columns.ensures.form l) own))),
)

pub returns-then-are_below : goal.returns-then-are_below
returns-then-are_below c = λ grown is.
    let form = c.args.form.now in
    let g = has_grown form c.args.new.now grown c.columns.ensures.form c.requires.new is in (
      λ yes. all_below form.n form.rows c.args.new.now grown g c.args.counts.now c.args.reach (c.requires.counted grown is) c.args.shared.now.list
          (map (λ (s : Rows). s.list) c.args.sets.now) (c.are_below.ensures c.if-are_below.true),
      λ within. refl,
    )

pub returns-then-is_empty : goal.returns-then-is_empty
returns-then-is_empty c = λ grown is.
    let form = c.args.form.now in
    let g = has_grown form c.args.new.now grown c.columns.ensures.form c.requires.new is in
    let are = c.requires.counted grown is in (
      λ yes. all_within form.n form.rows c.args.new.now grown g c.args.counts.now c.args.reach are c.args.shared.now.list c.args.sets.now
          (λ j l own. c.are_columns_near.ensures.0 c.if-not-are_columns_near.false j (let all = are.one_each in omega arith) own)
          (c.is_new_near.ensures.0 c.if-not-is_new_near.false)
          ((c.are_rows_near.ensures.near grown is).0 c.if-not-are_rows_near.false)
          (λ k d l. absurd (let none = eqb-true (length c.args.sets.now) 0 (sym c.is_empty.ensures ∙ c.if-is_empty.true) in omega arith)),
      λ within. refl,
    )

pub returns : goal.returns
returns c = λ grown is.
    let form = c.args.form.now in
    let g = has_grown form c.args.new.now grown c.columns.ensures.form c.requires.new is in
    let counts = c.args.counts.now in
    let are = c.requires.counted grown is in (
      λ yes. all_within form.n form.rows c.args.new.now grown g counts c.args.reach are c.args.shared.now.list c.args.sets.now
          (λ j l own. c.are_columns_near.ensures.0 c.if-not-are_columns_near.false j (let all = are.one_each in omega arith) own)
          (c.is_new_near.ensures.0 c.if-not-is_new_near.false)
          ((c.are_rows_near.ensures.near grown is).0 c.if-not-are_rows_near.false)
          ((c.are_totals_near.ensures grown is).0 yes),
      λ within. (c.are_totals_near.ensures grown is).1 (λ k d l. within.totals (get_or c.args.sets.now k d).list (contains_list c.args.sets.now k d l)),
    )
