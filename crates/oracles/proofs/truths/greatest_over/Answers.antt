use Rattle.std.proofs.Common.{◌≡◌, ℕ, ◌^◌, ◌≤ℤ◌, negsuc, arith, ap, sym, map, [], ◌∙◌}
use Rattle.std.proofs.lemmas.Int.{ints}
use Rattle.std.proofs.lemmas.Bool.{true≢false}
use Rattle.std.specs.List.{fold}
use Rattle.std.specs.Int.{int_max}
use Rattle.audit_types.specs.Truth.{number_at}
use Rattle.audit_types.specs.RowLaws.{walk_row}
use Rattle.oracles.proofs.Sums.{greatest-start, within, number_small}
use Rattle.oracles.proofs.truths.greatest_over.Goals as goal

pub loop-row-init : goal.loop-row-init
loop-row-init c =
    let together = c.into_iter-row-iterator.ensures.into_iter_gives ∙ c.iter-row-items.ensures in
    let low : (r : ℕ) → negsuc 9223372036854775807 ≤ℤ number_at c.args.numbers.now r = λ r.
    let number = within (number_at c.args.numbers.now r) (10 ^ 12) (number_small c.args.numbers.now r c.requires.in_range) in omega (arith, ints) in
    let some = λ (e : c.args.rows.now.list ≡ []). true≢false (sym (c.is_empty.ensures.1 e) ∙ c.if-is_empty.false) in
    record {
      together = together;
      greatest = ap (λ rows. fold int_max (negsuc 9223372036854775807) (map (number_at c.args.numbers.now) rows)) together
          ∙ greatest-start c.args.numbers.now c.args.rows.now.list some low;
    }

pub bounds-numbers-row : goal.bounds-numbers-row
bounds-numbers-row c =
    let row = walk_row c.args.rows.now.n c.loop-row.yielded c.loop-row.row-iterator c.next.new.self c.args.rows.now.list c.in-Some.row
    c.n.ensures.are_rows c.loop-row.invariant.together c.in-Some.ensures.steps in
    omega arith
