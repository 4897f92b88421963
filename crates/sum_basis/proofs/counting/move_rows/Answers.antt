use Rattle.std.proofs.Common.{ℕ, sym, ◌∙◌, subst, arith}
use Rattle.sum_basis.specs.Reach.{AreSmallEntries, rest_at, without_new}
use Rattle.sum_basis.specs.Sparse.{entry_at}
use Rattle.sum_basis.proofs.SmallEntries.{free_small, new_small, one_at_most}
use Rattle.sum_basis.proofs.WithinReach.{has_grown}
use Rattle.sum_basis.proofs.Moving.{first_few, first_moved, more_moved, counts_row, all_rows_moved, some_grown}
use Rattle.sum_basis.proofs.counting.move_rows.Goals as goal

pub loop-k-init : goal.loop-k-init
loop-k-init c =
    let form = c.args.form.now in
    let f = c.columns.ensures.form in
    record {
      long = c.requires.counts;
      few = λ j.
          let first = c.requires.first j in
          let few = first_few form.rows j in
          let most = one_at_most (rest_at c.args.new.now j) in
          omega arith;
      moved = λ grown is.
          first_moved form.n form.rows c.args.new.now grown (has_grown form c.args.new.now grown f c.requires.new is) f.primitive f.echelon
          c.args.counts.now c.requires.first;
    }

pub move_if_cleared-requires-clause-free : goal.move_if_cleared-requires-clause-free
move_if_cleared-requires-clause-free c =
    subst (λ (n : ℕ). AreSmallEntries n c.free.result.now) (sym c.loop-k.invariant.long)
    (free_small c.args.form.now c.loop-k.k c.free.result.now c.columns.ensures.form (omega (arith, c.rank-k-end.ensures.rank)) c.free.ensures)

pub move_if_cleared-requires-clause-new : goal.move_if_cleared-requires-clause-new
move_if_cleared-requires-clause-new c =
    subst (λ (n : ℕ). AreSmallEntries n c.args.new.now) (sym c.loop-k.invariant.long) (new_small c.args.form.now c.args.new.now c.requires.new)

pub move_if_cleared-requires-clause-counted : goal.move_if_cleared-requires-clause-counted
move_if_cleared-requires-clause-counted c =
    let form = c.args.form.now in
    let f = c.columns.ensures.form in
    let some = some_grown form c.args.new.now f in
    counts_row form.n form.rows c.args.new.now some.0 (has_grown form c.args.new.now some.0 f c.requires.new some.1) f.primitive f.echelon c.loop-k.k
    c.loop-k.counts c.free.result.now (omega (arith, c.rank-k-end.ensures.rank)) c.free.ensures (c.loop-k.invariant.moved some.0 some.1)

pub loop-k-preserved : goal.loop-k-preserved
loop-k-preserved c =
    let form = c.args.form.now in
    let f = c.columns.ensures.form in
    record {
      long = c.move_if_cleared.ensures.length ∙ c.loop-k.invariant.long;
      few = λ j.
          let step = c.move_if_cleared.ensures.moved j in
          let most = one_at_most (without_new c.args.new.now (entry_at c.free.result.now) j) in
          let before = c.loop-k.invariant.few j in
          omega arith;
      moved = λ grown is.
          more_moved form.n form.rows c.args.new.now grown (has_grown form c.args.new.now grown f c.requires.new is) f.primitive f.echelon c.loop-k.k
          c.loop-k.counts _ c.free.result.now (omega (arith, c.rank-k-end.ensures.rank)) c.free.ensures c.move_if_cleared.ensures.moved
          (c.loop-k.invariant.moved grown is);
    }

pub returns-clause-counted : goal.returns-clause-counted
returns-clause-counted c = λ grown is.
    let form = c.args.form.now in
    let f = c.columns.ensures.form in
    all_rows_moved form.n form.rows c.args.new.now grown (has_grown form c.args.new.now grown f c.requires.new is) f.primitive f.echelon c.loop-k.k
    c.loop-k.counts (let ends = c.loop-k-test.false in omega (arith, c.rank-k-end.ensures.rank)) c.loop-k.invariant.long
    (c.loop-k.invariant.moved grown is)
