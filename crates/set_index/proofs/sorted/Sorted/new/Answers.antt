use Rattle.std.proofs.Common.{◌≡◌, ◌<◌, ◌+◌, ◌*◌, ◌++◌, ◌∷◌, All, [], length, length-append, sym, ap, subst, ◌∙◌, arith}
use Rattle.audit_types.specs.Rows.{AreRows, Rows, union}
use Rattle.set_index.specs.Marks.{first_rows}
use Rattle.set_index.proofs.Ranges.{first_are_rows, first_more, first_none, hold_first, hold_more, part, part_below, rows_are}
use Rattle.set_index.proofs.sorted.Sorted.new.Goals as goal

pub loop-k-init : goal.loop-k-init
loop-k-init c =
    let is : c.new-first.result ≡ record { n = c.args.rows; list = first_rows c.args.rows c.args.order.items 0 } =
    rows_are c.new-first.result c.args.rows _ c.new-first.ensures.n (c.new-first.ensures.empty ∙ sym (first_none c.args.rows c.args.order.items)) in
    let marks = c.in_ok-push.ensures.items ∙ ap (λ ms. ms ++ c.new-first.result ∷ []) c.new-marks.ensures.items in
    record { first = is; count = ap length marks; held = hold_first c.args.rows c.args.order.items _ c.new-first.result is marks }

pub add_rows-requires-clause-are_rows : goal.add_rows-requires-clause-are_rows
add_rows-requires-clause-are_rows c =
    subst (λ (m : Rows). AreRows m.n m.list) (sym c.loop-k.invariant.first) (first_are_rows c.args.rows c.args.order.items (16 * c.loop-k.k))

pub add_rows-requires-clause-below : goal.add_rows-requires-clause-below
add_rows-requires-clause-below c =
    subst (λ (m : Rows). All (λ r. r < m.n) (part c.deref.result.now (16 * c.loop-k.k) (16 * (c.loop-k.k + 1)))) (sym c.loop-k.invariant.first)
    (subst (λ xs. All (λ r. r < c.args.rows) (part xs (16 * c.loop-k.k) (16 * (c.loop-k.k + 1)))) (sym c.deref.ensures.value)
    (part_below c.args.rows c.args.order.items (16 * c.loop-k.k) (16 * (c.loop-k.k + 1)) c.requires.each_once))

pub loop-k-preserved : goal.loop-k-preserved
loop-k-preserved c =
    let list = c.add_rows.ensures.added
    ∙ ap (λ (m : Rows). union m.n m.list (part c.deref.result.now (16 * c.loop-k.k) (16 * (c.loop-k.k + 1)))) c.loop-k.invariant.first
    ∙ ap
    (λ xs. union c.args.rows (first_rows c.args.rows c.args.order.items (16 * c.loop-k.k))
    (part xs (16 * c.loop-k.k) (16 * (c.loop-k.k + 1)))) c.deref.ensures.value
    ∙ first_more c.args.rows c.args.order.items (16 * c.loop-k.k) (16 * (c.loop-k.k + 1)) (omega arith) in
    let is : c.add_rows.new.rows ≡ record { n = c.args.rows; list = first_rows c.args.rows c.args.order.items (16 * (c.loop-k.k + 1)) } =
    rows_are c.add_rows.new.rows c.args.rows _ (c.add_rows.ensures.n ∙ ap (λ (m : Rows). m.n) c.loop-k.invariant.first) list in
    record {
      first = is;
      count = omega (arith, simp length-append at (ap length c.in_ok-push-2.ensures.items), c.loop-k.invariant.count);
      held =
          hold_more c.args.rows c.args.order.items c.loop-k.marks.items _ c.add_rows.new.rows
          (c.loop-k.k + 1) c.loop-k.invariant.held c.loop-k.invariant.count is c.in_ok-push-2.ensures.items;
    }
