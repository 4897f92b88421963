use Rattle.std.proofs.Common.{◌≡◌, ◌<◌, All, IsPermutation, [], true, length, sym, ap, subst, ◌∙◌, arith}
use Rattle.audit_types.specs.Rows.{complement, intersection, rows_that, union}
use Rattle.set_index.specs.Marks.{SortedView, first_rows}
use Rattle.set_index.specs.Ranges.{IsRange}
use Rattle.set_index.proofs.Ranges.{part, part_below, range_first, range_left, range_rest, range_walked}
use Rattle.set_index.proofs.sorted.Sorted.fill_range.Goals as goal

pub add_rows-requires-clause-below : goal.add_rows-requires-clause-below
add_rows-requires-clause-below c =
    subst (λ n. All (λ r. r < n) (part c.deref.result.now c.args.from c.args.to)) (sym (c.requires.n ∙ sym (ap (λ (v : SortedView). v.rows) c.self.view_is)))
    (subst (λ xs. All (λ r. r < c.self.inside.rows) (part xs c.args.from c.args.to)) (sym c.deref.ensures.value)
    (part_below _ _ _ _ c.self.invariant.each_once))

pub returns-then-to-from-lt-STEP-clause-rows : goal.returns-then-to-from-lt-STEP-clause-rows
returns-then-to-from-lt-STEP-clause-rows c test range =
    let same = c.requires.n ∙ sym (ap (λ (v : SortedView). v.rows) c.self.view_is) in
    let inside : IsRange test c.self.inside.order.items c.args.from c.args.to =
    subst (λ (v : SortedView). IsRange test v.order c.args.from c.args.to) (sym c.self.view_is) range in
    c.add_rows.ensures.added
    ∙ ap (λ n. union n c.args.rows.now.list (part c.deref.result.now c.args.from c.args.to)) same
    ∙ ap (λ xs. union c.self.inside.rows xs (part c.deref.result.now c.args.from c.args.to)) c.requires.empty
    ∙ ap (λ xs. union c.self.inside.rows [] (part xs c.args.from c.args.to)) c.deref.ensures.value
    ∙ range_walked c.self.inside.rows c.self.inside.order.items c.args.from c.args.to test c.self.invariant.each_once c.requires.ascends inside
    ∙ ap (λ (v : SortedView). rows_that test v.rows) c.self.view_is

pub returns-then-from-eq0-clause-rows : goal.returns-then-from-eq0-clause-rows
returns-then-from-eq0-clause-rows c test range =
    let once : IsPermutation (rows_that (λ r. true) c.args.self.now.rows) c.args.self.now.order =
    subst (λ (v : SortedView). IsPermutation (rows_that (λ r. true) v.rows) v.order) c.self.view_is c.self.invariant.each_once in
    c.fill_first.ensures.rows
    ∙ range_first c.args.self.now.rows c.args.self.now.order c.args.to test once
    (subst (λ from. IsRange test c.args.self.now.order from c.args.to) c.if-from-eq0.true range)

pub returns-then-to-end-clause-rows : goal.returns-then-to-end-clause-rows
returns-then-to-end-clause-rows c test range =
    let once : IsPermutation (rows_that (λ r. true) c.args.self.now.rows) c.args.self.now.order =
    subst (λ (v : SortedView). IsPermutation (rows_that (λ r. true) v.rows) v.order) c.self.view_is c.self.invariant.each_once in
    let all : c.len-end.result ≡ length c.self.inside.order.items = omega (arith, c.len-end.ensures) in
    let last : c.args.to ≡ length c.args.self.now.order = c.if-to-end.true ∙ all ∙ ap (λ (v : SortedView). length v.order) c.self.view_is in
    c.flip.ensures.others
    ∙ ap (λ n. complement n c.fill_first-2.new.rows.list) c.fill_first-2.ensures.n
    ∙ ap (complement c.args.self.now.rows) c.fill_first-2.ensures.rows
    ∙ range_rest c.args.self.now.rows c.args.self.now.order c.args.from test once (subst (IsRange test c.args.self.now.order c.args.from) last range)

pub returns-clause-rows : goal.returns-clause-rows
returns-clause-rows c test range =
    let once : IsPermutation (rows_that (λ r. true) c.args.self.now.rows) c.args.self.now.order =
    subst (λ (v : SortedView). IsPermutation (rows_that (λ r. true) v.rows) v.order) c.self.view_is c.self.invariant.each_once in
    c.cut_after.ensures.both
    ∙ ap (λ xs. intersection c.args.self.now.rows xs (first_rows c.args.self.now.rows c.args.self.now.order c.args.to))
    (c.flip.ensures.others ∙ ap (λ n. complement n c.fill_first-2.new.rows.list) c.fill_first-2.ensures.n
    ∙ ap (complement c.args.self.now.rows) c.fill_first-2.ensures.rows)
    ∙ range_left c.args.self.now.rows c.args.self.now.order c.args.from c.args.to test once c.requires.ascends range
