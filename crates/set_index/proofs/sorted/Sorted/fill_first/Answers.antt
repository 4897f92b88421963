use Rattle.std.proofs.Common.{◌≡◌, ◌*◌, ◌/◌, ◌<◌, ◌≤◌, All, length, sym, ap, subst, ◌∙◌, arith}
use Rattle.audit_types.specs.Rows.{AreRows, Rows, union}
use Rattle.set_index.specs.Marks.{SortedView, first_rows}
use Rattle.set_index.proofs.Ranges.{first_are_rows, first_more, first_taken, part, part_below, rows_are}
use Rattle.set_index.proofs.sorted.Sorted.fill_first.Goals as goal

pub add_rows-requires-clause-are_rows : goal.add_rows-requires-clause-are_rows
add_rows-requires-clause-are_rows c =
    let order = c.self.inside.order.items in
    let within : c.args.count ≤ length order = subst (λ (v : SortedView). c.args.count ≤ length v.order) (sym c.self.view_is) c.requires.within in
    let mark : c.index.result.now ≡ record { n = c.self.inside.rows; list = first_rows c.self.inside.rows order (16 * (c.args.count / 16)) } =
    c.index.ensures ∙ c.self.invariant.marks.sets (c.args.count / 16) c.index.result.now (omega (arith, c.self.invariant.marks.enough)) in
    let same : c.args.rows.now.n ≡ c.self.inside.rows = c.requires.n ∙ sym (ap (λ (v : SortedView). v.rows) c.self.view_is) in
    let is : c.or_with.new.self ≡ record { n = c.self.inside.rows; list = first_rows c.self.inside.rows order (16 * (c.args.count / 16)) } =
    rows_are _ _ _ (c.or_with.ensures.n ∙ same) (first_taken _ _ _ _ _ _ _ mark same c.requires.empty c.or_with.ensures.either) in
    subst (λ (m : Rows). AreRows m.n m.list) (sym is) (first_are_rows _ _ _)

pub add_rows-requires-clause-below : goal.add_rows-requires-clause-below
add_rows-requires-clause-below c =
    let order = c.self.inside.order.items in
    let within : c.args.count ≤ length order = subst (λ (v : SortedView). c.args.count ≤ length v.order) (sym c.self.view_is) c.requires.within in
    let mark : c.index.result.now ≡ record { n = c.self.inside.rows; list = first_rows c.self.inside.rows order (16 * (c.args.count / 16)) } =
    c.index.ensures ∙ c.self.invariant.marks.sets (c.args.count / 16) c.index.result.now (omega (arith, c.self.invariant.marks.enough)) in
    let same : c.args.rows.now.n ≡ c.self.inside.rows = c.requires.n ∙ sym (ap (λ (v : SortedView). v.rows) c.self.view_is) in
    let is : c.or_with.new.self ≡ record { n = c.self.inside.rows; list = first_rows c.self.inside.rows order (16 * (c.args.count / 16)) } =
    rows_are _ _ _ (c.or_with.ensures.n ∙ same) (first_taken _ _ _ _ _ _ _ mark same c.requires.empty c.or_with.ensures.either) in
    let below : All (λ r. r < c.self.inside.rows) (part order (16 * (c.args.count / 16)) c.args.count) =
    part_below _ _ _ _ c.self.invariant.each_once in
    subst (λ (m : Rows). All (λ r. r < m.n) (part c.deref.result.now (16 * (c.args.count / 16)) c.args.count)) (sym is)
    (subst (λ xs. All (λ r. r < c.self.inside.rows) (part xs (16 * (c.args.count / 16)) c.args.count)) (sym c.deref.ensures.value) below)

pub returns-clause-rows : goal.returns-clause-rows
returns-clause-rows c =
    let order = c.self.inside.order.items in
    let within : c.args.count ≤ length order = subst (λ (v : SortedView). c.args.count ≤ length v.order) (sym c.self.view_is) c.requires.within in
    let mark : c.index.result.now ≡ record { n = c.self.inside.rows; list = first_rows c.self.inside.rows order (16 * (c.args.count / 16)) } =
    c.index.ensures ∙ c.self.invariant.marks.sets (c.args.count / 16) c.index.result.now (omega (arith, c.self.invariant.marks.enough)) in
    let same : c.args.rows.now.n ≡ c.self.inside.rows = c.requires.n ∙ sym (ap (λ (v : SortedView). v.rows) c.self.view_is) in
    let is : c.or_with.new.self ≡ record { n = c.self.inside.rows; list = first_rows c.self.inside.rows order (16 * (c.args.count / 16)) } =
    rows_are _ _ _ (c.or_with.ensures.n ∙ same) (first_taken _ _ _ _ _ _ _ mark same c.requires.empty c.or_with.ensures.either) in
    c.add_rows.ensures.added
    ∙ ap (λ (m : Rows). union m.n m.list (part c.deref.result.now (16 * (c.args.count / 16)) c.args.count)) is
    ∙ ap
    (λ xs. union c.self.inside.rows (first_rows c.self.inside.rows order (16 * (c.args.count / 16)))
    (part xs (16 * (c.args.count / 16)) c.args.count)) c.deref.ensures.value
    ∙ first_more c.self.inside.rows order (16 * (c.args.count / 16)) c.args.count (omega arith)
    ∙ ap (λ (v : SortedView). first_rows v.rows v.order c.args.count) c.self.view_is
