use Rattle.std.proofs.Common.{◌≡◌, ◌<◌, ◌+◌, ◌∷◌, ◌++◌, [], ℕ, ℤ, List, Vec, Global, map, drop, length, get_or, refl, sym, ap, ◌∙◌, arith, subst, append_assoc, append-nil}
use Rattle.std.specs.List.{AllByRecursion}
use Rattle.std.specs.Vec.Iter.{into_iter_items}
use Rattle.std.proofs.lemmas.List.{length-map, map-append}
use Rattle.std.proofs.Math.ListN.{drop_of_length-le}
use Rattle.table_load.specs.Cells.{Cells, PublicView, AreCells, HoldsRole, first_list, hidden, numbered, whole}
use Rattle.table_load.specs.Kept.{cells_kept}
use Rattle.table_load.specs.SchemaFits.{numbered_next, left_enough, one_left, numbered_are, numbered_fit}
use Rattle.table_load.proofs.publics.Public.of_numbers.Goals as goal

pub next_column-requires : goal.next_column-requires
next_column-requires c = λ public.
    let within : c.loop-place.place < length c.args.schema.now.columns = omega (arith, c.count-place-end.ensures.count) in
    one_left c.args.schema.now.columns c.loop-place.place c.role.result
    (into_iter_items c.loop-place.left) within c.role.ensures c.loop-place.invariant.enough public

pub loop-place-preserved : goal.loop-place-preserved
loop-place-preserved c =
    let cs = c.args.schema.now.columns in
    let place = c.loop-place.place in
    let old = map cells_kept c.loop-place.columns.items in
    let lists = into_iter_items c.loop-place.left in
    let left = into_iter_items c.next_column.new.left in
    let within : place < length cs = omega (arith, c.count-place-end.ensures.count) in
    let items = c.in_ok-push.ensures.items in
    let more = ap (map cells_kept) items ∙ map-append cells_kept c.loop-place.columns.items (c.next_column.result ∷ []) in
    record {
      columns = rw more (
          c.loop-place.invariant.columns
          ∙ ap (λ xs. old ++ xs)
          (numbered_next cs place c.role.result lists left (cells_kept c.next_column.result) within c.role.ensures c.next_column.ensures.column
          c.next_column.ensures.left)
          ∙ sym (append_assoc old (cells_kept c.next_column.result ∷ []) (numbered (drop (place + 1) cs) (map (λ (v : Vec ℤ Global). v.items) left)))
          );
      enough = left_enough cs place c.role.result lists left within c.role.ensures c.loop-place.invariant.enough c.next_column.ensures.left;
    }

pub of-requires : goal.of-requires
of-requires c =
    let cs = c.args.schema.now.columns in
    let lists = map (λ (v : Vec ℤ Global). v.items) c.args.lists.items in
    let n = length (first_list lists) in
    let rows : c.rows_in-rows.result ≡ n = rw c.as_slice.ensures.value at c.rows_in-rows.ensures in
    let done = drop_of_length-le cs {i = c.loop-place.place} (omega (arith, c.count-place-end.ensures.count)) in
    let made : numbered cs lists ≡ map cells_kept c.loop-place.columns.items =
    c.loop-place.invariant.columns
    ∙ ap (λ columns. map cells_kept c.loop-place.columns.items ++ numbered columns
    (map (λ (v : Vec ℤ Global). v.items) (into_iter_items c.loop-place.left))) done
    ∙ append-nil (map cells_kept c.loop-place.columns.items) in
    let P : ℕ → Type 0 = λ m. AllByRecursion (AreCells m) (numbered cs lists) in
    let Q : List Cells → Type 0 = λ cells. AllByRecursion (AreCells c.rows_in-rows.result) cells in
    record {
      some = omega (arith, rows, c.requires.some);
      at_most = omega (arith, rows, c.requires.at_most);
      columns = subst Q made (subst P (sym rows) (numbered_are n cs lists c.requires.one_each c.requires.numbers));
    }

pub returns-clause-fits : goal.returns-clause-fits
returns-clause-fits c = λ place role is.
    let cs = c.args.schema.now.columns in
    let lists = map (λ (v : Vec ℤ Global). v.items) c.args.lists.items in
    let done = drop_of_length-le cs {i = c.loop-place.place} (omega (arith, c.count-place-end.ensures.count)) in
    let made : numbered cs lists ≡ map cells_kept c.loop-place.columns.items =
    c.loop-place.invariant.columns
    ∙ ap (λ columns. map cells_kept c.loop-place.columns.items ++ numbered columns
    (map (λ (v : Vec ℤ Global). v.items) (into_iter_items c.loop-place.left))) done
    ∙ append-nil (map cells_kept c.loop-place.columns.items) in
    let P : List Cells → Type 0 = λ cells. HoldsRole role (get_or cells place hidden) in
    subst P (made ∙ sym (ap (λ (p : PublicView). p.columns) c.of.ensures)) (numbered_fit cs lists place role c.requires.no_texts c.requires.no_counts is)

pub returns-clause-rows : goal.returns-clause-rows
returns-clause-rows c = ap (λ (p : PublicView). p.rows) c.of.ensures ∙ rw c.as_slice.ensures.value at c.rows_in-rows.ensures

pub returns-clause-columns : goal.returns-clause-columns
returns-clause-columns c =
    let cs = c.args.schema.now.columns in
    let lists = map (λ (v : Vec ℤ Global). v.items) c.args.lists.items in
    let done = drop_of_length-le cs {i = c.loop-place.place} (omega (arith, c.count-place-end.ensures.count)) in
    let made : numbered cs lists ≡ map cells_kept c.loop-place.columns.items =
    c.loop-place.invariant.columns
    ∙ ap (λ columns. map cells_kept c.loop-place.columns.items ++ numbered columns
    (map (λ (v : Vec ℤ Global). v.items) (into_iter_items c.loop-place.left))) done
    ∙ append-nil (map cells_kept c.loop-place.columns.items) in
    ap (λ (p : PublicView). p.columns) c.of.ensures ∙ sym made

pub returns-clause-whole : goal.returns-clause-whole
returns-clause-whole c = ap whole c.of.ensures ∙ sym c.of.ensures

pub rows_in-rows-requires : goal.rows_in-rows-requires
rows_in-rows-requires c = rw c.as_slice.ensures.value c.requires.at_most

pub loop-place-init : goal.loop-place-init
loop-place-init c = record {
  columns = rw (c.new-columns.ensures.items, c.into_iter-left.ensures.rest) refl;
  enough = omega (arith, ap length c.into_iter-left.ensures.rest, length-map c.args.lists.items (λ (v : Vec ℤ Global). v.items), c.requires.one_each);
}
