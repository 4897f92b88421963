use Rattle.std.proofs.Common.{◌≡◌, ℕ, ◌+◌, ◌-◌, ◌≤◌, ◌++◌, List, length, take, drop, sym, ap, ◌∙◌, arith, take_all}
use Rattle.std.proofs.lemmas.List.{take-append-drop, drop-take, take-take, length-take-le, length-append}
use Rattle.std.proofs.Math.Nat.{min-le_left, le-min}
use Rattle.sum_basis.specs.declared.sparse.FreeEntry.{FreeEntry}
use Rattle.sum_basis.proofs.growth.overwrite.Goals as goal

-- the first entries, and then some more
taken_on : (k m : ℕ) (es : List FreeEntry) → take k es ++ take m (drop k es) ≡ take (k + m) es
taken_on k m es =
    ap (λ l. l ++ take m (drop k es)) (sym (take-take k (k + m) es (omega arith)))
    ∙ ap (λ l. take k (take (k + m) es) ++ l) (sym (drop-take k m es))
    ∙ take-append-drop k (take (k + m) es)

-- the list so far, and then the entries up to a later one
on_to : (k end : ℕ) (es list : List FreeEntry) → list ≡ take k es → k ≤ end → list ++ take (end - k) (drop k es) ≡ take end es
on_to k end es list is l =
    ap (λ xs. xs ++ take (end - k) (drop k es)) is ∙ taken_on k (end - k) es ∙ ap (λ n. take n es) (let same : k + (end - k) ≡ end = omega arith in same)

pub loop-at-init : goal.loop-at-init
loop-at-init c = record { items = c.clear.ensures.items; within = omega arith; capacity = omega arith }

pub unwrap-requires : goal.unwrap-requires
unwrap-requires c =
    let es = c.args.entries.now in
    let k = c.loop-at.at in
    let same = on_to k c.min-end.result es c.loop-at.list.items c.loop-at.invariant.items (rw c.min-end.ensures (le-min (omega arith) (omega arith))) in
    let all = ap length same in
    let parts = length-append c.loop-at.list.items (take (c.min-end.result - k) (drop k es)) in
    let whole = length-take-le c.min-end.result es (rw c.min-end.ensures (min-le_left _ _)) in
    let end : c.min-end.result ≤ length es = rw c.min-end.ensures (min-le_left _ _) in
    let len = c.loop-at.list.ok.0 in
    let first = c.clear.ensures.capacity in
    let cap = c.loop-at.invariant.capacity in
    let room = c.requires.room in
    c.extend_from_slice.ensures.succeeds (omega arith)

pub loop-at-preserved : goal.loop-at-preserved
loop-at-preserved c =
    let items = rw c.unwrap.ensures at c.extend_from_slice.ensures.items in
    record {
      items =
          items ∙ on_to c.loop-at.at c.min-end.result c.args.entries.now c.loop-at.list.items c.loop-at.invariant.items
          (rw c.min-end.ensures (le-min (omega arith) (omega arith)));
      within = rw c.min-end.ensures (min-le_left _ _);
      capacity = let more = c.extend_from_slice.ensures.capacity in let before = c.loop-at.invariant.capacity in omega arith;
    }

pub returns-clause-items : goal.returns-clause-items
returns-clause-items c = c.loop-at.invariant.items ∙ take_all c.loop-at.at c.args.entries.now c.loop-at-test.false

pub returns-clause-capacity : goal.returns-clause-capacity
returns-clause-capacity c = let same = c.clear.ensures.capacity in let more = c.loop-at.invariant.capacity in omega arith
