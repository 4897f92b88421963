use Rattle.std.proofs.Common.{◌≡◌, ℕ, ◌<◌, ◌≤◌, ◌^◌, Bool, false, ℤ, List, map, length, get_or, refl, sym, ap, ◌∙◌, subst, arith, rules, IsTrue}
use Rattle.std.specs.Prelude.{unsigned_abs}
use Rattle.std.specs.Int.{w128}
use Rattle.std.specs.List.{AllByRecursion}
use Rattle.std.proofs.lemmas.Int.{to_z-of_z}
use Rattle.std.proofs.lemmas.Bool.{true≢false}
use Rattle.std.proofs.lemmas.List.{length_push}
use Rattle.std.proofs.lemmas.Slice.Zip.{zip_turn, zip_end}
use Rattle.sum_basis.specs.declared.sparse.FreeEntry.{FreeEntry}
use Rattle.sum_basis.specs.Sparse.{scaled}
use Rattle.sum_basis.proofs.Parallels.{one_more_alike, alike_at, same_length, all_alike}
use Rattle.sum_basis.proofs.ListContents.{none, value_small}
use Rattle.sum_basis.proofs.parallel.are_parallel.Goals as goal

-- entries are alike by numbers that are the same
turned : (a b p q : ℤ) (one other : FreeEntry) → a ≡ p → b ≡ q → scaled p one ≡ scaled q other → scaled a one ≡ scaled b other
turned a b p q one other e f same = ap (λ z. scaled z one) e ∙ same ∙ sym (ap (λ z. scaled z other) f)

refused : (b : Bool) → b ≡ false → IsTrue b → ⊥
refused b e h = true≢false (sym h ∙ e)

pub returns-then-first-second : goal.returns-then-first-second
returns-then-first-second c =
    (λ yes. absurd (true≢false (sym yes)), λ same. absurd (c.if-first-second.true (same_length c.args.by c.args.times c.args.first.now c.args.second.now same)))

pub returns-then-not-are_alike : goal.returns-then-not-are_alike
returns-then-not-are_alike c =
    let t = zip_turn c.args.first.now c.args.second.now c.loop-one.yielded c.into_iter-one-iterator.result c.loop-one.one-iterator c.next.new.self c.next.result
    (search rules) (search rules) c.loop-one.yielded_by (c.in-Some.one, c.in-Some.other) c.in-Some.is c.next.ensures.steps in (
      λ yes. absurd (true≢false (sym yes)),
      λ same.
          let here = ap (scaled c.args.by) (t.2 none) ∙ alike_at c.args.by c.args.times c.args.first.now c.args.second.now
          (length c.loop-one.yielded) none t.0 t.1 same ∙ sym (ap (scaled c.args.times) (t.3 none)) in
          absurd (refused c.are_alike.result c.if-not-are_alike.true
          (c.are_alike.ensures.1 (turned _ _ c.args.by c.args.times c.in-Some.one.now c.in-Some.other.now (to_z-of_z w128 c.args.by c.ranges.by)
          (to_z-of_z w128 c.args.times c.ranges.times) here))),
    )

pub loop-one-preserved : goal.loop-one-preserved
loop-one-preserved c =
    let t = zip_turn c.args.first.now c.args.second.now c.loop-one.yielded c.into_iter-one-iterator.result c.loop-one.one-iterator c.next.new.self c.next.result
    (search rules) (search rules) c.loop-one.yielded_by (c.in-Some.one, c.in-Some.other) c.in-Some.is c.next.ensures.steps in
    let alike = c.are_alike.ensures.0 c.if-not-are_alike.false in
    rw (length_push c.loop-one.yielded (c.in-Some.one, c.in-Some.other))
    (one_more_alike _ _ c.args.first.now c.args.second.now (length c.loop-one.yielded) none t.0 t.1 c.loop-one.invariant
    (sym (ap (scaled _) (t.2 none)) ∙ alike ∙ ap (scaled _) (t.3 none)))

pub returns : goal.returns
returns c =
    let t = zip_end c.args.first.now c.args.second.now c.loop-one.yielded c.into_iter-one-iterator.result c.loop-one.one-iterator c.next.new.self c.next.result
    (search rules) (search rules) c.loop-one.yielded_by c.in-None.is c.next.ensures.steps in
    let by = to_z-of_z w128 c.args.by c.ranges.by in
    let times = to_z-of_z w128 c.args.times c.ranges.times in
    let whole = all_alike _ _ c.args.first.now c.args.second.now (length c.loop-one.yielded) (omega arith) (omega arith) c.loop-one.invariant in
    (λ yes. ap (λ z. map (scaled z) c.args.first.now) (sym by) ∙ whole ∙ ap (λ z. map (scaled z) c.args.second.now) times, λ same. refl)

pub are_alike-requires-clause-by : goal.are_alike-requires-clause-by
are_alike-requires-clause-by c = rw (to_z-of_z w128 c.args.by c.ranges.by) c.requires.by

pub are_alike-requires-clause-times : goal.are_alike-requires-clause-times
are_alike-requires-clause-times c = rw (to_z-of_z w128 c.args.times c.ranges.times) c.requires.times

-- a value that was reached
value_at : (es : List FreeEntry) (k : ℕ) (e : FreeEntry) → k < length es → e ≡ get_or es k none →
    AllByRecursion (λ (x : FreeEntry). unsigned_abs x.value ≤ 2 ^ 56) es
    → unsigned_abs e.value ≤ 2 ^ 56
value_at es k e l is all = subst (λ (x : FreeEntry). unsigned_abs x.value ≤ 2 ^ 56) (sym is) (value_small es k l all)

pub are_alike-requires-clause-first : goal.are_alike-requires-clause-first
are_alike-requires-clause-first c =
    let t = zip_turn c.args.first.now c.args.second.now c.loop-one.yielded c.into_iter-one-iterator.result c.loop-one.one-iterator c.next.new.self c.next.result
    (search rules) (search rules) c.loop-one.yielded_by (c.in-Some.one, c.in-Some.other) c.in-Some.is c.next.ensures.steps in
    value_at c.args.first.now (length c.loop-one.yielded) c.in-Some.one.now t.0 (t.2 none) c.requires.first

pub are_alike-requires-clause-second : goal.are_alike-requires-clause-second
are_alike-requires-clause-second c =
    let t = zip_turn c.args.first.now c.args.second.now c.loop-one.yielded c.into_iter-one-iterator.result c.loop-one.one-iterator c.next.new.self c.next.result
    (search rules) (search rules) c.loop-one.yielded_by (c.in-Some.one, c.in-Some.other) c.in-Some.is c.next.ensures.steps in
    value_at c.args.second.now (length c.loop-one.yielded) c.in-Some.other.now t.1 (t.3 none) c.requires.second
