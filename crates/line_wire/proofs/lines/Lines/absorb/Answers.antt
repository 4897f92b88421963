use Rattle.std.proofs.Common.{ℕ, List, length, take, ap, ◌∙◌, arith, length-drop, length-take}
use Rattle.std.proofs.lemmas.List.{drop_all}
use Rattle.line_wire.proofs.PassedBytes.{passes_feed, passes_none}
use Rattle.line_wire.proofs.lines.Lines.absorb.Goals as goal

pub invariant_of-self : goal.invariant_of-self
invariant_of-self c =
    let skipped = ap (λ (l : List ℕ). length l) c.skip.ensures.pending ∙ length-drop 1 c.add.new.self.pending in
    let given = ap (λ (l : List ℕ). length l) c.add.ensures.pending ∙ length-drop c.in-Some.at c.self.inside.buffer.pending in
    let front = length-take c.min-count.result c.pending-pending.result.now in
    let size = ap (λ (l : List ℕ). length l) c.pending-pending.ensures.bytes in (
      omega (arith, skipped, given, front, size, c.in-Some.ensures.inside),
      omega (arith, skipped, given, front, size, c.in-Some.ensures.inside),
      omega (arith, skipped, given),
    )

pub returns-in-Some-clause-passes : goal.returns-in-Some-clause-passes
returns-in-Some-clause-passes c =
    let is = ap (λ (l : List ℕ). take c.min-count.result l) c.pending-pending.ensures.bytes in
    rw (← c.self.view_is)
    (passes_feed _ _ _ c.add.new.self.pending c.min-count.result c.in-Some.at is c.in-Some.ensures c.add.ensures.pending c.skip.ensures.pending
    (c.skip.ensures.line ∙ c.add.ensures.line))

pub returns-in-Some-clause-within : goal.returns-in-Some-clause-within
returns-in-Some-clause-within c =
    let within = invariant_of-self c in (
      rw (← c.self.view_is) (record {
        pending = c.self.invariant.0;
        given = c.self.invariant.1;
        small = c.self.invariant.2;
      }),
      record { pending = within.0; given = within.1; small = within.2 },
    )

pub invariant_of-self-then-over : goal.invariant_of-self-then-over
invariant_of-self-then-over c =
    let given = ap (λ (l : List ℕ). length l) c.add-2.ensures.pending ∙ length-drop c.min-count.result c.self.inside.buffer.pending in
    let size = ap (λ (l : List ℕ). length l) c.pending-pending.ensures.bytes in
    (omega (arith, given, size), omega (arith, given, size), omega (arith, given))

pub returns-then-over-clause-within : goal.returns-then-over-clause-within
returns-then-over-clause-within c =
    let within = invariant_of-self-then-over c in (
      rw (← c.self.view_is) (record {
        pending = c.self.invariant.0;
        given = c.self.invariant.1;
        small = c.self.invariant.2;
      }),
      record { pending = within.0; given = within.1; small = within.2 },
    )

pub returns-then-over-clause-passes : goal.returns-then-over-clause-passes
returns-then-over-clause-passes c =
    let is = ap (λ (l : List ℕ). take c.min-count.result l) c.pending-pending.ensures.bytes in
    let size = ap (λ (l : List ℕ). length l) c.pending-pending.ensures.bytes in
    let rest = ap (λ (l : List ℕ). length l) c.add-2.ensures.pending ∙ length-drop c.min-count.result c.self.inside.buffer.pending in (
      rw (← c.self.view_is) (passes_none _ _ _ c.min-count.result is c.in_default.ensures c.add-2.ensures.pending c.add-2.ensures.line),
      omega arith,
      omega arith,
    )

pub invariant_of-self-2 : goal.invariant_of-self-2
invariant_of-self-2 c =
    let given = ap (λ (l : List ℕ). length l) c.add-2.ensures.pending ∙ length-drop c.min-count.result c.self.inside.buffer.pending in
    let size = ap (λ (l : List ℕ). length l) c.pending-pending.ensures.bytes in
    (omega (arith, given, size), omega (arith, given, size), omega (arith, given))

pub returns-clause-within : goal.returns-clause-within
returns-clause-within c =
    let within = invariant_of-self-2 c in (
      rw (← c.self.view_is) (record {
        pending = c.self.invariant.0;
        given = c.self.invariant.1;
        small = c.self.invariant.2;
      }),
      record { pending = within.0; given = within.1; small = within.2 },
    )

pub returns-clause-passes : goal.returns-clause-passes
returns-clause-passes c =
    let is = ap (λ (l : List ℕ). take c.min-count.result l) c.pending-pending.ensures.bytes in
    let size = ap (λ (l : List ℕ). length l) c.pending-pending.ensures.bytes in
    let none = c.add-2.ensures.pending ∙ drop_all c.min-count.result c.self.inside.buffer.pending (omega arith) in (
      rw (← c.self.view_is) (passes_none _ _ _ c.min-count.result is c.in_default.ensures c.add-2.ensures.pending c.add-2.ensures.line),
      none,
      omega (arith, size),
    )
