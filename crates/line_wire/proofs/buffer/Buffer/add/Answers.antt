use Rattle.std.proofs.Common.{ℕ, List, ◌≡◌, ◌+◌, ◌-◌, ◌++◌, length, take, drop, slice_range, ap, sym, ◌∙◌, arith, length-drop}
use Rattle.std.proofs.lemmas.List.{length-take-le}
use Rattle.line_wire.specs.Lines.{kept}
use Rattle.line_wire.specs.Buffer.{Held}
use Rattle.line_wire.proofs.BufferRanges.{written_back, range-later, range-long, rest-same, kept-full, kept-grown}
use Rattle.line_wire.proofs.buffer.Buffer.add.Goals as goal

pub overflow_add-self : goal.overflow_add-self
overflow_add-self c =
    let pending = ap (λ (held : Held). held.pending) c.self.view_is in
    let fits = range-long c.self.inside.bytes.items c.self.inside.from c.self.inside.end c.args.count (omega arith) (rw (← pending) at c.requires) in
    omega (arith, fits)

pub overflow_add-self-3 : goal.overflow_add-self-3
overflow_add-self-3 c =
    let pending = ap (λ (held : Held). held.pending) c.self.view_is in
    let fits = range-long c.self.inside.bytes.items c.self.inside.from c.self.inside.end c.args.count (omega arith) (rw (← pending) at c.requires) in
    omega (arith, fits)

pub invariant_of-self : goal.invariant_of-self
invariant_of-self c =
    let pending = ap (λ (held : Held). held.pending) c.self.view_is in
    let fits = range-long c.self.inside.bytes.items c.self.inside.from c.self.inside.end c.args.count (omega arith) (rw (← pending) at c.requires) in
    (omega arith, omega arith, omega (arith, fits), fits, omega arith, omega arith)

pub invariant_of-self-2 : goal.invariant_of-self-2
invariant_of-self-2 c =
    let pending = ap (λ (held : Held). held.pending) c.self.view_is in
    let fits = range-long c.self.inside.bytes.items c.self.inside.from c.self.inside.end c.args.count (omega arith) (rw (← pending) at c.requires) in
    let same : length c.move_bytes.new.bytes ≡ length c.self.inside.bytes.items =
    c.move_bytes.ensures.len ∙ ap (λ (l : List ℕ). length l) c.deref_mut.ensures.value in
    let whole =
    ap (λ (l : List ℕ). length l) (written_back c.self.inside.bytes.len c.move_bytes.new.bytes c.self.inside.bytes.items same (omega arith)) ∙ same in
    (omega arith, omega (arith, c.min.ensures), omega (arith, c.min.ensures), fits, omega arith, omega (arith, whole))

pub returns-then-len-eq-KEPT-clause-pending : goal.returns-then-len-eq-KEPT-clause-pending
returns-then-len-eq-KEPT-clause-pending c =
    let pending = ap (λ (held : Held). held.pending) c.self.view_is in
    let fits = range-long c.self.inside.bytes.items c.self.inside.from c.self.inside.end c.args.count (omega arith) (rw (← pending) at c.requires) in
    range-later c.self.inside.bytes.items c.self.inside.from c.self.inside.end c.args.count fits ∙ ap (λ (l : List ℕ). drop c.args.count l) pending

pub returns-then-len-eq-KEPT-clause-line : goal.returns-then-len-eq-KEPT-clause-line
returns-then-len-eq-KEPT-clause-line c =
    let line = ap (λ (held : Held). held.line) c.self.view_is in
    let size : length c.args.self.now.line ≡ 8193 =
    ap (λ (l : List ℕ). length l) (sym line)
    ∙ length-take-le (c.self.inside.stop - c.self.inside.start) (drop c.self.inside.start c.self.inside.bytes.items)
    (omega (arith, length-drop c.self.inside.start c.self.inside.bytes.items))
    ∙ c.if-len-eq-KEPT.true in
    line ∙ kept-full c.args.self.now.line (take c.args.count c.args.self.now.pending) size

pub returns-clause-pending : goal.returns-clause-pending
returns-clause-pending c =
    let pending = ap (λ (held : Held). held.pending) c.self.view_is in
    let fits = range-long c.self.inside.bytes.items c.self.inside.from c.self.inside.end c.args.count (omega arith) (rw (← pending) at c.requires) in
    let same : length c.move_bytes.new.bytes ≡ length c.self.inside.bytes.items = c.move_bytes.ensures.len
    ∙ ap (λ (l : List ℕ). length l) c.deref_mut.ensures.value in
    ap (λ (l : List ℕ). slice_range l (c.self.inside.from + c.args.count) c.self.inside.end)
    (written_back c.self.inside.bytes.len c.move_bytes.new.bytes c.self.inside.bytes.items same (omega arith))
    ∙ rest-same 8193 c.self.inside.bytes.items c.move_bytes.new.bytes c.self.inside.start c.self.inside.stop c.self.inside.from c.self.inside.end c.args.count
    (omega arith) (omega arith) (omega arith) fits (omega arith)
    (rw c.deref_mut.ensures.value at c.move_bytes.ensures.moved) (rw c.deref_mut.ensures.value at c.move_bytes.ensures.behind)
    ∙ ap (λ (l : List ℕ). drop c.args.count l) pending

pub returns-clause-line : goal.returns-clause-line
returns-clause-line c =
    let pending = ap (λ (held : Held). held.pending) c.self.view_is in
    let line = ap (λ (held : Held). held.line) c.self.view_is in
    let fits = range-long c.self.inside.bytes.items c.self.inside.from c.self.inside.end c.args.count (omega arith) (rw (← pending) at c.requires) in
    let same : length c.move_bytes.new.bytes ≡ length c.self.inside.bytes.items = c.move_bytes.ensures.len
    ∙ ap (λ (l : List ℕ). length l) c.deref_mut.ensures.value in
    let begins : ℕ = c.self.inside.from - (c.self.inside.stop - c.self.inside.start) in
    ap (λ (l : List ℕ). slice_range l begins (c.self.inside.from + c.min.result))
    (written_back c.self.inside.bytes.len c.move_bytes.new.bytes c.self.inside.bytes.items same (omega arith))
    ∙ ap (λ (n : ℕ). slice_range c.move_bytes.new.bytes begins (c.self.inside.from + n)) c.min.ensures
    ∙ kept-grown c.self.inside.bytes.items c.move_bytes.new.bytes c.self.inside.start c.self.inside.stop c.self.inside.from c.self.inside.end c.args.count
    (omega arith) (omega arith) (omega arith) fits (omega arith)
    (rw c.deref_mut.ensures.value at c.move_bytes.ensures.moved) (rw c.deref_mut.ensures.value at c.move_bytes.ensures.behind)
    ∙ ap (λ (held : Held). kept (held.line ++ take c.args.count held.pending)) c.self.view_is
