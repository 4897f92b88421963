use Rattle.std.proofs.Common.{◌≡◌, ℕ, ◌+◌, ◌-◌, List, ◌++◌, length, take, drop, sym, ap, ◌∙◌, arith, length-take, length-drop}
use Rattle.line_wire.specs.Buffer.{Held}
use Rattle.line_wire.proofs.BufferRanges.{written_back, taken_there, still_in_front}
use Rattle.line_wire.proofs.buffer.Buffer.fill.Goals as goal

pub invariant_of-self-2 : goal.invariant_of-self-2
invariant_of-self-2 g c =
    let kept = c.self.inside.bytes.items in
    let moved = c.move_bytes.new.bytes in
    let moved_size : length moved ≡ length kept = c.move_bytes.ensures.len ∙ ap (λ (l : List ℕ). length l) c.deref_mut.ensures.value in
    let before : List ℕ = take c.self.inside.bytes.len (moved ++ drop (length moved) kept) in
    let before_is : before ≡ moved = written_back c.self.inside.bytes.len moved kept moved_size (omega arith) in
    let read_size : length c.read_to.new.bytes ≡ length before = c.read_to.ensures.len ∙ ap (λ (l : List ℕ). length l) c.deref_mut-2.ensures.value in
    let written = written_back c.self.inside.bytes.len c.read_to.new.bytes before read_size (omega arith) in
    let whole = ap (λ (l : List ℕ). length l) written ∙ read_size ∙ ap (λ (l : List ℕ). length l) before_is ∙ moved_size in
    (omega arith, omega arith, omega arith, omega arith, omega (arith, whole, read_size, c.in_ok-count.ensures.bound), omega (arith, whole))

pub invariant_of-self : goal.invariant_of-self
invariant_of-self g c =
    let kept = c.self.inside.bytes.items in
    let moved = c.move_bytes.new.bytes in
    let moved_size : length moved ≡ length kept = c.move_bytes.ensures.len ∙ ap (λ (l : List ℕ). length l) c.deref_mut.ensures.value in
    let before : List ℕ = take c.self.inside.bytes.len (moved ++ drop (length moved) kept) in
    let before_is : before ≡ moved = written_back c.self.inside.bytes.len moved kept moved_size (omega arith) in
    let read_size : length c.read_to.new.bytes ≡ length before = c.read_to.ensures.len ∙ ap (λ (l : List ℕ). length l) c.deref_mut-2.ensures.value in
    let written = written_back c.self.inside.bytes.len c.read_to.new.bytes before read_size (omega arith) in
    let whole = ap (λ (l : List ℕ). length l) written ∙ read_size ∙ ap (λ (l : List ℕ). length l) before_is ∙ moved_size in
    (omega arith, omega arith, omega arith, omega arith, omega arith, omega (arith, whole))

pub returns : goal.returns
returns g c =
    let kept = c.self.inside.bytes.items in
    let moved = c.move_bytes.new.bytes in
    let moved_size : length moved ≡ length kept = c.move_bytes.ensures.len ∙ ap (λ (l : List ℕ). length l) c.deref_mut.ensures.value in
    let before : List ℕ = take c.self.inside.bytes.len (moved ++ drop (length moved) kept) in
    let before_is : before ≡ moved = written_back c.self.inside.bytes.len moved kept moved_size (omega arith) in
    let read_size : length c.read_to.new.bytes ≡ length before = c.read_to.ensures.len ∙ ap (λ (l : List ℕ). length l) c.deref_mut-2.ensures.value in
    let written = written_back c.self.inside.bytes.len c.read_to.new.bytes before read_size (omega arith) in
    let len : ℕ = c.self.inside.stop - c.self.inside.start in
    let after : List ℕ = take c.self.inside.bytes.len (c.read_to.new.bytes ++ drop (length c.read_to.new.bytes) before) in
    let size = ap (λ (l : List ℕ). length l) written in
    record {
      line =
          still_in_front _ c.read_to.new.bytes before moved _ len written
          (rw c.deref_mut-2.ensures.value at c.in_ok-count.ensures.before) before_is (rw c.deref_mut.ensures.value at c.move_bytes.ensures.moved)
          ∙ ap (λ (held : Held). held.line) c.self.view_is;
      count = (
        omega (arith, size, c.in_ok-count.ensures.bound, length-take (len + c.in_ok-count.count - len) (drop len after), length-drop len after),
        omega (arith, c.in_ok-count.ensures.bound, read_size),
      );
      none = tt;
      bytes = λ told.
          let there = taken_there _ _ len c.in_ok-count.count written in
          let reads = c.in_ok-count.ensures.bytes told in
          (reads.0 ∙ ap (λ (l : List ℕ). l ++ g.P.Source.left c.read_to.new.source) (sym there), reads.1);
      cause = c.in_ok-count.ensures.cause;
      last_call = tt;
    }
