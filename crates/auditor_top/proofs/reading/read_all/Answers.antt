use Rattle.std.proofs.Common.{rules, ◌≡◌, ◌∙◌, ◌++◌, ◌≤◌, ℕ, List, take, inl, ap, refl, subst, sym, append_assoc}
use Rattle.bench_core.specs.Causes.{Rose}
use Rattle.auditor_top.proofs.WholeFiles.{was_read, read_wanted, read_within, unfailed}
use Rattle.auditor_top.proofs.reading.read_all.Goals as goal

-- a failed read gives no bytes for the whole, and its fault is reported

pub returns-in-Err : goal.returns-in-Err
returns-in-Err g c = record {
  bytes = λ told. tt;
  fault = record {
    within = λ told is.
        read_within c.args.most (g.P.Source.left c.args.source.now) c.loop-piece.bytes.items (g.P.Source.left c.loop-piece.source)
        (g.P.Source.left c.read.new.self)
        (c.loop-piece.invariant.bytes told) (c.in-Err.ensures.bytes told) (search rules);
    later = subst (λ (n : ℕ). n ≤ g.P.Source.faults c.read.new.self) c.loop-piece.invariant.steady c.in-Err.ensures.cause.later;
    failed = λ is. subst (λ (n : ℕ). Rose n (g.P.Source.faults c.read.new.self)) c.loop-piece.invariant.steady c.in-Err.ensures.cause.failed;
    last_call = λ is. c.in-Err.ensures.last_call;
    steady = λ other. absurd (other refl);
  };
}

-- at the end nothing more is read

pub returns-in-Ok-eq0 : goal.returns-in-Ok-eq0
returns-in-Ok-eq0 g c = record {
  bytes = λ told.
      let read = c.in-Ok-eq0.ensures.bytes told in
      let none : g.P.Source.left c.loop-piece.source ≡ g.P.Source.left c.read.new.self =
      subst (λ (n : ℕ). g.P.Source.left c.loop-piece.source ≡ take n c.read.new.buf ++ g.P.Source.left c.read.new.self) c.in-Ok-eq0.field-0-test read.0 in
      record {
        split = c.loop-piece.invariant.bytes told ∙ ap (λ (left : List ℕ). c.loop-piece.bytes.items ++ left) none;
        end = inl (sym none ∙ read.1.0 c.in-Ok-eq0.field-0-test);
      };
  fault = unfailed g.P.Source _ _ _ _ (was_read _)
      (subst (λ (n : ℕ). n ≤ g.P.Source.faults c.read.new.self) c.loop-piece.invariant.steady c.read.ensures.cause.later)
      (c.in-Ok-eq0.ensures.cause.steady ∙ c.loop-piece.invariant.steady);
}

-- there was no memory for what was read

pub returns-in-Err-extend_from_slice : goal.returns-in-Err-extend_from_slice
returns-in-Err-extend_from_slice g c = record {
  bytes = λ told. tt;
  fault = unfailed g.P.Source _ _ _ _ (read_wanted _ refl)
      (subst (λ (n : ℕ). n ≤ g.P.Source.faults c.read.new.self) c.loop-piece.invariant.steady c.read.ensures.cause.later)
      (c.in-Ok.ensures.cause.steady ∙ c.loop-piece.invariant.steady);
}

-- more was read than may be

pub returns : goal.returns
returns g c = record {
  bytes = search rules;
  fault = unfailed g.P.Source _ _ _ _ (was_read _) c.loop-piece.invariant.later c.loop-piece.invariant.steady;
}

-- ---- what was read is put after the bytes before it

pub loop-piece-preserved : goal.loop-piece-preserved
loop-piece-preserved g c = record {
  bytes = λ told.
      let items = c.loop-piece.bytes.items in
      let piece = take c.in-Ok.count c.read.new.buf in
      let left = g.P.Source.left c.read.new.self in
      let extended : c.extend_from_slice.new.self.items ≡ items ++ piece = search rules in
      c.loop-piece.invariant.bytes told ∙ ap (λ (l : List ℕ). items ++ l) (c.in-Ok.ensures.bytes told).0
      ∙ sym (append_assoc items piece left) ∙ ap (λ (l : List ℕ). l ++ left) (sym extended);
  later = subst (λ (n : ℕ). n ≤ g.P.Source.faults c.read.new.self) c.loop-piece.invariant.steady c.read.ensures.cause.later;
  steady = c.in-Ok.ensures.cause.steady ∙ c.loop-piece.invariant.steady;
}
