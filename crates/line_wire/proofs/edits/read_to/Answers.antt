use Rattle.std.proofs.Common.{◌≡◌, ◌+◌, ◌-◌, ◌≤◌, ℕ, Bool, true, List, length, drop, Result, Ok, Err, ◌∙◌, subst, arith, length-drop}
use Rattle.std.specs.Prelude.{IfOk, OnErr, is_err}
use Rattle.std.proofs.lemmas.Grind.{common_steps}
use Rattle.std.proofs.lemmas.List.{length-take-le}
use borrow.Rule.Slice.PartMut.{same_len_mid, take_put}
use Rattle.bench_core.specs.Source.{Reads}
use Rattle.line_wire.proofs.edits.read_to.Goals as goal

-- what was read after a place ends within the whole
within_whole : {E : Type 0} (r : Result ℕ E) (at size whole : ℕ) → at + size ≤ whole → IfOk r (λ count. count ≤ size) → IfOk r (λ count. at + count ≤ whole)
within_whole (Ok count) at size whole fits within = omega arith
within_whole (Err e) at size whole fits within = tt

-- a failed read is reported
told_failed : {E : Type 0} (r : Result ℕ E) (failed : Bool) → failed ≡ is_err r → OnErr r (failed ≡ true)
told_failed (Ok count) failed is = tt
told_failed (Err e) failed is = is

pub returns : goal.returns
returns g c =
    let bytes = c.args.bytes.now in
    let size : length c.read.new.buf ≡ length bytes - c.args.at =
    c.read.auto.buf ∙ length-take-le (length bytes - c.args.at) (drop c.args.at bytes) (omega (arith, length-drop c.args.at bytes)) in
    record {
      before = take_put c.args.at _ bytes c.read.new.buf (omega arith);
      bound = rw (same_len_mid c.args.at (length bytes - c.args.at) bytes c.read.new.buf c.read.auto.buf)
          (within_whole c.read.result c.args.at _ _ (omega (arith, size)) c.read.ensures.bound);
      bytes = λ told.
          subst (λ (read : List ℕ). Reads (g.P.Source.left c.args.source.now) (g.P.Source.left c.read.new.self) c.read.result read)
          (grind (arith, common_steps)) (c.read.ensures.bytes told);
      cause = c.read.ensures.cause;
      last_call = told_failed c.read.result _ c.read.ensures.last_call;
      len = same_len_mid c.args.at _ bytes c.read.new.buf c.read.auto.buf;
    }
