use Rattle.std.proofs.Common.{length, take, arith, ap, refl, ◌∙◌}
use Rattle.bench_core.proofs.Buffers.{stored, piece_at_front}
use Rattle.bench_core.proofs.disk.buffer.Goals as goal

pub put-requires : goal.put-requires
put-requires c = omega (arith, c.requires, c.deref_mut.ensures.len, c.in_ok-bytes.ensures.len)

pub returns : goal.returns
returns c =
    let file = c.args.file.now in
    let bytes = c.in_ok-bytes.bytes in
    let whole = stored c.put.new.bytes c.deref_mut.result.now bytes.items bytes.len c.put.auto.bytes c.deref_mut.ensures.len in
    record {
      file = ap (take (length file)) (whole ∙ c.put.ensures) ∙ piece_at_front c.deref_mut.result.now file (length file) refl;
      room = omega (arith, ap length whole, c.put.auto.bytes, c.deref_mut.ensures.len, c.in_ok-bytes.ensures.len);
    }
