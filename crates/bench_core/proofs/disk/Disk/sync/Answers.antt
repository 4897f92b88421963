use Rattle.std.proofs.Common.{◌≡◌, Bool, List, length, length-take, take, arith, ap, ◌∙◌}
use Rattle.bench_core.specs.DiskContents.{DiskContents, is_dirty}
use Rattle.bench_core.proofs.Buffers.{stored, piece_at_front}
use Rattle.bench_core.proofs.disk.Disk.sync.Goals as goal

pub put-requires : goal.put-requires
put-requires c =
    let file = ap length c.deref.ensures.value in
    let stable = ap length c.deref_mut.ensures.value in
    omega (arith, length-take c.self.inside.len c.deref.result.now, file, stable, c.self.invariant.0, c.self.invariant.2)

pub returns : goal.returns
returns c =
    let d = c.self.inside in
    let file = take d.len c.deref.result.now in
    let long : length file ≡ d.len = omega (arith, length-take d.len c.deref.result.now, ap length c.deref.ensures.value, c.self.invariant.0) in
    let kept = stored c.clear.new.dirty c.deref_mut-2.result.now d.dirty.items d.dirty.len c.clear.ensures.len c.deref_mut-2.ensures.len in
    record {
      stable =
          ap (take d.len) (stored c.put.new.bytes c.deref_mut.result.now d.stable.items d.stable.len c.put.auto.bytes c.deref_mut.ensures.len ∙ c.put.ensures)
          ∙ piece_at_front c.deref_mut.result.now file d.len long ∙ ap (take d.len) c.deref.ensures.value
          ∙ ap (λ (v : DiskContents). v.file) c.self.view_is;
      clear = λ place. ap (λ (l : List Bool). is_dirty l place) kept ∙ c.clear.ensures.clear place;
      flags =
          ap length kept ∙ c.clear.ensures.len ∙ ap length c.deref_mut-2.ensures.value
          ∙ ap (λ (v : DiskContents). length v.dirty) c.self.view_is;
      same = (ap (λ (v : DiskContents). v.file) c.self.view_is, ap (λ (v : DiskContents). v.room) c.self.view_is);
    }

pub invariant_of-self : goal.invariant_of-self
invariant_of-self c =
    let d = c.self.inside in
    let kept = ap length (stored c.put.new.bytes c.deref_mut.result.now d.stable.items d.stable.len c.put.auto.bytes c.deref_mut.ensures.len) in
    let stable = kept ∙ c.put.auto.bytes ∙ ap length c.deref_mut.ensures.value ∙ c.self.invariant.2 in
    let dirty = ap length (stored c.clear.new.dirty c.deref_mut-2.result.now d.dirty.items d.dirty.len c.clear.ensures.len c.deref_mut-2.ensures.len) in
    let flags = dirty ∙ c.clear.ensures.len ∙ ap length c.deref_mut-2.ensures.value ∙ c.self.invariant.3 in
    (c.self.invariant.0, omega (arith, stable, c.self.invariant.0), stable, flags)
