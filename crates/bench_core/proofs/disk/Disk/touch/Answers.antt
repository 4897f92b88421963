use Rattle.std.proofs.Common.{◌≡◌, Bool, List, length, length-take, arith, ap, ◌∙◌}
use Rattle.bench_core.specs.Machine.{dirtied}
use Rattle.bench_core.specs.DiskContents.{DiskContents, is_dirty}
use Rattle.bench_core.proofs.Buffers.{stored}
use Rattle.bench_core.proofs.disk.Disk.touch.Goals as goal

pub mark-requires : goal.mark-requires
mark-requires c =
    let d = c.self.inside in
    let file = ap (λ (v : DiskContents). length v.file) c.self.view_is in
    let flags = ap length c.deref_mut.ensures.value in
    omega (arith, c.requires, file, length-take d.len d.file.items, c.self.invariant.0, c.self.invariant.3, flags)

pub returns : goal.returns
returns c =
    let d = c.self.inside in
    let lent : c.deref_mut.result.now ≡ c.args.self.now.dirty = c.deref_mut.ensures.value ∙ ap (λ (v : DiskContents). v.dirty) c.self.view_is in
    let kept = stored c.mark.new.dirty c.deref_mut.result.now d.dirty.items d.dirty.len c.mark.ensures.len c.deref_mut.ensures.len in
    record {
      touched = λ place lt.
          ap (λ (l : List Bool). is_dirty l place) kept ∙ c.mark.ensures.touched place (omega (arith, lt, ap length lent))
          ∙ ap (λ (l : List Bool). dirtied (is_dirty l) c.args.at c.args.count place) lent;
      flags = ap length kept ∙ c.mark.ensures.len ∙ ap length lent;
      same = (
        ap (λ (v : DiskContents). v.file) c.self.view_is,
        ap (λ (v : DiskContents). v.stable) c.self.view_is,
        ap (λ (v : DiskContents). v.room) c.self.view_is,
      );
    }

pub invariant_of-self : goal.invariant_of-self
invariant_of-self c =
    let d = c.self.inside in
    let same = ap length (stored c.mark.new.dirty c.deref_mut.result.now d.dirty.items d.dirty.len c.mark.ensures.len c.deref_mut.ensures.len) in
    (c.self.invariant.0, c.self.invariant.1, c.self.invariant.2, same ∙ c.mark.ensures.len ∙ ap length c.deref_mut.ensures.value ∙ c.self.invariant.3)
