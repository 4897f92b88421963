use Rattle.std.proofs.Common.{◌≡◌, ◌≤◌, Bool, List, length, take, length-take, arith, ap, ◌∙◌, sym}
use Rattle.bench_core.specs.Machine.{dirtied, written}
use Rattle.bench_core.specs.DiskContents.{DiskContents, is_dirty}
use Rattle.bench_core.proofs.Buffers.{stored, front_written}
use Rattle.bench_core.proofs.disk.Disk.write.Goals as goal

pub put-requires : goal.put-requires
put-requires c =
    omega (arith, c.requires.room, ap (λ (d : DiskContents). d.room) c.self.view_is, ap length c.deref_mut.ensures.value)

pub mark-requires : goal.mark-requires
mark-requires c =
    omega (arith, c.requires.room, ap (λ (d : DiskContents). d.room) c.self.view_is, c.self.invariant.3, ap length c.deref_mut-2.ensures.value)

pub returns : goal.returns
returns c =
    let d = c.self.inside in
    let piece = c.args.piece.now in
    let wrote : c.put.new.bytes ≡ written d.file.items c.args.at piece = c.put.ensures ∙ ap (λ f. written f c.args.at piece) c.deref_mut.ensures.value in
    let file = ap (λ (v : DiskContents). length v.file) c.self.view_is in
    let inside : c.args.at ≤ d.len = omega (arith, c.requires.inside, file, length-take d.len d.file.items) in
    let kept = stored c.put.new.bytes c.deref_mut.result.now d.file.items d.file.len c.put.auto.bytes c.deref_mut.ensures.len in
    let lent : c.deref_mut-2.result.now ≡ c.args.self.now.dirty = c.deref_mut-2.ensures.value ∙ ap (λ (v : DiskContents). v.dirty) c.self.view_is in
    let marked = stored c.mark.new.dirty c.deref_mut-2.result.now d.dirty.items d.dirty.len c.mark.ensures.len c.deref_mut-2.ensures.len in
    record {
      written =
          ap (take c.max-self-inside.result) (kept ∙ wrote)
          ∙ front_written d.file.items d.len c.args.at c.max-self-inside.result piece inside c.self.invariant.0 c.max-self-inside.ensures
          ∙ ap (λ (v : DiskContents). written v.file c.args.at piece) c.self.view_is;
      touched = λ place lt.
          ap (λ (l : List Bool). is_dirty l place) marked ∙ c.mark.ensures.touched place (omega (arith, lt, ap length lent))
          ∙ ap (λ (l : List Bool). dirtied (is_dirty l) c.args.at (length piece) place) lent;
      flags = ap length marked ∙ c.mark.ensures.len ∙ ap length lent;
      same = (
        ap (λ (v : DiskContents). v.stable) c.self.view_is,
        ap length kept ∙ c.put.auto.bytes ∙ ap length c.deref_mut.ensures.value ∙ ap (λ (v : DiskContents). v.room) c.self.view_is,
      );
    }

pub invariant_of-self : goal.invariant_of-self
invariant_of-self c =
    let d = c.self.inside in
    let file = ap length (stored c.put.new.bytes c.deref_mut.result.now d.file.items d.file.len c.put.auto.bytes c.deref_mut.ensures.len) in
    let dirty = ap length (stored c.mark.new.dirty c.deref_mut-2.result.now d.dirty.items d.dirty.len c.mark.ensures.len c.deref_mut-2.ensures.len) in
    let same : length c.put.new.bytes ≡ length d.file.items = c.put.auto.bytes ∙ ap length c.deref_mut.ensures.value in
    let flags : length c.mark.new.dirty ≡ length d.dirty.items = c.mark.ensures.len ∙ ap length c.deref_mut-2.ensures.value in
    let room = ap (λ (v : DiskContents). v.room) c.self.view_is in (
      omega (arith, file, same, room, c.self.invariant.0, c.requires.room, c.max-self-inside.ensures),
      c.self.invariant.1,
      c.self.invariant.2 ∙ sym (file ∙ same),
      dirty ∙ flags ∙ c.self.invariant.3 ∙ sym (file ∙ same),
    )
