use Rattle.std.proofs.Common.{arith, ap, ◌∙◌, ◌≡◌, ◌≤◌, ◌⊎◌, ◌+◌, inl, inr, length}
use Rattle.std.specs.Prelude.{◌||◌, ◌&&◌, nat_le, nat_lt}
use Rattle.bench_core.specs.DiskContents.{is_dirty}
use Rattle.bench_core.proofs.TouchedPlaces.{touched_more, touched_none, same_end}
use Rattle.bench_core.proofs.disk.mark.Goals as goal
use Rattle.bench_core.proofs.disk.mark.Goals.{then-count-left, else-count-left}

pub loop-place-init : goal.loop-place-init
loop-place-init c = touched_none c.args.dirty.now c.args.at

pub loop-place-preserved : goal.loop-place-preserved
loop-place-preserved c =
    let end_inside : c.if-count-left.end ≤ length c.args.dirty.now = elim c.if-count-left.branch [
      | then-count-left w ↦ omega (arith, w.end-is, w.if-count-left.true)
      | else-count-left w ↦ omega (arith, w.end-is)
    ] in
    touched_more c.args.dirty.now c.args.at c.loop-place.place c.loop-place.dirty c.loop-place.auto.place
    (omega (arith, c.loop-place.auto.dirty, c.loop-place-test.true)) c.loop-place.invariant

pub returns-clause-touched : goal.returns-clause-touched
returns-clause-touched c = λ k lt.
    let old = c.args.dirty.now in
    let at = c.args.at in
    let end = c.if-count-left.end in
    let which : (end ≡ at + c.args.count) ⊎ ((end ≡ length old) × (length old ≤ at + c.args.count)) = elim c.if-count-left.branch [
      | then-count-left w ↦ inl w.end-is
      | else-count-left w ↦ inr (w.end-is, omega (arith, w.if-count-left.false))
    ] in
    let ended : c.loop-place.place ≡ end = elim c.if-count-left.branch [
      | then-count-left w ↦ omega (arith, w.end-is, c.loop-place.auto.place-end, c.loop-place-test.false)
      | else-count-left w ↦ omega (arith, w.end-is, c.loop-place.auto.place-end, c.loop-place-test.false, c.requires)
    ] in
    c.loop-place.invariant.flags k ∙ ap (λ place. is_dirty old k || (nat_le at k && nat_lt k place)) ended
    ∙ ap (λ b. is_dirty old k || b) (same_end at c.args.count end (length old) k lt which)
