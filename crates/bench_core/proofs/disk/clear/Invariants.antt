use Rattle.std.proofs.Common.{◌≡◌, ℕ, ◌<◌, false, length}
use Rattle.bench_core.specs.DiskContents.{is_dirty}
use Rattle.bench_core.proofs.disk.clear.Given as goal

-- no place so far is touched
abbrev pub invariant-loop-place : goal.invariant-loop-place
invariant-loop-place l = record { so_far : (k : ℕ) → k < l.place → is_dirty l.dirty k ≡ false; long : length l.dirty ≡ length l.fn.dirty }
