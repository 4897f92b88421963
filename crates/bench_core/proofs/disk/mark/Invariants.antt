use Rattle.bench_core.proofs.TouchedPlaces.{Touched}
use Rattle.bench_core.proofs.disk.mark.Given as goal

-- the places so far are touched
abbrev pub invariant-loop-place : goal.invariant-loop-place
invariant-loop-place l = Touched l.fn.dirty l.at l.place l.dirty
