use Rattle.std.proofs.Common.{◌≡◌, take}
use Rattle.audit_store.proofs.agreeing.agreement.Given as goal

-- so far they are the same
abbrev pub invariant-loop-place : goal.invariant-loop-place
invariant-loop-place l = take l.place l.first ≡ take l.place l.second
