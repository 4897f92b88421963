use Rattle.std.proofs.Common.{◌≡◌, ℕ, ◌<◌, Some}
use Rattle.std.specs.Prelude.{slice_get}
use Rattle.audit_types.specs.declared.records.Answered.{Answered}
use Rattle.audit_store.specs.Starting.{IsTrue}
use Rattle.audit_store.proofs.LegalHistories.{plain_table}
use Rattle.audit_store.proofs.starting.test_truth.Given as goal

-- the records so far have the true answers
abbrev pub invariant-loop-place : goal.invariant-loop-place
invariant-loop-place l =
    (i : ℕ) (r : Answered) → i < l.place → slice_get l.list i ≡ Some r → IsTrue (plain_table l.secret) r
