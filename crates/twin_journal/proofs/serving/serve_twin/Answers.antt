use Rattle.audit_session.specs.Sessions.{spare_told_by}
use Rattle.twin_journal.proofs.serving.serve_twin.Goals as goal

-- a twin store is spared
pub returns : goal.returns
returns g c = record { session = c.serve_with.ensures.session; spare = spare_told_by (λ told. (tt, told)) c.serve_with.ensures.spare }
