-- The provers that are kept from line to line.
use Rattle.std.specs.Prelude.{List, IfSome}
use Rattle.audit_types.specs.declared.records.Answered.{Answered}
use Rattle.audit_types.specs.History.{Setting}
use Rattle.denial_proof.specs.Provers.{IsProverOf}
use Rattle.certificate_lines.specs.declared.provers.Provers.{Provers}

-- those that are kept are for questions after this history
pub record AreProversOf (setting : Setting) (history : List Answered) (provers : Provers) : Type 0 where
  pub sums : IfSome provers.sums (IsProverOf setting history)
  pub maxima : IfSome provers.maxima (IsProverOf setting history)
