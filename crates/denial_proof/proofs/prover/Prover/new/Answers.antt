use Rattle.std.proofs.Common.{◌∙◌, ℕ, List, sym, subst}
use Rattle.std.specs.Prelude.{All}
use Rattle.audit_types.specs.declared.records.Answered.{Answered}
use Rattle.audit_types.specs.History.{FitsShape}
use Rattle.denial_proof.specs.Denied.{AreNarrowSums}
use Rattle.denial_proof.proofs.prover.Prover.new.Goals as goal

pub marks_of-requires-clause-narrow : goal.marks_of-requires-clause-narrow
marks_of-requires-clause-narrow c =
    let setting = c.args.core.now.setting in
    let history = c.args.core.now.history in
    let fit = subst (λ (list : List Answered). All (λ (r : Answered). FitsShape setting.shape r.column r.rows) list) c.history-history.ensures.is
    c.history-history.ensures.fit in
    let are = c.legal_sums.ensures setting history c.args.column fit c.protected.ensures.fit c.requires.legal c.in-Sum.ensures.own_kind in
    subst (λ (list : List Answered). AreNarrowSums c.n.result c.args.column list) (sym c.history-history.ensures.is)
    (subst (λ (k : ℕ). AreNarrowSums k c.args.column history) (sym (c.n.ensures.n ∙ c.in-Sum.ensures.n)) are)
