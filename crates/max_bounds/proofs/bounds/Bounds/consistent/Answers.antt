use Rattle.std.proofs.Common.{◌↔◌, arith, subst, inl, inr}
use Rattle.std.specs.Prelude.{IsTrue, nat_lt}
use Rattle.std.proofs.lemmas.Bool.{cases_lt, ltb-true, lt-ltb}
use Rattle.audit_types.specs.Extremes.{IsConsistent}
use Rattle.max_bounds.specs.Maxima.{Maxima, answers_of}
use Rattle.max_bounds.proofs.DangerCases.{consistent, not_consistent}
use Rattle.max_bounds.proofs.bounds.Bounds.consistent.Goals as goal

pub returns : goal.returns
returns c =
    let kept = c.self.invariant in
    let answers = answers_of c.self.inside.pairs.items in
    let counts = c.self.inside.counts.items in
    let few = c.self.inside.fewest in
    let sets = answers_of c.self.inside.least.items in
    subst (λ (m : Maxima). IsTrue (nat_lt 0 few) ↔ IsConsistent m.answers) c.self.view_is (
      (λ yes. consistent answers counts few sets kept.tells (ltb-true 0 few yes)),
      (λ all. elim (cases_lt 0 few) [
        | inl some ↦ lt-ltb 0 few some
        | inr none ↦ absurd (not_consistent answers counts few sets kept.tells (omega arith) all)
      ]),
    )
