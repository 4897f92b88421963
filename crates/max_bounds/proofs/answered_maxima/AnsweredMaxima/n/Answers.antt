use Rattle.std.proofs.Common.{◌≡◌, subst}
use Rattle.std.specs.List.{AllByRecursion}
use Rattle.audit_types.specs.Rows.{Rows, AreRows}
use Rattle.max_bounds.specs.Maxima.{ListOfMaxima}
use Rattle.max_bounds.proofs.PairedSets.{all-paired}
use Rattle.max_bounds.proofs.answered_maxima.AnsweredMaxima.n.Goals as goal

pub returns-clause-same_n : goal.returns-clause-same_n
returns-clause-same_n c =
    subst (λ (m : ListOfMaxima). AllByRecursion (λ p. p.rows.n ≡ m.n) m.items) c.self.view_is
    (all-paired (λ (s : Rows). s.n ≡ c.self.inside.sets.n) c.self.inside.answers.items c.self.inside.sets.list c.n.ensures.same_n)

pub returns-clause-are_rows : goal.returns-clause-are_rows
returns-clause-are_rows c =
    subst (λ (m : ListOfMaxima). AllByRecursion (λ p. AreRows m.n p.rows.list) m.items) c.self.view_is
    (all-paired (λ (s : Rows). AreRows c.self.inside.sets.n s.list) c.self.inside.answers.items c.self.inside.sets.list c.n.ensures.are_rows)
