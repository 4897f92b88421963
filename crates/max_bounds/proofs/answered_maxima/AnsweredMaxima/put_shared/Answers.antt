use Rattle.std.proofs.Common.{ap, ◌∙◌, sym}
use Rattle.audit_types.specs.Rows.{intersection}
use Rattle.max_bounds.specs.Maxima.{ListOfMaxima, pair_at}
use Rattle.max_bounds.specs.declared.answered.AnsweredMax.{AnsweredMax}
use Rattle.max_bounds.proofs.PairedSets.{within, pair_is}
use Rattle.max_bounds.proofs.answered_maxima.AnsweredMaxima.put_shared.Goals as goal

pub put_shared-requires-clause-place : goal.put_shared-requires-clause-place
put_shared-requires-clause-place c = within c.self.inside c.args.self.now c.self.view_is c.self.invariant c.args.k c.requires.place

pub returns-clause-both : goal.returns-clause-both
returns-clause-both c =
    c.put_shared.ensures.both
    ∙ ap (λ (p : AnsweredMax). intersection c.self.inside.sets.n p.rows.list c.args.other.now.list)
    (sym (pair_is c.self.inside c.args.self.now c.self.view_is c.self.invariant c.args.k))
    ∙ ap (λ n. intersection n (pair_at c.args.self.now.items c.args.k).rows.list c.args.other.now.list) (ap (λ (m : ListOfMaxima). m.n) c.self.view_is)
