use Rattle.std.proofs.Common.{sym, ap, ◌∙◌}
use Rattle.audit_types.specs.Rows.{has_row}
use Rattle.max_bounds.specs.declared.answered.AnsweredMax.{AnsweredMax}
use Rattle.max_bounds.proofs.PairedSets.{within, pair_is}
use Rattle.max_bounds.proofs.answered_maxima.AnsweredMaxima.has.Goals as goal

pub has-requires-clause-place : goal.has-requires-clause-place
has-requires-clause-place c = within c.self.inside c.args.self.now c.self.view_is c.self.invariant c.args.k c.requires.place

pub returns : goal.returns
returns c =
    c.has.ensures
    ∙ ap (λ (p : AnsweredMax). has_row p.rows.list c.args.row) (sym (pair_is c.self.inside c.args.self.now c.self.view_is c.self.invariant c.args.k))
