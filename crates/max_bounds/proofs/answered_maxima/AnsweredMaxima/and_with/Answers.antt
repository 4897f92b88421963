use Rattle.std.proofs.Common.{ℕ, List, set, get_or, sym, ap, ◌∙◌}
use Rattle.std.specs.Prelude.{pos}
use Rattle.audit_types.specs.Rows.{Rows, intersection}
use Rattle.audit_types.specs.RowSets.{no_rows}
use Rattle.max_bounds.specs.Maxima.{ListOfMaxima}
use Rattle.max_bounds.specs.Paired.{paired}
use Rattle.max_bounds.specs.declared.answered.AnsweredMax.{AnsweredMax}
use Rattle.max_bounds.proofs.PairedSets.{within, pair_is, set-paired}
use Rattle.max_bounds.proofs.answered_maxima.AnsweredMaxima.and_with.Goals as goal

pub and_with-requires-clause-place : goal.and_with-requires-clause-place
and_with-requires-clause-place c = within c.self.inside c.args.self.now c.self.view_is c.self.invariant c.args.k c.requires.place

pub returns-clause-both : goal.returns-clause-both
returns-clause-both c =
    let a = c.self.inside in
    let now = c.args.self.now in
    let k = c.args.k in
    let others = c.args.other.now.list in
    let after : Rows = record { n = a.sets.n; list = intersection a.sets.n (get_or a.sets.list k no_rows).list others } in
    ap (paired a.answers.items) c.and_with.ensures.both ∙ set-paired a.answers.items a.sets.list k after c.self.invariant
    ∙ ap (λ (l : List AnsweredMax). set l k (record { answer = get_or a.answers.items k (pos 0); rows = after }))
    (ap (λ (m : ListOfMaxima). m.items) c.self.view_is)
    ∙ ap (λ (n : ℕ). set now.items k
    (record { answer = get_or a.answers.items k (pos 0); rows = record { n = n; list = intersection n (get_or a.sets.list k no_rows).list others } }))
    (ap (λ (m : ListOfMaxima). m.n) c.self.view_is)
    ∙ ap (λ (p : AnsweredMax). set now.items k (record { answer = p.answer; rows = record { n = now.n; list = intersection now.n p.rows.list others } }))
    (sym (pair_is a now c.self.view_is c.self.invariant k))
