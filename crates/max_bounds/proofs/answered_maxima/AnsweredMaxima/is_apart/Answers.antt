use Rattle.std.proofs.Common.{◌≡◌, [], ap, sym, subst}
use Rattle.std.specs.Prelude.{◌↔◌, IsTrue}
use Rattle.audit_types.specs.Rows.{intersection}
use Rattle.max_bounds.specs.Maxima.{ListOfMaxima, pair_at}
use Rattle.max_bounds.specs.declared.answered.AnsweredMax.{AnsweredMax}
use Rattle.max_bounds.proofs.PairedSets.{within, pair_is}
use Rattle.max_bounds.proofs.answered_maxima.AnsweredMaxima.is_apart.Goals as goal

pub is_apart-requires-clause-place : goal.is_apart-requires-clause-place
is_apart-requires-clause-place c = within c.self.inside c.args.self.now c.self.view_is c.self.invariant c.args.k c.requires.place

pub returns : goal.returns
returns c =
    subst (λ n. IsTrue c.is_apart.result ↔ (intersection n (pair_at c.args.self.now.items c.args.k).rows.list c.args.other.now.list ≡ []))
    (ap (λ (m : ListOfMaxima). m.n) c.self.view_is)
    (subst (λ (p : AnsweredMax). IsTrue c.is_apart.result ↔ (intersection c.self.inside.sets.n p.rows.list c.args.other.now.list ≡ []))
    (sym (pair_is c.self.inside c.args.self.now c.self.view_is c.self.invariant c.args.k)) c.is_apart.ensures)
