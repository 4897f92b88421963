use Rattle.std.proofs.Common.{◌≡◌, ℕ, List, map, sym, ap, ◌∙◌, subst}
use Rattle.std.proofs.lemmas.List.Elements.{All-weaker}
use Rattle.audit_types.specs.Rows.{Rows, IsRowsOf}
use Rattle.audit_types.specs.Form.{set_row}
use Rattle.audit_types.specs.Headcount.{shared_in}
use Rattle.sum_basis.specs.Basis.{Echelon}
use Rattle.sum_basis.specs.Growth.{ForeseesApart}
use Rattle.sum_basis.proofs.Askers.{told_outside}
use Rattle.sum_basis.proofs.basis.Basis.weigh_among.Goals as goal

pub weigh_apart-requires-clause-same_n : goal.weigh_apart-requires-clause-same_n
weigh_apart-requires-clause-same_n c =
    All-weaker (IsRowsOf c.args.self.now.n) (λ (s : Rows). s.n ≡ c.args.self.now.n) (λ s is. is.same_n) c.args.apart.now c.requires.apart

pub returns-in-Outside-clause-foresees : goal.returns-in-Outside-clause-foresees
returns-in-Outside-clause-foresees c =
    let sets = map (λ (s : Rows). s.list) c.args.apart.now in
    told_outside c.args.self.now (set_row c.args.self.now.n c.args.rows.now.list) c.args.people.now.people sets c.in_ok-told.told (sym c.in-Outside.ensures)
    (subst (λ (shared : List ℕ). ForeseesApart c.args.self.now (set_row c.args.self.now.n c.args.rows.now.list) shared sets c.in_ok-told.told)
    c.shared.ensures.rows c.in_ok-told.ensures.foresees)

pub told_inside-requires-clause-told : goal.told_inside-requires-clause-told
told_inside-requires-clause-told c =
    let sets = map (λ (s : Rows). s.list) c.args.apart.now in
    subst (λ (e : Echelon). ForeseesApart e (set_row e.n c.args.rows.now.list) (shared_in c.args.people.now.people) sets c.in_ok-told.told)
    (sym (c.keep_keys_if_open.ensures ∙ c.in_ok-told.ensures.same))
    (subst (λ (shared : List ℕ). ForeseesApart c.args.self.now (set_row c.args.self.now.n c.args.rows.now.list) shared sets c.in_ok-told.told)
    c.shared.ensures.rows c.in_ok-told.ensures.foresees)

pub told_inside-requires-clause-same_n : goal.told_inside-requires-clause-same_n
told_inside-requires-clause-same_n c =
    All-weaker (IsRowsOf c.args.self.now.n) (λ (s : Rows). s.n ≡ c.keep_keys_if_open.new.self.n)
    (λ s is. is.same_n ∙ sym (ap (λ (e : Echelon). e.n) (c.keep_keys_if_open.ensures ∙ c.in_ok-told.ensures.same))) c.args.apart.now c.requires.apart
