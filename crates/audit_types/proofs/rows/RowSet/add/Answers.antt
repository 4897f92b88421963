use Rattle.std.proofs.Common.{sym, ap, ◌∙◌, ◌||◌, ◌==◌, arith, ◌/◌, ◌<◌, length, ◌≡◌}
use Rattle.audit_types.specs.Rows.{Rows, with_row}
use Rattle.audit_types.specs.RowLaws.{rows_that_agree}
use Rattle.audit_types.specs.WordLaws.{AreWords-set, has_bit-set, has-view}
use Rattle.audit_types.proofs.rows.RowSet.add.Goals as goal

pub invariant_of-self : goal.invariant_of-self
invariant_of-self c =
    let e : c.self.inside.n ≡ c.args.self.now.n = ap (λ (s : Rows). s.n) c.self.view_is in
    AreWords-set c.self.inside.n c.self.inside.words c.args.row (omega arith) c.self.invariant

pub returns-clause-added : goal.returns-clause-added
returns-clause-added c =
    let e : c.self.inside.n ≡ c.args.self.now.n = ap (λ (s : Rows). s.n) c.self.view_is in
    let below : c.args.row / 64 < length c.self.inside.words = omega (arith, c.self.invariant.at_most) in
    rows_that_agree _ _ c.self.inside.n
    (λ r l. has_bit-set c.self.inside.words c.args.row r below
    ∙ ap (λ b. b || (r == c.args.row)) (sym (has-view c.self.inside.n c.self.inside.words c.self.invariant r)))
    ∙ ap (λ (s : Rows). with_row s.n s.list c.args.row) c.self.view_is
