use Rattle.std.proofs.Common.{◌≡◌, ap, ◌∙◌, sym, arith, length, ◌/◌, ◌%◌, ◌<◌, ◌||◌, ◌&&◌, ◌==◌}
use Rattle.std.specs.Int.{bit_at}
use Rattle.audit_types.specs.Rows.{Rows, has_row, rows_that}
use Rattle.audit_types.specs.RowLaws.{rows_that_agree}
use Rattle.audit_types.specs.WordLaws.{has-view}
use Rattle.audit_types.proofs.Blocks.{has_bit-byte, AreWords-byte}
use Rattle.audit_types.proofs.rows.RowSet.add_byte.Goals as goal

pub invariant_of-self : goal.invariant_of-self
invariant_of-self c =
    let same : c.self.inside.n ≡ c.args.self.now.n = ap (λ (s : Rows). s.n) c.self.view_is in
    AreWords-byte c.self.inside.n c.self.inside.words c.args.at c.args.byte (rw same c.requires.at) (omega arith) (rw same c.requires.below) c.self.invariant

pub returns-clause-added : goal.returns-clause-added
returns-clause-added c =
    let same : c.self.inside.n ≡ c.args.self.now.n = ap (λ (s : Rows). s.n) c.self.view_is in
    let within : c.args.at / 8 < length c.self.inside.words = omega (arith, c.self.invariant.at_most) in
    rows_that_agree _ _ c.self.inside.n (λ r l. has_bit-byte c.self.inside.words c.args.at c.args.byte r within (omega arith)
    ∙ ap (λ b. b || ((r / 8 == c.args.at) && (bit_at c.args.byte (r % 8) == 1))) (sym (has-view c.self.inside.n c.self.inside.words c.self.invariant r)))
    ∙ ap (λ (s : Rows). rows_that (λ r. has_row s.list r || ((r / 8 == c.args.at) && (bit_at c.args.byte (r % 8) == 1))) s.n) c.self.view_is
