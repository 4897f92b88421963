use Rattle.std.proofs.Common.{sym, ap, subst, ◌∙◌, ◌+◌, ◌-◌, ◌*◌, ◌/◌, ◌%◌, ◌^◌, ◌<◌, get_or}
use Rattle.std.specs.Prelude.{bit_and}
use Rattle.audit_types.specs.Rows.{Rows, has_row}
use Rattle.audit_types.specs.WordLaws.{byte_bits, byte_below, has-view}
use Rattle.audit_types.proofs.rows.RowSet.byte.Goals as goal

pub returns-clause-bits : goal.returns-clause-bits
returns-clause-bits c = λ i l.
    byte_bits c.self.inside.words c.args.at i l ∙ sym (has-view c.self.inside.n c.self.inside.words c.self.invariant (8 * c.args.at + i))
    ∙ ap (λ (s : Rows). has_row s.list (8 * c.args.at + i)) c.self.view_is

pub returns-clause-below : goal.returns-clause-below
returns-clause-below c =
    subst (λ (s : Rows). bit_and (get_or c.self.inside.words (c.args.at / 8) 0 / 2 ^ (8 * (c.args.at % 8))) 255 < 2 ^ (s.n - 8 * c.args.at)) c.self.view_is
    (byte_below c.self.inside.n c.self.inside.words c.args.at c.self.invariant)
