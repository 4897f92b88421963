use Rattle.std.proofs.Common.{ap, ◌∙◌, sym, arith, length, ◌/◌, ◌<◌, ◌&&◌, ◌==◌, not, refl}
use Rattle.std.proofs.lemmas.Bool.{true≢false}
use Rattle.audit_types.specs.Rows.{Rows, has_row, rows_that}
use Rattle.audit_types.specs.RowLaws.{rows_that_agree}
use Rattle.audit_types.specs.WordLaws.{has-view}
use Rattle.audit_types.proofs.Blocks.{shown, full_has, has_full, has_bit-cleared, AreWords-cleared}
use Rattle.audit_types.proofs.rows.RowSet.take_block.Goals as goal

pub invariant_of-self : goal.invariant_of-self
invariant_of-self c = AreWords-cleared c.self.inside.n c.self.inside.words c.args.block c.requires c.self.invariant

pub returns-then-self-k-clause-whole : goal.returns-then-self-k-clause-whole
returns-then-self-k-clause-whole c = (
  λ yes. absurd (true≢false (sym yes)),
  λ all. absurd (c.if-self-k.true (has_full c.self.inside.words c.args.block (c.self.invariant.ranges c.args.block)
      (λ r word. sym (shown c.self.inside c.args.self.now c.self.invariant c.self.view_is r) ∙ all r word))),
)

pub returns-clause-whole : goal.returns-clause-whole
returns-clause-whole c = (
  λ yes r word. shown c.self.inside c.args.self.now c.self.invariant c.self.view_is r
      ∙ full_has c.self.inside.words c.args.block r c.if-self-k.false word,
  λ all. refl,
)

pub returns-clause-left : goal.returns-clause-left
returns-clause-left c =
    let within : c.args.block < length c.self.inside.words = omega (arith, c.self.told) in
    rows_that_agree _ _ c.self.inside.n (λ r l. has_bit-cleared c.self.inside.words c.args.block r within
    ∙ ap (λ b. b && not (r / 64 == c.args.block)) (sym (has-view c.self.inside.n c.self.inside.words c.self.invariant r)))
    ∙ ap (λ (s : Rows). rows_that (λ r. has_row s.list r && not (r / 64 == c.args.block)) s.n) c.self.view_is
