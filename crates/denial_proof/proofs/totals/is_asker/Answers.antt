use Rattle.std.proofs.Common.{◌≡◌, List, ℕ, refl, sym, ap, ◌∙◌, arith}
use Rattle.std.proofs.lemmas.Bool.{true≢false}
use Rattle.audit_types.specs.Rows.{has_row}
use Rattle.audit_types.specs.Headcount.{own_of}
use Rattle.audit_types.specs.HeadcountLaws.{one_by_rows}
use Rattle.audit_types.specs.declared.counted_rows.Askers.TheVariants.{Inside}
use Rattle.denial_proof.proofs.Tests.{same_test}
use Rattle.denial_proof.proofs.totals.is_asker.Goals as goal

pub returns-then-row-n : goal.returns-then-row-n
returns-then-row-n c = (λ yes. absurd (true≢false (sym yes)), λ asker. let below = asker.below in absurd (omega arith))

pub returns-then-holds : goal.returns-then-holds
returns-then-holds c = (
  λ yes. absurd (true≢false (sym yes)),
  λ asker.
      let people = c.args.people.now in
      let list = ap (λ (l : List ℕ). has_row l c.args.row) c.several.ensures.rows in
      let none = (one_by_rows people.n people.people c.n.ensures.counted c.args.row).0 asker.one in
      absurd (true≢false (sym (c.holds.ensures.0 c.if-holds.true) ∙ list ∙ none)),
)

pub returns-in-Inside : goal.returns-in-Inside
returns-in-Inside c = (
  λ yes.
      let people = c.args.people.now in
      let list = ap (λ (l : List ℕ). has_row l c.args.row) c.several.ensures.rows in
      let own : own_of Inside ≡ people.people.own = ap own_of (sym c.in-Inside.is) ∙ c.askers.ensures in
      record {
        below = omega arith;
        inside = omega arith;
        one = (one_by_rows people.n people.people c.n.ensures.counted c.args.row).1
            (sym list ∙ sym (same_test c.holds.result _ c.holds.ensures) ∙ c.if-holds.false);
      },
  λ asker. refl,
)
