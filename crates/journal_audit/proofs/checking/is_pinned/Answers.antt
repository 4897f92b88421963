use Rattle.std.proofs.Common.{◌≡◌, ◌<◌, ℕ, List, [], ◌∷◌, ◌∙◌, sym, subst}
use Rattle.audit_types.specs.Form.{set_row, InSpan}
use Rattle.sum_audit.specs.Sets.{sets_of}
use Rattle.journal_audit.proofs.RowLines.{only_row}
use Rattle.journal_audit.proofs.checking.is_pinned.Goals as goal

pub returns : goal.returns
returns c =
    let n = c.args.sums.now.n in
    let row = c.args.row in
    let form = c.basis.result.now.rows in
    let law = c.directions_of_a_form.ensures.pinned n (sets_of c.args.sums.now.answers) form row c.n.ensures.are_rows c.basis.ensures.form c.requires in
    let alone : c.add.new.self.list ≡ row ∷ [] =
    c.add.ensures.added ∙ only_row c.new-alone.result.n c.new-alone.result.list row c.new-alone.ensures.empty
    (subst (λ k. row < k) (sym (c.new-alone.ensures.n ∙ c.n.ensures.n)) c.requires) in
    let Told : ℕ → List ℕ → Type 0 = λ k rows. InSpan form (set_row k rows) in (
      λ yes. law.1 (subst (λ k. Told k (row ∷ [])) c.basis.ensures.n (subst (Told c.basis.result.now.n) alone (c.contains.ensures.0 yes))),
      λ pinned. c.contains.ensures.1
          (subst (Told c.basis.result.now.n) (sym alone) (subst (λ k. Told k (row ∷ [])) (sym c.basis.ensures.n) (law.0 pinned))),
    )
