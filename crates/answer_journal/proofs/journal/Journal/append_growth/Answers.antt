use Rattle.std.proofs.Common.{◌≡◌, ◌+◌, ◌/◌, ◌%◌, ℕ, length, refl, ap, sym, subst, ◌∷◌, []}
use Rattle.audit_types.specs.declared.shapes.Shape.{Shape}
use Rattle.audit_types.specs.Widening.{over, widened}
use Rattle.journal_form.specs.Group.{IsGrowth}
use Rattle.journal_form.specs.Journal.{StandsAt}
use Rattle.answer_journal.specs.Contents.{JournalContents}
use Rattle.answer_journal.proofs.Histories.{growth_at_every_moment, growth_at_end}
use Rattle.answer_journal.proofs.journal.Journal.append_growth.Goals as goal

pub returns-in_err-append_bytes-clause-any_moment : goal.returns-in_err-append_bytes-clause-any_moment
returns-in_err-append_bytes-clause-any_moment g c = λ history told stands quiet.
    let file = g.B.Bench.file c.args.bench.now in
    let shape = c.args.self.now.shape in
    let rows = c.args.rows in
    let gate : c.self.inside.gate ≡ c.args.self.now.gate = ap (λ (j : JournalContents). j.gate) c.self.view_is in
    let here = subst (λ (k : ℕ). StandsAt file shape history k) (sym gate) stands in
    growth_at_every_moment file c.write_growth.new.out (0 ∷ (rows / 256) ∷ (rows % 256) ∷ []) shape history c.self.inside.gate rows here
    (c.requires.more, refl) c.write_growth.ensures g.B.Bench c.args.bench.now c.append_bytes.new.bench (g.B.Bench.sent c.args.bench.now)
    (c.append_bytes.ensures.any_moment told quiet)

pub returns-clause-any_moment : goal.returns-clause-any_moment
returns-clause-any_moment g c = λ history told stands quiet.
    let file = g.B.Bench.file c.args.bench.now in
    let shape = c.args.self.now.shape in
    let rows = c.args.rows in
    let gate : c.self.inside.gate ≡ c.args.self.now.gate = ap (λ (j : JournalContents). j.gate) c.self.view_is in
    let here = subst (λ (k : ℕ). StandsAt file shape history k) (sym gate) stands in
    growth_at_every_moment file c.write_growth.new.out (0 ∷ (rows / 256) ∷ (rows % 256) ∷ []) shape history c.self.inside.gate rows here
    (c.requires.more, refl) c.write_growth.ensures g.B.Bench c.args.bench.now c.append_bytes.new.bench (g.B.Bench.sent c.args.bench.now)
    (c.append_bytes.ensures.any_moment told quiet)

pub returns-clause-done : goal.returns-clause-done
returns-clause-done g c = λ history told stands.
    let file = g.B.Bench.file c.args.bench.now in
    let rows = c.args.rows in
    let shape = c.self.inside.shape in
    let same : shape ≡ c.args.self.now.shape = ap (λ (j : JournalContents). j.shape) c.self.view_is in
    let here = subst (λ (j : JournalContents). StandsAt file j.shape history j.gate) (sym c.self.view_is) stands in
    let growth : IsGrowth shape.rows (0 ∷ (rows / 256) ∷ (rows % 256) ∷ []) rows =
    (subst (λ (s : Shape). IsGrowth s.rows (0 ∷ (rows / 256) ∷ (rows % 256) ∷ []) rows) (sym same) (c.requires.more, refl)) in
    let at_end = growth_at_end file c.write_growth.new.out (0 ∷ (rows / 256) ∷ (rows % 256) ∷ []) shape history c.self.inside.gate rows here growth
    c.write_growth.ensures
    (g.B.Bench.file c.append_bytes.new.bench) (c.in_ok-append_bytes.ensures.done told) in
    let size : length c.write_growth.new.out ≡ 4 = ap length c.write_growth.ensures in
    subst (λ (k : ℕ). StandsAt (g.B.Bench.file c.append_bytes.new.bench) (over rows shape) (widened rows history) (c.self.inside.gate + k)) size at_end
