use Rattle.std.proofs.Common.{◌∙◌, ℕ, ◌<ℤ◌, ◌≤ℤ◌, sym, ap, subst, arith}
use Rattle.std.specs.Int.{w128}
use Rattle.std.proofs.lemmas.Int.{ints, to_z-of_z}
use Rattle.audit_types.specs.Rows.{Rows, AreRows, intersection, complement}
use Rattle.audit_types.specs.Column.{Answer}
use Rattle.audit_types.specs.Extremes.{upper_bound}
use Rattle.max_bounds.specs.Kept.{rows_at_least}
use Rattle.denial_proof.specs.FewRows.{AreFoundFew}
use Rattle.denial_proof.proofs.FewLeft.{higher_left, lower_left}
use Rattle.denial_proof.proofs.reaching.few_left.Goals as goal
use Rattle.denial_proof.proofs.reaching.few_left.Goals.{then-answer-value, else-answer-value}

pub returns : goal.returns
returns c = λ asked flipped one.
    let n = c.args.bounds.now.n in
    let people = c.args.people.now.people in
    let answers = c.args.bounds.now.answers in
    let a : Answer = record { rows = c.args.rows.now.list; value = c.args.value } in
    let are : AreRows n c.args.rows.now.list = subst (λ (k : ℕ). AreRows k c.args.rows.now.list) c.requires.same_n c.n.ensures.are_rows in
    let answer = to_z-of_z w128 c.args.answer c.ranges.answer in
    let value = to_z-of_z w128 c.args.value c.ranges.value in
    let found = rw value at c.few_reaching.ensures in
    elim c.if-answer-value.branch [
      | then-answer-value w ↦
          let less : c.args.answer <ℤ c.args.value = omega (arith, ints, rw (answer, value) at w.if-answer-value.true) in
          let list = ap (λ (s : Rows). s.list) w.kept-is ∙ w.and_with.ensures.both
          ∙ ap (λ k. intersection k c.args.rows.now.list c.args.others.now.list) c.requires.same_n
          ∙ ap (intersection n c.args.rows.now.list) (flipped ∙ ap (λ k. complement k asked) c.requires.others) in
          subst (λ rows. AreFoundFew n people rows c.few_reaching.result)
          (ap (rows_at_least (upper_bound answers) c.args.value) list ∙ sym (higher_left n answers asked c.args.answer a one are less)) found
      | else-answer-value w ↦
          let most : c.args.value ≤ℤ c.args.answer = omega (arith, ints, rw (answer, value) at w.if-answer-value.false) in
          let list = ap (λ (s : Rows). s.list) w.kept-is in
          subst (λ rows. AreFoundFew n people rows c.few_reaching.result)
          (ap (rows_at_least (upper_bound answers) c.args.value) list ∙ sym (lower_left n answers asked c.args.answer a one most)) found
    ]
