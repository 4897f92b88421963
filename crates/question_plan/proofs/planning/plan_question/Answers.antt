use Rattle.std.proofs.Common.{◌≤◌, ℕ, List, length, sym, ◌∙◌, subst}
use Rattle.std.proofs.lemmas.Bool.{false≢true}
use Rattle.audit_types.specs.Limits.{most_answer}
use Rattle.audit_types.specs.Headcount.{people_behind}
use Rattle.predicate_lang.specs.Trees.{tree_of}
use Rattle.set_index.specs.Indexed.{public_counts, public_shape}
use Rattle.question_plan.specs.declared.planning.Plan.{Plan}
use Rattle.question_plan.specs.Plans.{CanBeServed}
use Rattle.question_plan.proofs.Requested.{asked_as, question_served, refused_as}
use Rattle.question_plan.proofs.planning.plan_question.Goals as goal

pub returns-then-is_empty-clause-exact : goal.returns-then-is_empty-clause-exact
returns-then-is_empty-clause-exact c =
    refused_as c.args.take c.args.column _ _ _ (sym c.fill_rows_of.ensures.rows ∙ c.is_empty.ensures.0 c.if-is_empty.true)

pub returns-clause-exact : goal.returns-clause-exact
returns-clause-exact c =
    asked_as c.args.take c.args.column _ c.people.result (public_counts c.args.index.now) _ c.fill_rows_of.new.rows
    c.fill_rows_of.ensures.n c.fill_rows_of.ensures.rows
    c.people.ensures.exact (λ none. false≢true (sym c.if-is_empty.false ∙ c.is_empty.ensures.1 none))

pub returns-clause-served : goal.returns-clause-served
returns-clause-served c =
    let counts = public_counts c.args.index.now in
    let list = c.fill_rows_of.new.rows.list in
    let least : length list ≤ people_behind counts list = subst (λ (n : ℕ). length list ≤ n) c.people.ensures.exact c.people.ensures.at_least in
    let most : people_behind counts list ≤ most_answer = subst (λ (n : ℕ). n ≤ most_answer) c.people.ensures.exact c.people.ensures.at_most in
    subst (λ (p : Plan). CanBeServed (public_shape c.args.index.now) p) (sym (returns-clause-exact c))
    (question_served c.args.index.now.columns c.args.index.now.public c.args.take c.args.column counts c.requires.has (tree_of c.args.pred.now)
    (subst (λ (rows : List ℕ). length rows ≤ people_behind counts rows) c.fill_rows_of.ensures.rows least)
    (subst (λ (rows : List ℕ). people_behind counts rows ≤ most_answer) c.fill_rows_of.ensures.rows most))
