-- A question over some rows can be decided.
use Rattle.std.proofs.Common.{◌≡◌, ◌≢◌, ℕ, ◌≤◌, List, [], ◌∷◌, length, refl, ◌∙◌, ap, arith}
use Rattle.audit_types.specs.Limits.{most_answer}
use Rattle.audit_types.specs.Headcount.{people_behind}
use Rattle.audit_types.specs.RowLaws.{AreRows-rows_that}
use Rattle.schema_json.specs.Columns.{Column}
use Rattle.schema_json.specs.SecretShape.{HasSecret, shape_of}
use Rattle.table_load.specs.Cells.{PublicView}
use Rattle.predicate_lang.specs.Trees.{Tree}
use Rattle.audit_types.specs.Rows.{Rows, AreRows}
use Rattle.set_index.specs.Asked.{meaning}
use Rattle.line_wire.specs.Requests.{kind_for}
use Rattle.line_wire.specs.declared.question.Take.{Take}
use Rattle.line_wire.specs.declared.reply.Reply.TheVariants as reply
use Rattle.question_plan.specs.declared.planning.Plan.TheVariants.{Ready, Ask}
use Rattle.question_plan.specs.Replies.{question_over}
use Rattle.question_plan.specs.Plans.{CanBeServed}

-- it is asked as it stands, or refused if there is none
asked_over : (take : Take) (column n : ℕ) (counts rows : List ℕ) → rows ≢ [] →
    Ask take (people_behind counts rows) (record { column = column; rows = record { n = n; list = rows } }) ≡ question_over take column n counts rows
asked_over take column n counts [] some = absurd (some refl)
asked_over take column n counts (row ∷ rows) some = refl

pub asked_as : (take : Take) (column n people : ℕ) (counts rows : List ℕ) (set : Rows) → set.n ≡ n → set.list ≡ rows → people ≡ people_behind counts set.list →
    set.list ≢ [] → Ask take people (record { column = column; rows = set }) ≡ question_over take column n counts rows
asked_as take column n people counts rows set same_n same_list counted some =
    ap (λ (p : ℕ). Ask take p (record { column = column; rows = set })) counted
    ∙ asked_over take column set.n counts set.list some ∙ (λ i. question_over take column (same_n i) counts (same_list i))

pub refused_as : (take : Take) (column n : ℕ) (counts rows : List ℕ) → rows ≡ [] → Ready reply.Empty ≡ question_over take column n counts rows
refused_as take column n counts [] none = refl
refused_as take column n counts (row ∷ rows) none = absurd (cc)

module _ (schema : List Column) (public : PublicView) (take : Take) (column : ℕ) (counts : List ℕ) (has : HasSecret schema column (kind_for take)) where
  served_over : (rows : List ℕ) → AreRows public.rows rows → length rows ≤ people_behind counts rows → people_behind counts rows ≤ most_answer →
      CanBeServed (shape_of schema public.rows) (question_over take column public.rows counts rows)
  served_over [] are least most = tt
  served_over (row ∷ rows) are least most = record {
    fits = record { column_below = has.below public.rows; same_n = refl; are_rows = are; some = λ (e : row ∷ rows ≡ []). cc };
    own_kind = has.of_kind public.rows;
    somebody = omega (arith, least);
    at_most = most;
  }

  pub question_served : (t : Tree) → length (meaning public t) ≤ people_behind counts (meaning public t) →
      people_behind counts (meaning public t) ≤ most_answer →
      CanBeServed (shape_of schema public.rows) (question_over take column public.rows counts (meaning public t))
  question_served t least most = served_over (meaning public t) (AreRows-rows_that _ public.rows) least most
