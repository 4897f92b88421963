-- A question that a line comes to fits every table of the schema with as many rows.
use Rattle.std.proofs.Common.{◌≡◌, ℕ, ◌<◌, List, [], ◌∷◌, Option, Some, None, refl, sym, subst, inl, inr}
use Rattle.std.specs.Prelude.{option_and_then}
use Rattle.audit_types.specs.declared.records.Asked.{Asked}
use Rattle.audit_types.specs.Rows.{AreRows}
use Rattle.audit_types.specs.RowLaws.{AreRows-rows_that}
use Rattle.audit_types.specs.Shapes.{columns}
use Rattle.audit_types.specs.History.{FitsShape}
use Rattle.schema_json.specs.Columns.{Column, AreColumns, place_of, secret_place}
use Rattle.schema_json.specs.SecretShape.{PlacesAreColumns, shape_of}
use Rattle.table_load.specs.Cells.{PublicView, counts_of}
use Rattle.predicate_lang.specs.Trees.{Tree, tree_of}
use Rattle.set_index.specs.Asked.{meaning}
use Rattle.line_wire.specs.Lines.{CountedLine, text, long}
use Rattle.line_wire.specs.Questions.{Written, counted, taken}
use Rattle.line_wire.specs.Requests.{IsRequest, secret_of}
use Rattle.line_wire.specs.declared.question.Take.{Take}
use Rattle.line_wire.specs.declared.question.Take.TheVariants.{Sum, Avg, Max, Min}
use Rattle.line_wire.specs.declared.request.Request.{Request}
use Rattle.line_wire.specs.declared.request.Request.TheVariants as request
use Rattle.question_plan.specs.declared.planning.Plan.TheVariants.{Ask}
use Rattle.question_plan.proofs.OnePlan.{never_asks}
use Rattle.question_plan.specs.Replies.{IsPlan, plan_of, question_over}

module _ (places : PlacesAreColumns) (schema : List Column) (valid : AreColumns schema) (public : PublicView) where
  -- the column that a name means is one of the table
  column_below : (name : List ℕ) (column : ℕ) → secret_of schema name ≡ Some column → column < columns (shape_of schema public.rows)
  column_below name column found = by (place_of name schema) found
    where
      by : (place : Option ℕ) → option_and_then (secret_place schema) place ≡ Some column → column < columns (shape_of schema public.rows)
      by None found = absurd (cc)
      by (Some place) found = (places schema place column valid found).has.below public.rows

  -- the column of a request is one of the table
  abbrev TakesColumnBelow : Request → Type 0
  TakesColumnBelow (request.Count p) = Unit {0}
  TakesColumnBelow (request.Sum c p) = c < columns (shape_of schema public.rows)
  TakesColumnBelow (request.Avg c p) = c < columns (shape_of schema public.rows)
  TakesColumnBelow (request.Max c p) = c < columns (shape_of schema public.rows)
  TakesColumnBelow (request.Min c p) = c < columns (shape_of schema public.rows)

  -- a question of such a column over the rows of a condition fits the shape
  question_fits : (t take : Take) (column : ℕ) (counts rows : List ℕ) (people : ℕ) (asked : Asked) → column < columns (shape_of schema public.rows) →
      AreRows public.rows rows → question_over t column public.rows counts rows ≡ Ask take people asked →
      FitsShape (shape_of schema public.rows) asked.column asked.rows
  question_fits t take column counts [] people asked below are is = absurd (cc)
  question_fits t take column counts (row ∷ rows) people asked below are is =
      let same : record { column = column; rows = record { n = public.rows; list = row ∷ rows } } ≡ asked = cc in
      subst (λ (a : Asked). FitsShape (shape_of schema public.rows) a.column a.rows) same
      (record { column_below = below; same_n = refl; are_rows = are; some = λ (e : row ∷ rows ≡ []). cc })

  request_fits : (counts : List ℕ) (r : Request) (take : Take) (people : ℕ) (asked : Asked) → TakesColumnBelow r →
      plan_of counts public r ≡ Ask take people asked → FitsShape (shape_of schema public.rows) asked.column asked.rows
  request_fits counts (request.Count p) take people asked below is = absurd (cc)
  request_fits counts (request.Sum c p) take people asked below is =
      question_fits Sum take c counts (meaning public (tree_of p)) people asked below (AreRows-rows_that _ public.rows) is
  request_fits counts (request.Avg c p) take people asked below is =
      question_fits Avg take c counts (meaning public (tree_of p)) people asked below (AreRows-rows_that _ public.rows) is
  request_fits counts (request.Max c p) take people asked below is =
      question_fits Max take c counts (meaning public (tree_of p)) people asked below (AreRows-rows_that _ public.rows) is
  request_fits counts (request.Min c p) take people asked below is =
      question_fits Min take c counts (meaning public (tree_of p)) people asked below (AreRows-rows_that _ public.rows) is

  -- the column of a request that a question means
  taken_below : (written : Written) (t : Tree) (r : Request) → IsRequest schema written t r → TakesColumnBelow r
  taken_below (counted condition) t (request.Count p) means = tt
  taken_below (taken Sum name condition) t (request.Sum c p) means = column_below name c means.0
  taken_below (taken Avg name condition) t (request.Avg c p) means = column_below name c means.0
  taken_below (taken Max name condition) t (request.Max c p) means = column_below name c means.0
  taken_below (taken Min name condition) t (request.Min c p) means = column_below name c means.0
  taken_below question t r means = absurd means

  -- a question that a line comes to fits the shape
  pub plan_fits : (line : CountedLine) (take : Take) (people : ℕ) (asked : Asked) → IsPlan schema public line (Ask take people asked) →
      FitsShape (shape_of schema public.rows) asked.column asked.rows
  plan_fits long take people asked is = absurd (cc)
  plan_fits (text line) take people asked (inl refused) = never_asks refused.fault take people asked refused.told
  plan_fits (text line) take people asked (inr requested) =
      request_fits (counts_of schema public) requested.request take people asked
      (taken_below requested.requests.question requested.requests.tree requested.request requested.requests.is)
      (sym requested.plan_is)
