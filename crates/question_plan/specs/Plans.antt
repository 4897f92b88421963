-- What can be done with a plan.
use Rattle.std.specs.Prelude.{◌≡◌, ◌≢◌, ◌<◌, ◌≤◌, ℕ, unsigned_abs}
use Rattle.audit_types.specs.declared.shapes.Shape.{Shape}
use Rattle.audit_types.specs.declared.records.Asked.{Asked}
use Rattle.audit_types.specs.declared.records.Verdict.TheVariants.{Released}
use Rattle.audit_types.specs.Limits.{most_number, most_answer}
use Rattle.audit_types.specs.History.{FitsShape}
use Rattle.audit_types.specs.Shapes.{kind_at}
use Rattle.audit_core.specs.declared.outcome.Outcome.{Outcome}
use Rattle.audit_core.specs.declared.outcome.Outcome.TheVariants.{Answer, Denied, Full}
use Rattle.predicate_lang.specs.Trees.{Tree, tree_of}
use Rattle.line_wire.specs.Reply.{IsInRange}
use Rattle.line_wire.specs.Requests.{kind_for}
use Rattle.line_wire.specs.declared.question.Take.{Take}
use Rattle.line_wire.specs.declared.question.Take.TheVariants.{Sum, Avg, Max, Min}
use Rattle.line_wire.specs.declared.request.Request.{Request}
use Rattle.line_wire.specs.declared.request.Request.TheVariants as request
use Rattle.question_plan.specs.declared.planning.Plan.{Plan}
use Rattle.question_plan.specs.declared.planning.Plan.TheVariants.{Ready, Ask}

-- the condition of a request
abbrev pub condition_of : Request → Tree
condition_of (request.Count p) = tree_of p
condition_of (request.Sum column p) = tree_of p
condition_of (request.Avg column p) = tree_of p
condition_of (request.Max column p) = tree_of p
condition_of (request.Min column p) = tree_of p

-- a question that can be decided over each table of a shape: it fits, its column answers what is taken of it, and it is over somebody, and over
-- no more people than the rows of a table stand for
pub record IsAskable (shape : Shape) (take : Take) (people : ℕ) (asked : Asked) : Type 0 where
  pub fits : FitsShape shape asked.column asked.rows
  pub own_kind : kind_at shape asked.column ≡ kind_for take
  pub somebody : 0 < people
  pub at_most : people ≤ most_answer

-- the reply can be written, or the question decided over each table of the shape
abbrev pub CanBeServed : Shape → Plan → Type 0
CanBeServed shape (Ready answer) = IsInRange answer
CanBeServed shape (Ask take people asked) = IsAskable shape take people asked

-- the greatest size of an answer over a table
abbrev pub most_of : Take → ℕ
most_of Sum = most_answer
most_of Avg = most_answer
most_of Max = most_number
most_of Min = most_number

-- a reply can tell the outcome: a denial isn't one of a released question, and an answer is one over a table
abbrev pub CanBeTold : Take → Outcome → Type 0
CanBeTold take Full = Unit {0}
CanBeTold take (Denied verdict) = verdict ≢ Released
CanBeTold take (Answer answer) = unsigned_abs answer ≤ most_of take
