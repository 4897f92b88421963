-- What a drill sends: the summary of the replies that are due to its lines over its table.
use Rattle.std.specs.Prelude.{◌≡◌, ℕ, List, [], ◌++◌}
use Rattle.audit_types.specs.declared.records.Answered.{Answered}
use Rattle.audit_types.specs.Limits.{most_rows, most_width}
use Rattle.audit_types.specs.Headcount.{one_person_each}
use Rattle.audit_types.specs.History.{Protection}
use Rattle.table_load.specs.Database.{Database, base_of}
use Rattle.bench_core.specs.Bench.{AppendsFront}
use Rattle.line_wire.specs.Lines.{counted_lines}
use Rattle.question_plan.specs.Session.{Replied, bytes_of, AreReplies}
use Rattle.question_plan.specs.Replies.{IsDue}
use Rattle.drill_case.specs.Tables.{drill_rows, drill_columns, drill_public, drill_secret}
use Rattle.drill_case.specs.Lines.{drill_text}
use Rattle.drill_case.specs.Tallies.{lines_in, IsTallyOf, summary_line}
use Rattle.drill_case.specs.declared.tallies.Tally.{Tally}

-- what is guarded of the table of a drill: the number of each row, of one person
abbrev pub drill_protection : Protection
drill_protection = record { groups = []; people = one_person_each; width = most_width; reach = most_rows }

-- the schema and the table of a drill
abbrev pub drill_base : ℕ → Database
drill_base number = base_of drill_columns (drill_public number) drill_protection (drill_secret number)

-- these bytes are the replies due to the lines of a drill, from the empty history on
pub record AnswersDrill (number : ℕ) (sent : List ℕ) : Type 0 where
  pub replies : List (Replied Answered)
  pub due : AreReplies (IsDue (drill_base number)) [] (counted_lines (drill_text number)) replies
  pub sent_is : sent ≡ bytes_of replies

-- the line that tells a tally of them
pub record IsSummary (number : ℕ) (text : List ℕ) : Type 0 where
  pub sent : List ℕ
  pub answers : AnswersDrill number sent
  pub tally : Tally
  pub counts : IsTallyOf (lines_in sent) tally
  pub text_is : text ≡ summary_line drill_rows tally

-- it was sent
abbrev pub SendsSummary : ℕ → List ℕ → List ℕ → Type 0
SendsSummary number before after = (text : List ℕ) × IsSummary number text × (after ≡ before ++ text)

-- or a front of it
abbrev pub SendsSummaryFront : ℕ → List ℕ → List ℕ → Type 0
SendsSummaryFront number before after = (text : List ℕ) × IsSummary number text × AppendsFront before text after
