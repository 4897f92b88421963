-- How a session ends.
use Rattle.std.specs.Prelude.{◌≡◌, ℕ, ◌+◌, ◌*◌, ◌/◌, List, ◌++◌, length, take}
use Rattle.audit_types.specs.declared.records.Answered.{Answered}
use Rattle.table_load.specs.Database.{Database, base_of}
use Rattle.set_index.specs.Indexed.{IndexView}
use Rattle.audit_store.specs.Stores.{StoreContents}
use Rattle.line_wire.specs.Lines.{CountedLine, whole_lines, most_input}
use Rattle.question_plan.specs.Session.{Replied, records_of, bytes_of, AreReplies, groups, commits}
use Rattle.question_plan.specs.Replies.{IsDue}

-- the table that is asked: its public part, and its secrets and what is guarded of them as the store has them
abbrev pub base_over : IndexView → StoreContents → Database
base_over index store = base_of index.columns index.public store.protected store.secret

-- lines were answered: their replies are what was sent meanwhile, and the history has their records
pub record Serves (base : Database) (history : List Answered) (lines : List CountedLine) (now : List Answered) (before after : List ℕ) : Type 0 where
  pub replies : List (Replied Answered)
  pub due : AreReplies (IsDue base) history lines replies
  pub history_is : now ≡ history ++ records_of replies
  pub sent_is : after ≡ before ++ bytes_of replies

-- the whole groups of lines whose last line feed stands among the bytes that were read were answered, and no other
abbrev pub ServesWhole : Database → List Answered → ℕ → List ℕ → List ℕ → List Answered → List ℕ → List ℕ → Type 0
ServesWhole base history batch input left now before after =
    (read : List ℕ) × (input ≡ read ++ left) × Serves base history (groups batch (length (whole_lines read) / batch) (whole_lines read)) now before after

-- some groups of lines were answered
pub record ServesSome (base : Database) (history : List Answered) (batch : ℕ) (lines : List CountedLine) (now : List Answered) (before after : List ℕ) : Type 0 where
  pub count : ℕ
  pub serves : Serves base history (groups batch count lines) now before after

-- the bytes of an input that may be read
unfoldable pub limited : List ℕ → List ℕ
limited input = take most_input input

-- the calls of the bench: one for each line's reply, and four for each group in which some reply makes a record
pub record TakesCalls (base : Database) (history : List Answered) (batch : ℕ) (lines : List CountedLine) (before after : ℕ) : Type 0 where
  pub replies : List (Replied Answered)
  pub due : AreReplies (IsDue base) history lines replies
  pub calls : after ≡ before + length lines + 4 * commits batch replies

-- the calls of the spare: four for each group in which some reply makes a record
pub record KeepsCalls (base : Database) (history : List Answered) (batch : ℕ) (lines : List CountedLine) (before after : ℕ) : Type 0 where
  pub replies : List (Replied Answered)
  pub due : AreReplies (IsDue base) history lines replies
  pub calls : after ≡ before + 4 * commits batch replies
