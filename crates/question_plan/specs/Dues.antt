-- The verdict that a line is due, and the line that is sent for it.
use Rattle.std.specs.Prelude.{ℕ, List, ◌++◌, codes}
use Rattle.line_wire.specs.declared.reply.Reply.{Reply}
use Rattle.line_wire.specs.declared.reply.Reply.TheVariants as reply
use Rattle.question_plan.specs.declared.due.Due.{Due}
use Rattle.question_plan.specs.declared.due.Due.TheVariants as due

-- the verdict that a reply gives if it isn't an answer
abbrev pub due_of_reply : Reply → Due
due_of_reply (reply.Count count) = due.Counted
due_of_reply reply.Unsafe = due.Unsafe
due_of_reply reply.Wide = due.Wide
due_of_reply answer = due.Refused

-- the word for a verdict
abbrev pub word_of : Due → List ℕ
word_of due.Counted = codes "count"
word_of due.Refused = codes "refused"
word_of due.Released = codes "released"
word_of due.Unsafe = codes "unsafe"
word_of due.Wide = codes "wide"

-- the line that is sent for it
abbrev pub verdict_bytes : Due → List ℕ
verdict_bytes verdict = codes "{\"verdict\":\"" ++ word_of verdict ++ codes "\"}\n"
