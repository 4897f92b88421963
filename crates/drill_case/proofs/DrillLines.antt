-- A drill's replies are at most as many lines as its questions have bytes.
use Rattle.std.proofs.Common.{◌≡◌, ◌≤◌, ◌<◌, ◌+◌, ℕ, Bool, true, false, cond, nat_lt, List, [], ◌∷◌, ◌++◌, length, map, option_to_list, refl, ap, ◌∙◌, arith, length-append}
use Rattle.std.specs.List.{AllByRecursion, flat_map, slice_split, onto_first}
use Rattle.std.proofs.lemmas.List.Splits.{length-slice_split}
use Rattle.audit_types.specs.declared.records.Answered.{Answered}
use Rattle.table_load.specs.Database.{Database}
use Rattle.line_wire.specs.Lines.{CountedLine, long, is_feed, line_of, unless_empty, without_return, counted_lines}
use Rattle.question_plan.specs.Session.{Replied, bytes_of, AreReplies}
use Rattle.question_plan.specs.Replies.{IsDue, IsReplyOf}
use Rattle.question_plan.specs.declared.planning.Plan.{Plan}
use Rattle.question_plan.specs.declared.planning.Plan.TheVariants.{Ready, Ask}
use Rattle.audit_types.specs.History.{Table}
use Rattle.drill_case.specs.Lines.{drill_text}
use Rattle.drill_case.specs.Tallies.{IsReplyText, lines_in}
use Rattle.drill_case.specs.Drills.{AnswersDrill, drill_base}

-- ---- lines of an input

one_at_most : (piece : List ℕ) → length (unless_empty piece) ≤ 1
one_at_most [] = omega arith
one_at_most (b ∷ piece) = omega arith

chosen : (over : Bool) (lines : List CountedLine) → length lines ≤ 1 → length (cond over (long ∷ []) lines) ≤ 1
chosen true lines few = omega arith
chosen false lines few = few

short : (piece : List ℕ) → length (line_of piece) ≤ 1
short piece = chosen (nat_lt 8192 (length piece)) (unless_empty (without_return piece)) (one_at_most (without_return piece))

longer : (b : ℕ) (parts : List (List ℕ)) (most : ℕ) → 0 < length parts → length (flat_map line_of parts) ≤ most →
    length (flat_map line_of (onto_first b parts)) ≤ most + 1
longer b [] most some few = absurd (omega (arith, some))
longer b (part ∷ parts) most some few =
    omega (arith, few, short (b ∷ part), length-append (line_of (b ∷ part)) (flat_map line_of parts), length-append (line_of part) (flat_map line_of parts))

step : (feed : Bool) (b : ℕ) (parts : List (List ℕ)) (most : ℕ) → 0 < length parts → length (flat_map line_of parts) ≤ most →
    length (flat_map line_of (cond feed ([] ∷ parts) (onto_first b parts))) ≤ most + 1
step true b parts most some few = omega (arith, few)
step false b parts most some few = longer b parts most some few

-- an input has at most as many lines as bytes
no_more_lines : (input : List ℕ) → length (counted_lines input) ≤ length input
no_more_lines [] = omega arith
no_more_lines (b ∷ input) =
    let some : 0 < length (slice_split is_feed input) = omega (arith, length-slice_split is_feed input) in
    omega (arith, step (is_feed b) b (slice_split is_feed input) (length input) some (no_more_lines input))

-- ---- replies

told : (table : Table) (history : List Answered) (plan : Plan) (replied : Replied Answered) → IsReplyOf table history plan replied → IsReplyText replied.bytes
told table history (Ready answer) replied is = (answer, ap (λ (r : Replied Answered). r.bytes) is)
told table history (Ask take people asked) replied is = (is.answer, ap (λ (r : Replied Answered). r.bytes) is.replied_is)

-- the bytes of each reply
abbrev texts : List (Replied Answered) → List (List ℕ)
texts replies = map (λ (r : Replied Answered). r.bytes) replies

are_texts : (base : Database) (history : List Answered) (lines : List CountedLine) (replies : List (Replied Answered)) →
    AreReplies (IsDue base) history lines replies → AllByRecursion IsReplyText (texts replies)
are_texts base history [] [] due = tt
are_texts base history [] (reply ∷ replies) due = absurd due
are_texts base history (line ∷ lines) [] due = absurd due
are_texts base history (line ∷ lines) (reply ∷ replies) due =
    (told _ history due.0.plan reply due.0.reply, are_texts base (history ++ option_to_list reply.added) lines replies due.1)

as_many : (base : Database) (history : List Answered) (lines : List CountedLine) (replies : List (Replied Answered)) →
    AreReplies (IsDue base) history lines replies → length (texts replies) ≡ length lines
as_many base history [] [] due = refl
as_many base history [] (reply ∷ replies) due = absurd due
as_many base history (line ∷ lines) [] due = absurd due
as_many base history (line ∷ lines) (reply ∷ replies) due = omega (arith, as_many base (history ++ option_to_list reply.added) lines replies due.1)

joined : (replies : List (Replied Answered)) → bytes_of replies ≡ flat_map (λ reply. reply) (texts replies)
joined [] = refl
joined (reply ∷ replies) = ap (λ (bytes : List ℕ). reply.bytes ++ bytes) (joined replies)

-- ---- both

pub few_lines : ((replies : List (List ℕ)) → AllByRecursion IsReplyText replies → length (lines_in (flat_map (λ reply. reply) replies)) ≡ length replies)
    → (number : ℕ) (sent : List ℕ) → length (drill_text number) ≤ 60000 → AnswersDrill number sent
    → length (lines_in sent) ≤ 65536
few_lines law number sent most answers =
    let base = drill_base number in
    let counted = counted_lines (drill_text number) in
    let each = law (texts answers.replies) (are_texts base [] counted answers.replies answers.due) in
    let same : length (lines_in sent) ≡ length (texts answers.replies) =
    ap (λ (bytes : List ℕ). length (lines_in bytes)) (answers.sent_is ∙ joined answers.replies) ∙ each in
    omega (arith, same, as_many base [] counted answers.replies answers.due, no_more_lines (drill_text number), most)
