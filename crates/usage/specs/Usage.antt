-- What the arguments ask to be shown of the program, and the texts.
use Rattle.std.specs.Prelude.{ℕ, List, [], ◌∷◌, ◌++◌, Option, Some, None, option_map, codes, if◌then◌else◌}
use Rattle.std.specs.Str.{bytes_eq}
use Rattle.usage.specs.declared.topics.Topic.{Topic}
use Rattle.usage.specs.declared.topics.Topic.TheVariants.{Init, Serve, Audit, Explain, Simulate, Grow, Compact, Restore, Drill}
use Rattle.usage.specs.declared.shown.Shown.{Shown}
use Rattle.usage.specs.declared.shown.Shown.TheVariants.{Commands, Command, Version}

-- the command of this name
abbrev pub topic_of : List ℕ → Option Topic
topic_of word =
    if bytes_eq word (codes "init") then Some Init else
    if bytes_eq word (codes "serve") then Some Serve else
    if bytes_eq word (codes "audit") then Some Audit else
    if bytes_eq word (codes "explain") then Some Explain else
    if bytes_eq word (codes "simulate") then Some Simulate else
    if bytes_eq word (codes "grow") then Some Grow else
    if bytes_eq word (codes "compact") then Some Compact else
    if bytes_eq word (codes "restore") then Some Restore else
    if bytes_eq word (codes "drill") then Some Drill else None

-- the command and its options, as they are written
abbrev pub form_of : Topic → List ℕ
form_of Init = codes "init"
form_of Serve = codes "serve [--batch N] [--twin]"
form_of Audit = codes "audit"
form_of Explain = codes "explain"
form_of Simulate = codes "simulate"
form_of Grow = codes "grow"
form_of Compact = codes "compact"
form_of Restore = codes "restore"
form_of Drill = codes "drill N"

-- what the command does, in a few words
abbrev pub summary_of : Topic → List ℕ
summary_of Init = codes "                         make the journal of a table, once"
summary_of Serve = codes "   answer or deny the questions of standard input"
summary_of Audit = codes "                        show each secret number to be open"
summary_of Explain = codes "                      tell why questions are denied"
summary_of Simulate = codes "                     compute the verdicts on a transcript again"
summary_of Grow = codes "                         take over rows that came at the table's end"
summary_of Compact = codes "                      write a shorter journal to answers.spare"
summary_of Restore = codes "                      write the lost one of two journals anew"
summary_of Drill = codes "                      take a drawn table and 600 questions through the program"

-- what the command takes and gives
abbrev pub what_of : Topic → List ℕ
what_of Init = codes "Makes answers.journal for the table of schema.json and table.csv. It is done once."
what_of Serve = codes "Takes questions on standard input, a line of JSON each, and sends a reply for each line. Each answer is in the journal before its reply is sent."
what_of Audit = codes "Sends a report of the journal: for each secret number, numbers of a whole column that give the same answers and have another one there."
what_of Explain = codes "Takes questions on standard input, and sends for each what would be said of it. Nothing is asked, and nothing is kept."
what_of Simulate = codes "Takes questions and the replies that were shown, in turn, a line each, and sends the verdict on each question, computed without a secret."
what_of Grow = codes "Writes into the journal how many rows the table has now, so that `auditor serve` goes on over all of them."
what_of Compact = codes "Writes those records of the journal that the others don't imply to answers.spare. Every question is decided after them as after all."
what_of Restore = codes "Writes the one of answers.journal and answers.spare that is lost, or isn't there yet, anew from the other."
what_of Drill = codes "Draws a table and 600 questions from the number N, 0 to 4294967295, and sends one line that counts the answers and the denials."

-- what else is to be known of it
abbrev pub note_of : Topic → List ℕ
note_of Init = codes "Then start `auditor serve`."
note_of Serve = codes "With --batch N up to N lines, 1 to 64, are answered as a group. With --twin each answer is in answers.spare too, before its reply is sent."
note_of Audit = codes "Anyone can check the report by its columns and the answers alone. It is the owner's: it shows answers that somebody else was given."
note_of Explain = codes "A question that is denied as unsafe has a certificate: how answers are to be counted so that one person's value is left."
note_of Simulate = codes "table.csv holds the public columns alone. A journal beside it comes first, if there is one. It ends at the first reply that wasn't due."
note_of Grow = codes "Each answer is tested against the table first. The earlier rows keep their places."
note_of Compact = codes "answers.journal isn't written. demo/replace.sh puts the shorter one in its place."
note_of Restore = codes "The other one is checked as by `auditor serve --twin`, and stays."
note_of Drill = codes "No file is read or written. The line is the same on every machine."

-- the line of a command in the list of all
abbrev pub row_of : Topic → List ℕ
row_of topic = codes "  " ++ form_of topic ++ summary_of topic ++ codes "\n"

-- what is said of one command
abbrev pub page_of : Topic → List ℕ
page_of topic = codes "usage: auditor " ++ form_of topic ++ codes "\n" ++ what_of topic ++ codes "\n" ++ note_of topic

-- what one argument asks for
abbrev pub alone : List ℕ → Option Shown
alone word =
    if bytes_eq word (codes "--help") then Some Commands else
    if bytes_eq word (codes "-h") then Some Commands else
    if bytes_eq word (codes "help") then Some Commands else
    if bytes_eq word (codes "--version") then Some Version else None

-- what the arguments ask to be shown
abbrev pub shown_of : List (List ℕ) → Option Shown
shown_of [] = None
shown_of (word ∷ []) = alone word
shown_of (word ∷ name ∷ []) = if bytes_eq word (codes "help") then option_map (λ topic. Command topic) (topic_of name) else None
shown_of (word ∷ name ∷ more ∷ words) = None

-- what is shown
abbrev pub text_of : Shown → List ℕ
text_of Commands =
    codes "usage: auditor COMMAND\n\n" ++ row_of Init ++ row_of Serve ++ row_of Audit ++ row_of Explain ++ row_of Simulate ++ row_of Grow ++ row_of Compact ++ row_of Restore ++ row_of Drill
    ++ codes "\nIt works in the folder that it is started in, on schema.json, table.csv and answers.journal.\n"
    ++ codes "`auditor help COMMAND` says more of a command. To ask in words, use front/ask.py."
text_of (Command topic) = page_of topic
text_of Version = codes "auditor 0.13.2"
