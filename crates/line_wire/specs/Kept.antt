-- A question as the reader keeps it, and as contracts see it.
use Rattle.line_wire.specs.Questions.{Written, counted, taken}
use Rattle.line_wire.specs.declared.question.Question.{Question}
use Rattle.line_wire.specs.declared.question.Question.TheVariants.{Count, Of}

abbrev pub written_of : Question → Written
written_of (Count text) = counted text.now
written_of (Of take column text) = taken take column.now text.now
