use Rattle.line_wire.proofs.NoOtherForm.{only_reply, last_reply}
use Rattle.line_wire.proofs.reply_reading.read_reply.Goals as goal

pub returns-in-Some-clause-only : goal.returns-in-Some-clause-only
returns-in-Some-clause-only c = only_reply c.args.line.now c.in-Some.reply c.in-Some.ensures.found

pub returns-in-Some-read_max-clause-only : goal.returns-in-Some-read_max-clause-only
returns-in-Some-read_max-clause-only c = only_reply c.args.line.now c.in-Some-read_max.reply c.in-Some-read_max.ensures.found

pub returns-in-Some-read_min-clause-only : goal.returns-in-Some-read_min-clause-only
returns-in-Some-read_min-clause-only c = only_reply c.args.line.now c.in-Some-read_min.reply c.in-Some-read_min.ensures.found

pub returns-in-Some-read_word-clause-only : goal.returns-in-Some-read_word-clause-only
returns-in-Some-read_word-clause-only c = only_reply c.args.line.now c.in-Some-read_word.reply c.in-Some-read_word.ensures.found

pub returns-in-Some-read_count-clause-only : goal.returns-in-Some-read_count-clause-only
returns-in-Some-read_count-clause-only c = only_reply c.args.line.now c.in-Some-read_count.reply c.in-Some-read_count.ensures.found

pub returns-in-Some-read_average-clause-only : goal.returns-in-Some-read_average-clause-only
returns-in-Some-read_average-clause-only c = only_reply c.args.line.now c.in-Some-read_average.reply c.in-Some-read_average.ensures.found

pub returns-clause-only : goal.returns-clause-only
returns-clause-only c = last_reply c.args.line.now c.read_condition.result
    (record {
      sum = c.in_default.ensures.none;
      max = c.in_default-read_max.ensures.none;
      min = c.in_default-read_min.ensures.none;
      word = c.in_default-read_word.ensures.none;
      count = c.in_default-read_count.ensures.none;
      average = c.in_default-read_average.ensures.none;
    })
    c.read_condition.ensures.found c.read_condition.ensures.none
