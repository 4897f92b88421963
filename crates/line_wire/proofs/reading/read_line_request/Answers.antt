use Rattle.std.proofs.Common.{◌≡◌, Some, sym}
use Rattle.line_wire.specs.Kept.{written_of}
use Rattle.line_wire.specs.Questions.{question_of}
use Rattle.line_wire.proofs.Texts.Asked.{condition_within}
use Rattle.line_wire.proofs.AnsweredLines.{written_by, found_of, only_of, fault_of, nothing_asked, unread_only, unread_fault, unread_within}
use Rattle.line_wire.proofs.reading.read_line_request.Goals as goal

pub returns-in-Some : goal.returns-in-Some
returns-in-Some c =
    let columns = c.args.schema.now.columns in
    let asked = written_of c.in-Some.question in
    let writes = c.in-Some.ensures.writes in
    let answer = c.request_of.ensures in
    record {
      found = found_of columns _ asked c.request_of.result writes answer.exact;
      only = only_of columns _ asked c.request_of.result writes answer.exact;
      fault = fault_of columns _ asked c.request_of.result writes answer.exact;
      fitting = answer.fitting;
      within = answer.within;
    }

pub request_of-requires-in-Some-question_in : goal.request_of-requires-in-Some-question_in
request_of-requires-in-Some-question_in c =
    condition_within _ (written_of c.in-Some-question_in.question) _ 8192 (sym c.in-Some-question_in.ensures) c.in-Ok.ensures.texts c.requires

pub returns-in-Some-question_in : goal.returns-in-Some-question_in
returns-in-Some-question_in c =
    let columns = c.args.schema.now.columns in
    let asked = written_of c.in-Some-question_in.question in
    let writes : question_of c.args.line.now ≡ Some asked = written_by c.args.line.now _ _ c.in-Ok.ensures.found (sym c.in-Some-question_in.ensures) in
    let answer = c.request_of-in-Some-question_in.ensures in
    record {
      found = found_of columns _ asked c.request_of-in-Some-question_in.result writes answer.exact;
      only = only_of columns _ asked c.request_of-in-Some-question_in.result writes answer.exact;
      fault = fault_of columns _ asked c.request_of-in-Some-question_in.result writes answer.exact;
      fitting = answer.fitting;
      within = answer.within;
    }

pub returns-in-Ok : goal.returns-in-Ok
returns-in-Ok c =
    let writes_none = written_by c.args.line.now _ _ c.in-Ok.ensures.found (sym c.in-None.ensures) in
    record { found = tt; only = nothing_asked c.args.schema.now.columns _ writes_none; fault = writes_none; fitting = tt; within = tt }

pub returns : goal.returns
returns c =
    let fault = c.in-Err.fault in
    let none = c.in-Err.ensures.fault in
    record {
      found = tt;
      only = unread_only c.args.schema.now.columns c.args.line.now fault none;
      fault = unread_fault c.args.schema.now.columns c.args.line.now fault none;
      fitting = tt;
      within = unread_within c.args.line.now fault 8192 none;
    }
