use Rattle.std.proofs.Common.{Ok, Err, subst, sym, ap}
use Rattle.line_wire.specs.Kept.{written_of}
use Rattle.line_wire.specs.Questions.{Written}
use Rattle.line_wire.specs.Answers.{Answers}
use Rattle.line_wire.specs.declared.request.Request.TheVariants.{Count}
use Rattle.line_wire.proofs.AnsweredLines.{counted_is, counted_fault, taken_answers, taken_fault, taken_can, unfound, unfound_within}
use Rattle.line_wire.proofs.reading.request_of.Goals as goal

pub returns-in-Ok : goal.returns-in-Ok
returns-in-Ok c =
    let columns = c.args.schema.now.columns in
    let pred = c.in-Ok.pred in
    record {
      exact = subst (λ (w : Written). Answers columns w (Ok (Count pred))) (sym (ap written_of c.in-Count.is))
          (counted_is columns c.in-Count.text.now pred c.in-Ok.ensures.exact);
      fitting = c.in-Ok.ensures.fitting;
      within = tt;
    }

pub returns-in-Err : goal.returns-in-Err
returns-in-Err c =
    let columns = c.args.schema.now.columns in
    let fault = c.in-Err.fault in
    record {
      exact = subst (λ (w : Written). Answers columns w (Err fault)) (sym (ap written_of c.in-Count.is))
          (counted_fault columns c.in-Count.text.now fault c.in-Err.ensures.exact);
      fitting = tt;
      within = c.in-Err.ensures.within;
    }

pub returns-in-Ok-condition : goal.returns-in-Ok-condition
returns-in-Ok-condition c =
    let columns = c.args.schema.now.columns in
    let asked = c.in-Of in
    let column = c.in-Ok-column_of.column in
    let pred = c.in-Ok-condition.pred in
    record {
      exact = subst (λ (w : Written). Answers columns w (Ok c.taking.result)) (sym (ap written_of asked.is))
          (taken_answers columns asked.take asked.column.now asked.text.now column pred c.taking.result
          c.in-Ok-column_of.ensures.finds c.in-Ok-condition.ensures.exact c.taking.ensures);
      fitting = taken_can columns asked.take column pred c.taking.result c.taking.ensures c.in-Ok-column_of.ensures.has c.in-Ok-condition.ensures.fitting;
      within = tt;
    }

pub returns-in-Err-condition : goal.returns-in-Err-condition
returns-in-Err-condition c =
    let columns = c.args.schema.now.columns in
    let asked = c.in-Of in
    let fault = c.in-Err-condition.fault in
    record {
      exact = subst (λ (w : Written). Answers columns w (Err fault)) (sym (ap written_of asked.is))
          (taken_fault columns asked.take asked.column.now asked.text.now c.in-Ok-column_of.column fault
          c.in-Ok-column_of.ensures.finds c.in-Err-condition.ensures.exact);
      fitting = tt;
      within = c.in-Err-condition.ensures.within;
    }

pub returns-in-Err-column_of : goal.returns-in-Err-column_of
returns-in-Err-column_of c =
    let columns = c.args.schema.now.columns in
    let asked = c.in-Of in
    let fault = c.in-Err-column_of.column_fault in
    let finds = c.in-Err-column_of.ensures.finds in
    record {
      exact = subst (λ (w : Written). Answers columns w (Err fault)) (sym (ap written_of asked.is))
          (unfound columns asked.take asked.column.now asked.text.now fault finds);
      fitting = tt;
      within = unfound_within columns asked.take asked.column.now fault 8192 finds;
    }
