use Rattle.implied_records.proofs.KeptOfLegal.{same_forms, same_decisions, kept_is_legal}
use Rattle.implied_records.proofs.laws.kept_of_legal.Goals as goal

pub returns-clause-forms : goal.returns-clause-forms
returns-clause-forms c =
    same_forms
    (record {
      forms = record {
        unique = c.forms_are_unique.ensures;
        exist = c.every_row_space_has_a_form.ensures;
        span_keeps = c.span_keeps_form.ensures;
        one_more = c.one_more_set.ensures;
      };
      spanned = c.implied_sums.ensures;
      possible = c.true_answers.ensures.legal;
      grows = c.released_records.ensures;
    })

pub returns-clause-decisions : goal.returns-clause-decisions
returns-clause-decisions c =
    same_decisions
    (record {
      forms = record {
        unique = c.forms_are_unique.ensures;
        exist = c.every_row_space_has_a_form.ensures;
        span_keeps = c.span_keeps_form.ensures;
        one_more = c.one_more_set.ensures;
      };
      spanned = c.implied_sums.ensures;
      possible = c.true_answers.ensures.legal;
      grows = c.released_records.ensures;
    })

pub returns-clause-legal : goal.returns-clause-legal
returns-clause-legal c =
    kept_is_legal
    (record {
      forms = record {
        unique = c.forms_are_unique.ensures;
        exist = c.every_row_space_has_a_form.ensures;
        span_keeps = c.span_keeps_form.ensures;
        one_more = c.one_more_set.ensures;
      };
      spanned = c.implied_sums.ensures;
      possible = c.true_answers.ensures.legal;
      grows = c.released_records.ensures;
    })
