use Rattle.audit_core.proofs.JudgedAgain.{legal_were_released}
use Rattle.audit_core.proofs.laws.released_histories.Goals as goal

pub returns : goal.returns
returns c = legal_were_released (record {
  agreement = c.true_answers.ensures.agreement;
  spanned_or_moved = c.pinned_rows.ensures.spanned_or_moved;
  pinned = c.pinned_rows.ensures.by_unit_row;
  dangerous = c.dangerous_sums.ensures.dangerous;
  maxima = record {
    possible = c.possible_by_extreme_rows.ensures;
    few_or_open = c.open_to_askers.ensures.guarded;
    danger = c.dangerous_by_few_people.ensures;
  };
})
