use Rattle.denial_proof.proofs.UnsafeSums.{unsafe_sum}
use Rattle.denial_proof.proofs.denied.denied_sums.Goals as goal

pub returns : goal.returns
returns c = λ setting history asked fit protected legal question sums denied.
    unsafe_sum setting history fit protected asked question denied (record {
      agreement = c.true_answers.ensures.agreement;
      pins_nothing = c.free_numbers.ensures.pinned;
      dangerous = c.dangerous_sums.ensures.dangerous;
      pinned = c.pinned_rows.ensures.by_unit_row;
    }) legal sums
