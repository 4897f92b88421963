use Rattle.denial_proof.proofs.UnsafeSums.{narrow_sums}
use Rattle.denial_proof.proofs.denied.legal_sums.Goals as goal

pub returns : goal.returns
returns c = λ setting history column fit protected legal sums. narrow_sums setting history fit c.narrow_fronts.ensures.narrow protected legal column sums
