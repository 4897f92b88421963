use Rattle.denial_proof.proofs.UnsafeSums.{unsafe_max}
use Rattle.denial_proof.proofs.denied.denied_maxima.Goals as goal

pub returns : goal.returns
returns c = λ setting history asked fit protected legal question maxima denied. unsafe_max setting history fit protected asked question denied
    c.dangerous_by_candidates.ensures c.free_numbers.ensures.few legal maxima
