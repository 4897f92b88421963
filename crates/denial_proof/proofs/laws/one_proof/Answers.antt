use Rattle.denial_proof.proofs.OneProof.{same_proofs}
use Rattle.denial_proof.proofs.laws.one_proof.Goals as goal

pub returns : goal.returns
returns c = λ setting history asked a b fit legal question denied. same_proofs c.denied_sums.ensures c.pinned_rows.ensures.spanned_or_moved setting history
    asked fit legal question denied a b
