use Rattle.denial_proof.proofs.FirstTargets.{ok_same}
use Rattle.denial_proof.proofs.targets.has_teller.Goals as goal

pub returns : goal.returns
returns c =
    ok_same
    (λ spans. (
      spans.own,
      record { below = spans.below; single = spans.single; row = spans.row; inside = spans.inside; other = spans.other; spanned = spans.spanned },
    ))
    (λ found. record {
      own = found.0;
      below = found.1.below;
      single = found.1.single;
      row = found.1.row;
      inside = found.1.inside;
      other = found.1.other;
      spanned = found.1.spanned;
    })
    c.spans_beside.result c.spans_beside.ensures
