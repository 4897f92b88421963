use Rattle.std.proofs.Common.{subst}
use Rattle.std.proofs.Math.Path.{fun_ext}
use Rattle.audit_types.specs.Rows.{IsLeast}
use Rattle.max_bounds.specs.Maxima.{answers_of}
use Rattle.max_bounds.specs.Reaching.{IsAlone}
use Rattle.max_bounds.proofs.lone_rows.least_lone.Goals as goal

pub returns : goal.returns
returns c =
    subst (λ bound. IsLeast (IsAlone bound (answers_of c.args.pairs.now.items)) c.least_under.result) (fun_ext c.upper_bounds.ensures.exact)
    c.least_under.ensures
