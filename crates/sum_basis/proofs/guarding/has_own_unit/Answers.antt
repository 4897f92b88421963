use Rattle.std.proofs.Common.{refl}
use Rattle.std.proofs.lemmas.Bool.{false≢true}
use Rattle.sum_basis.proofs.SpansWithOneMore.{none_own, some_own}
use Rattle.sum_basis.proofs.guarding.has_own_unit.Goals as goal

pub returns-in-Fixing : goal.returns-in-Fixing
returns-in-Fixing c = λ asked is. (
  (λ yes. some_own c.args.form.now asked c.args.weighed.now is c.args.shared.now.list (c.is_empty.ensures.0 c.if-is_empty.true) c.in-Fixing.is),
  (λ found. refl),
)

pub returns-in-Open : goal.returns-in-Open
returns-in-Open c = λ asked is. (
  (λ yes. absurd (false≢true yes)),
  (λ found. absurd (none_own c.args.form.now asked c.args.weighed.now is c.args.shared.now.list c.in-Open.is found)),
)
