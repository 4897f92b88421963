use Rattle.std.proofs.Common.{ℤ, List}
use Rattle.std.proofs.lemmas.Result.{IfOk-weaker}
use Rattle.audit_types.specs.Form.{set_row}
use Rattle.sum_basis.specs.Growth.{IsLeft, IsWeighed}
use Rattle.sum_basis.specs.declared.form.Weighed.{Weighed}
use Rattle.sum_basis.proofs.form.Form.weigh_short.Goals as goal

pub look-requires-clause-left : goal.look-requires-clause-left
look-requires-clause-left c = (
  set_row c.args.self.now.n c.args.set.now.list,
  c.in_ok-left.ensures.left (set_row c.args.self.now.n c.args.set.now.list) c.in_ok-entries.ensures.left,
)

pub returns : goal.returns
returns c =
    IfOk-weaker c.look.result (λ (weighed : Weighed). (v : List ℤ) → IsLeft c.args.self.now v c.in_ok-left.left → IsWeighed c.args.self.now v weighed)
    (IsWeighed c.args.self.now (set_row c.args.self.now.n c.args.set.now.list))
    (λ weighed is. is (set_row c.args.self.now.n c.args.set.now.list)
    (c.in_ok-left.ensures.left (set_row c.args.self.now.n c.args.set.now.list) c.in_ok-entries.ensures.left)) c.look.ensures
