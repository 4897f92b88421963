use Rattle.std.proofs.Common.{ℤ, List, ap, arith}
use Rattle.std.specs.Prelude.{IfSome, IfNone}
use Rattle.std.proofs.lemmas.Result.{IfOk-weaker}
use Rattle.sum_basis.specs.Basis.{Echelon}
use Rattle.sum_basis.specs.Growth.{Foresees, IsLeft, IsWeighed, LeavesNoList}
use Rattle.sum_basis.specs.declared.form.Left.TheVariants.{Entries}
use Rattle.sum_basis.specs.declared.form.Weighed.{Weighed}
use Rattle.sum_basis.proofs.form.Form.weigh.Goals as goal

pub look-requires-clause-left : goal.look-requires-clause-left
look-requires-clause-left c = (c.args.row.now, c.in_ok-left.ensures.left)

pub returns-clause-foresees : goal.returns-clause-foresees
returns-clause-foresees c =
    IfOk-weaker c.look.result (λ (weighed : Weighed). (v : List ℤ) → IsLeft c.args.self.now v c.in_ok-left.left → IsWeighed c.args.self.now v weighed)
    (λ (weighed : Weighed). Foresees c.args.self.now c.args.row.now weighed.prospect)
    (λ weighed is. (is c.args.row.now c.in_ok-left.ensures.left).foresees) c.look.ensures

pub returns-clause-left : goal.returns-clause-left
returns-clause-left c =
    IfOk-weaker c.look.result (λ (weighed : Weighed). (v : List ℤ) → IsLeft c.args.self.now v c.in_ok-left.left → IsWeighed c.args.self.now v weighed)
    (λ (weighed : Weighed). IfSome weighed.list (λ list. IsLeft c.args.self.now c.args.row.now (Entries list)))
    (λ weighed is. (is c.args.row.now c.in_ok-left.ensures.left).left) c.look.ensures

pub returns-clause-nothing : goal.returns-clause-nothing
returns-clause-nothing c =
    IfOk-weaker c.look.result (λ (weighed : Weighed). (v : List ℤ) → IsLeft c.args.self.now v c.in_ok-left.left → IsWeighed c.args.self.now v weighed)
    (λ (weighed : Weighed). IfNone weighed.list (LeavesNoList c.args.self.now c.args.row.now weighed.prospect))
    (λ weighed is. (is c.args.row.now c.in_ok-left.ensures.left).nothing) c.look.ensures

-- the width is the one that is seen
pub settle-requires-clause-limit : goal.settle-requires-clause-limit
settle-requires-clause-limit c = let same = ap (λ (e : Echelon). e.width) c.self.view_is in let fits = c.self.invariant.width_fits.1 in (omega arith, fits)
