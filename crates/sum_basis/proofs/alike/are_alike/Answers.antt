use Rattle.std.proofs.Common.{sym, ◌∙◌}
use Rattle.sum_basis.proofs.LeftLists.{alike_by}
use Rattle.sum_basis.proofs.alike.are_alike.Goals as goal

pub returns : goal.returns
returns c = λ yes.
    alike_by c.args.new.now c.args.entries.now c.args.others.now c.in-Some.one.items c.in-Some-2.other.items (rw c.in-Some.is at c.in_ok-one.ensures)
    (rw c.in-Some-2.is at c.in_ok-other.ensures) (sym c.deref.ensures.value ∙ c.same_wide_list.ensures.0 yes ∙ c.deref-2.ensures.value)
