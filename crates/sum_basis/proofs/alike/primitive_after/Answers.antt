use Rattle.sum_basis.specs.Reach.{without_new}
use Rattle.sum_basis.specs.Sparse.{entry_at}
use Rattle.sum_basis.proofs.LeftLists.{over_content_too}
use Rattle.sum_basis.proofs.alike.primitive_after.Goals as goal

pub returns : goal.returns
returns c =
    over_content_too (without_new c.args.new.now (entry_at c.args.entries.now)) c.in_ok-list.list.items c.make_primitive.new.entries.items
    c.in_ok-list.ensures.left c.make_primitive.ensures.made
