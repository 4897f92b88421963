use Rattle.std.proofs.Common.{map, pos, sym, ap, ◌++◌, ◌∙◌}
use Rattle.sum_basis.specs.Sparse.{scaled}
use Rattle.sum_basis.proofs.ListContents.{scaled_once}
use Rattle.sum_basis.proofs.merging.wide_list.Goals as goal

pub returns : goal.returns
returns c =
    c.append.ensures.items ∙ ap (λ l. l ++ map (scaled (pos 1)) c.args.entries.now) c.in_ok-list.ensures.items ∙ sym (scaled_once c.args.entries.now)
