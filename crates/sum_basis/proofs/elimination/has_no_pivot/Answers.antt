use Rattle.std.proofs.Common.{length, sym, ◌∙◌}
use Rattle.std.proofs.lemmas.Bool.{eqb-true, eq-eqb}
use Rattle.sum_basis.proofs.elimination.has_no_pivot.Goals as goal

pub returns : goal.returns
returns c =
    let size = length c.args.row.now in
    (λ ends. sym c.pivot_of.ensures ∙ eqb-true c.pivot_of.result size ends, λ none. eq-eqb c.pivot_of.result size (c.pivot_of.ensures ∙ none))
