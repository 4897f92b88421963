use Rattle.std.proofs.Common.{◌≡◌, ◌+◌, ◌≤◌, ◌++◌, List, ℕ, length, ap, sym, ◌∙◌, subst}
use Rattle.std.specs.Prelude.{string_bytes}
use Rattle.predicate_lang.specs.Trees.{tree_of}
use Rattle.predicate_lang.specs.Places.{Means}
use Rattle.predicate_lang.specs.Printing.{printed}
use Rattle.predicate_lang.proofs.RoundTrip.{printed_means, printed_short}
use Rattle.predicate_lang.proofs.printing.print_where.Goals as goal

pub returns-in-Ok-clause-again : goal.returns-in-Ok-clause-again
returns-in-Ok-clause-again c =
    let whole : string_bytes c.write_pred.new.out ≡ printed c.args.schema.now.columns (tree_of c.args.pred.now) = c.in-Ok.ensures
    ∙ ap (λ xs. xs ++ printed c.args.schema.now.columns (tree_of c.args.pred.now)) c.new-out.ensures.bytes in
    λ text means. subst (λ (xs : List ℕ). Means c.args.schema.now.columns xs (tree_of c.args.pred.now)) (sym whole)
    (printed_means c.args.schema.now.columns text (tree_of c.args.pred.now) means)

pub returns-in-Ok-clause-short : goal.returns-in-Ok-clause-short
returns-in-Ok-clause-short c =
    let whole : string_bytes c.write_pred.new.out ≡ printed c.args.schema.now.columns (tree_of c.args.pred.now) = c.in-Ok.ensures
    ∙ ap (λ xs. xs ++ printed c.args.schema.now.columns (tree_of c.args.pred.now)) c.new-out.ensures.bytes in
    λ text means. subst (λ (xs : List ℕ). length xs ≤ length text + 511) (sym whole)
    (printed_short c.args.schema.now.columns text (tree_of c.args.pred.now) means)
