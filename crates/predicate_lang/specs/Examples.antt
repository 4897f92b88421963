-- Examples of the words.
use Rattle.std.specs.Prelude.{negsuc, List, [], ◌∷◌, codes}
use Rattle.schema_json.specs.Columns.{Column}
use Rattle.schema_json.specs.declared.roles.Role.TheVariants as role
use Rattle.predicate_lang.specs.Trees.{Tree, all_rows, negation, both, either, compared, among}
use Rattle.predicate_lang.specs.Tokens.{Placed, not_word, name, value, operator, open_bracket, close_bracket}
use Rattle.predicate_lang.specs.declared.trees.Op.TheVariants as op
use Rattle.predicate_lang.specs.declared.trees.Literal.TheVariants as literal

abbrev pub expected_tokens : List Placed
expected_tokens = (record { token = not_word; at = 0 }) ∷ (record { token = open_bracket; at = 4 }) ∷ (record { token = name (codes "age"); at = 5 }) ∷ (record { token = operator op.Ge; at = 8 })
    ∷ (record { token = value (literal.Number (negsuc 2)); at = 10 }) ∷ (record { token = close_bracket; at = 12 }) ∷ []

abbrev pub example_columns : List Column
example_columns = (record { name = codes "dept"; role = role.Text }) ∷ (record { name = codes "age"; role = role.Number }) ∷ []

abbrev pub example_tree : Tree
example_tree = both (negation (either (compared 0 op.Ne (literal.Text (codes "x"))) (among 0 (literal.Text (codes "it's") ∷ literal.Text (codes "QA") ∷ [])))) all_rows
