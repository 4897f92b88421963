use Rattle.std.proofs.Common.{◌≡◌, ◌≤◌, ℕ, List, true, length, Result, Ok, Err}
use Rattle.std.specs.Prelude.{IfOk, IfErr}
use Rattle.schema_json.specs.Columns.{Column}
use Rattle.predicate_lang.specs.Trees.{Tree, tree_of, fits, height, AreTexts}
use Rattle.predicate_lang.specs.Places.{Means, ReadsTree, IsWithin}
use Rattle.predicate_lang.specs.Steps.{Ends}
use Rattle.predicate_lang.specs.declared.trees.Pred.{Pred}
use Rattle.predicate_lang.specs.declared.trees.WhereFault.{WhereFault}
use Rattle.predicate_lang.proofs.Refusals.{read_only, refused_only, refused_in}
use Rattle.predicate_lang.proofs.RoundTrip.{means_fits, means_shallow}
use Rattle.predicate_lang.proofs.TextsRead.{means_texts}
use Rattle.predicate_lang.proofs.reading.read_where.Goals as goal

-- what holds of each predicate that the text means holds of what is read
read_as : (columns : List Column) (text : List ℕ) (r : Result Pred WhereFault) (P : Pred → Type 0) → Ends columns text r →
    ((p : Pred) → Means columns text (tree_of p) → P p) → IfOk r P
read_as columns text (Ok p) P ends holds = holds p ends
read_as columns text (Err fault) P ends holds = tt

-- what holds of each refusal holds of what is refused
refused_as : (columns : List Column) (text : List ℕ) (r : Result Pred WhereFault) → Ends columns text r → IfErr r (IsWithin (length text))
refused_as columns text (Ok p) ends = tt
refused_as columns text (Err fault) ends = refused_in columns text fault ends

ends_only : (columns : List Column) (text : List ℕ) (r : Result Pred WhereFault) → Ends columns text r → (t : Tree) → Means columns text t → ReadsTree t r
ends_only columns text (Ok p) ends = read_only columns text p ends
ends_only columns text (Err fault) ends = refused_only columns text fault ends

pub returns-clause-only : goal.returns-clause-only
returns-clause-only c = ends_only c.args.schema.now.columns c.args.text.now c.take_tokens.result c.take_tokens.ensures

pub returns-clause-within : goal.returns-clause-within
returns-clause-within c = refused_as c.args.schema.now.columns c.args.text.now c.take_tokens.result c.take_tokens.ensures

pub returns-clause-fitting : goal.returns-clause-fitting
returns-clause-fitting c =
    read_as c.args.schema.now.columns c.args.text.now c.take_tokens.result (λ p. fits c.args.schema.now.columns (tree_of p) ≡ true) c.take_tokens.ensures
    (λ p. means_fits c.args.schema.now.columns c.args.text.now (tree_of p))

pub returns-clause-shallow : goal.returns-clause-shallow
returns-clause-shallow c =
    read_as c.args.schema.now.columns c.args.text.now c.take_tokens.result (λ p. height (tree_of p) ≤ 512) c.take_tokens.ensures
    (λ p. means_shallow c.args.schema.now.columns c.args.text.now (tree_of p))

pub returns-clause-texts : goal.returns-clause-texts
returns-clause-texts c =
    read_as c.args.schema.now.columns c.args.text.now c.take_tokens.result (λ p. AreTexts (tree_of p)) c.take_tokens.ensures
    (λ p. means_texts c.args.schema.now.columns c.args.text.now (tree_of p) c.utf8.text)
