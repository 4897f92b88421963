-- What a private call refuses is refused at its place.
use Rattle.std.proofs.Common.{◌≡◌, ℕ, ◌<◌, Bool, false, List, length, Option, Some, None, Ok, Err, sym, subst}
use Rattle.schema_json.specs.Columns.{Column}
use Rattle.predicate_lang.specs.Trees.{Tree, tree_of}
use Rattle.predicate_lang.specs.Tokens.{lexed_from, no_tokens}
use Rattle.predicate_lang.specs.Places.{Means, IsPlace, IsWhereFault, IsWithin, ReadsTree}
use Rattle.predicate_lang.specs.Lexing.{Lexes}
use Rattle.predicate_lang.specs.Machine.{Build}
use Rattle.predicate_lang.specs.Building.{Goes, Finishes}
use Rattle.predicate_lang.specs.declared.trees.Pred.{Pred}
use Rattle.predicate_lang.specs.declared.trees.WhereFault.{WhereFault}
use Rattle.predicate_lang.specs.declared.trees.WhereFault.TheVariants.{Bad, NoMemory}
use Rattle.predicate_lang.proofs.LeastPlace.{refused_means_nothing, refused_within}
use Rattle.predicate_lang.proofs.PredicatesRunThrough.{one_tree}

pub refused_put : {X : Type 0} (columns : List Column) (text : List ℕ) (test : Bool) (b : Build) (at : ℕ) (fault : WhereFault) (left : X → Build) →
    Goes {X = X} test b at (Err fault) left → (test ≡ false → IsPlace columns text at) → IsWhereFault columns text fault
refused_put columns text test b at (Bad n) left h place = subst (IsPlace columns text) (sym h.1) (place h.0)
refused_put columns text test b at NoMemory left h place = tt

pub refused_finish : (columns : List Column) (text : List ℕ) (t : Option Tree) (end : ℕ) (fault : WhereFault) → Finishes t end (Err fault) →
    (t ≡ None → IsPlace columns text end) → IsWhereFault columns text fault
refused_finish columns text t end (Bad n) h place = subst (IsPlace columns text) (sym h.1) (place h.0)
refused_finish columns text t end NoMemory h place = tt

pub refused_token : (columns : List Column) (text : List ℕ) (from : ℕ) (fault : WhereFault) → Lexes columns text from (Err fault) →
    ((n : ℕ) → lexed_from text from ≡ no_tokens (Some n) → n < length text → IsPlace columns text n) → IsWhereFault columns text fault
refused_token columns text from (Bad n) h place = place n h.0 h.2
refused_token columns text from NoMemory h place = tt

-- what a text means is no other tree
pub read_only : (columns : List Column) (text : List ℕ) (p : Pred) → Means columns text (tree_of p) → (t : Tree) → Means columns text t → ReadsTree t (Ok p)
read_only columns text p means t other = one_tree columns text (tree_of p) t means other

-- and is refused only if memory runs out
pub refused_only : (columns : List Column) (text : List ℕ) (fault : WhereFault) → IsWhereFault columns text fault → (t : Tree) → Means columns text t →
    ReadsTree t (Err fault)
refused_only columns text (Bad at) place t means = refused_means_nothing columns text t at means place.refuses
refused_only columns text NoMemory place t means = tt

-- the offset of a refusal is one of the text, or its end
pub refused_in : (columns : List Column) (text : List ℕ) (fault : WhereFault) → IsWhereFault columns text fault → IsWithin (length text) fault
refused_in columns text (Bad at) place = refused_within columns text at place.refuses
refused_in columns text NoMemory place = tt
