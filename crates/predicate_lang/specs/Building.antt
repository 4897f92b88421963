-- How the reader keeps the machine's state. Contracts of private calls speak of it.
use Rattle.std.specs.Prelude.{ℕ, Bool, true, false, List, map, reverse, Option, Some, None, ◌≡◌, Result, Ok, Err}
use Rattle.std.specs.Global.{Box}
use Rattle.schema_json.specs.Columns.{Column}
use Rattle.predicate_lang.specs.Trees.{Tree, tree_of}
use Rattle.predicate_lang.specs.Machine.{Frame, a_not, a_bracket, Stand, at_operand, at_name, at_operator, at_in, at_comma, at_literal, behind, Build, build, put, may_put}
use Rattle.predicate_lang.specs.declared.trees.Literal.{Literal}
use Rattle.predicate_lang.specs.declared.trees.Pred.{Pred}
use Rattle.predicate_lang.specs.declared.trees.WhereFault.{WhereFault}
use Rattle.predicate_lang.specs.declared.trees.WhereFault.TheVariants.{Bad, NoMemory}
use Rattle.predicate_lang.specs.declared.tokens.Token.{Token}
use Rattle.predicate_lang.specs.declared.building.Opened.{Opened}
use Rattle.predicate_lang.specs.declared.building.Opened.TheVariants as opened
use Rattle.predicate_lang.specs.declared.building.Spot.{Spot}
use Rattle.predicate_lang.specs.declared.building.Spot.TheVariants as spot
use Rattle.predicate_lang.specs.declared.building.State.{State}

-- a part that stands before the operand, if there is one
abbrev pub part_of : Option (Box Pred) → Option Tree
part_of None = None
part_of (Some p) = Some (tree_of p.value)

-- what is open
abbrev pub frame_of : Opened → Frame
frame_of opened.Not = a_not
frame_of (opened.Bracket ors ands) = a_bracket (part_of ors) (part_of ands)

-- the innermost is kept last
abbrev pub frames_of : List Opened → List Frame
frames_of os = reverse (map frame_of os)

-- where the next token stands, with the literals of a list that is open
abbrev pub stand_of : Spot → List Literal → Stand
stand_of spot.Operand ls = at_operand
stand_of (spot.Name c) ls = at_name c
stand_of (spot.Operator c o) ls = at_operator c o
stand_of (spot.In c) ls = at_in c
stand_of (spot.Comma c) ls = at_comma c ls
stand_of (spot.Literal c) ls = at_literal c ls
stand_of (spot.Whole p) ls = behind (tree_of p.value)

-- what is kept around a place
abbrev pub build_at : State → Stand → Build
build_at s stand = build (frames_of s.opened.items) (part_of s.ors) (part_of s.ands) stand

-- the state that is kept
abbrev pub build_of : State → Build
build_of s = build_at s (stand_of s.spot s.literals.items)

-- ---- what private calls answer

-- what is left is this if the test holds, and else a refusal at the offset
abbrev pub Goes : {X : Type 0} → Bool → Build → ℕ → Result X WhereFault → (X → Build) → Type 0
Goes test b at (Ok x) left = (test ≡ true) × (left x ≡ b)
Goes test b at (Err (Bad n)) left = (test ≡ false) × (n ≡ at)
Goes test b at (Err NoMemory) left = Unit {0}

-- what is left after a token at an offset, or its refusal there
abbrev pub Puts : {X : Type 0} → List Column → Build → Token → ℕ → Result X WhereFault → (X → Build) → Type 0
Puts columns b t at r left = Goes (may_put columns b t) (put b t) at r left

-- this is left
abbrev pub Makes : {X : Type 0} → Build → Result X WhereFault → (X → Build) → Type 0
Makes b (Ok x) left = left x ≡ b
Makes b (Err (Bad n)) left = ⊥
Makes b (Err NoMemory) left = Unit {0}

-- this tree
abbrev pub MakesTree : Tree → Result (Box Pred) WhereFault → Type 0
MakesTree t (Ok p) = tree_of p.value ≡ t
MakesTree t (Err (Bad n)) = ⊥
MakesTree t (Err NoMemory) = Unit {0}

-- the tree that there is, or a refusal at the end
abbrev pub Finishes : Option Tree → ℕ → Result Pred WhereFault → Type 0
Finishes t end (Ok p) = t ≡ Some (tree_of p)
Finishes t end (Err (Bad n)) = (t ≡ None) × (n ≡ end)
Finishes t end (Err NoMemory) = Unit {0}
