-- The reader's machine: the tree so far with what is open, which tokens may come next, and what they make of it.
use Rattle.std.specs.Prelude.{ℕ, Bool, true, false, cond, List, [], ◌∷◌, ◌++◌, length, Option, Some, None, is_some, option_and_then, nat_lt}
use Rattle.schema_json.specs.Columns.{Column, role_at}
use Rattle.schema_json.specs.declared.roles.Role.{Role}
use Rattle.schema_json.specs.declared.roles.Role.TheVariants.{Text, Number}
use Rattle.predicate_lang.specs.Trees.{Tree, all_rows, negation, both, either, compared, among, is_of_role, has_operator}
use Rattle.predicate_lang.specs.Tokens as text
use Rattle.predicate_lang.specs.Lexing.{seen}
use Rattle.predicate_lang.specs.declared.trees.Op.{Op}
use Rattle.predicate_lang.specs.declared.trees.Literal.{Literal}
use Rattle.predicate_lang.specs.declared.tokens.Token.{Token}
use Rattle.predicate_lang.specs.declared.tokens.Token.TheVariants.{And, Or, Not, All, In, Column as ColumnToken, Value, Operator, OpenBracket, CloseBracket, Comma}

-- ---- what is kept

-- a `not`, or a bracket with the `or` part and the `and` part that stand before it
pub data Frame : Type 0 where
  a_not : Frame
  a_bracket : Option Tree → Option Tree → Frame

-- where the next token stands: before an operand, or after a part or the whole of it
pub data Stand : Type 0 where
  at_operand : Stand
  at_name : ℕ → Stand
  at_operator : ℕ → Op → Stand
  at_in : ℕ → Stand
  at_comma : ℕ → List Literal → Stand
  at_literal : ℕ → List Literal → Stand
  behind : Tree → Stand

-- what is open, the innermost first; the `or` part and the `and` part before the operand; and where the next token stands
pub record Build : Type 0 where
  pub frames : List Frame
  pub ors : Option Tree
  pub ands : Option Tree
  pub stand : Stand

-- a state by its parts
abbrev pub build : List Frame → Option Tree → Option Tree → Stand → Build
build frames ors ands stand = record { frames = frames; ors = ors; ands = ands; stand = stand }

-- before the first token
abbrev pub start : Build
start = build [] None None at_operand

-- ---- what one token more makes of it

-- an `and` of what stands before the operand with it
abbrev pub add_and : Option Tree → Tree → Tree
add_and None p = p
add_and (Some c) p = both c p

-- an `or` of what stands before the conjunction with it
abbrev pub add_or : Option Tree → Tree → Tree
add_or None p = p
add_or (Some d) p = either d p

-- a `not` ends with its operand
abbrev pub without_nots : List Frame → List Frame
without_nots [] = []
without_nots (a_not ∷ fs) = without_nots fs
without_nots (a_bracket o a ∷ fs) = a_bracket o a ∷ fs

-- a `not` stands right before the operand
abbrev pub is_under_not : List Frame → Bool
is_under_not [] = false
is_under_not (a_not ∷ fs) = true
is_under_not (a_bracket o a ∷ fs) = false

-- the operand under each `not` that stands right before it
abbrev pub negated : List Frame → Tree → Tree
negated [] p = p
negated (a_not ∷ fs) p = negated fs (negation p)
negated (a_bracket o a ∷ fs) p = p

-- after a whole operand
abbrev pub whole : List Frame → Option Tree → Option Tree → Tree → Build
whole fs ors ands p = build (without_nots fs) ors None (behind (add_and ands (negated fs p)))

-- after a closing bracket
abbrev pub closed : List Frame → Option Tree → Tree → Build
closed [] ors p = build [] ors None (behind p)
closed (a_not ∷ fs) ors p = build (a_not ∷ fs) ors None (behind p)
closed (a_bracket o a ∷ fs) ors p = whole fs o a (add_or ors p)

-- with one token more at this place, if it may stand there
abbrev pub put_at : Build → Stand → Token → Build
put_at b at_operand Not = build (a_not ∷ b.frames) b.ors b.ands at_operand
put_at b at_operand All = whole b.frames b.ors b.ands all_rows
put_at b at_operand (ColumnToken (Some c)) = build b.frames b.ors b.ands (at_name c)
put_at b at_operand OpenBracket = build (a_bracket b.ors b.ands ∷ b.frames) None None at_operand
put_at b (at_name c) (Operator o) = build b.frames b.ors b.ands (at_operator c o)
put_at b (at_name c) In = build b.frames b.ors b.ands (at_in c)
put_at b (at_operator c o) (Value l) = whole b.frames b.ors b.ands (compared c o l)
put_at b (at_in c) OpenBracket = build b.frames b.ors b.ands (at_comma c [])
put_at b (at_comma c ls) (Value l) = build b.frames b.ors b.ands (at_literal c (ls ++ l ∷ []))
put_at b (at_literal c ls) Comma = build b.frames b.ors b.ands (at_comma c ls)
put_at b (at_literal c ls) CloseBracket = whole b.frames b.ors b.ands (among c ls)
put_at b (behind p) And = build b.frames b.ors (Some p) at_operand
put_at b (behind p) Or = build b.frames (Some (add_or b.ors p)) None at_operand
put_at b (behind p) CloseBracket = closed b.frames b.ors p
put_at b stand t = b

-- with one token more, if it may stand there
abbrev pub put : Build → Token → Build
put b t = put_at b b.stand t

-- ---- which tokens may stand there

-- one more `not` or bracket may be open
abbrev pub has_room : List Frame → Bool
has_room fs = nat_lt (length fs) 64

-- the innermost that is open is a bracket
abbrev pub is_in_bracket : List Frame → Bool
is_in_bracket [] = false
is_in_bracket (a_not ∷ fs) = false
is_in_bracket (a_bracket o a ∷ fs) = true

-- a condition may name a column of this role
abbrev pub public_role : Option Role → Bool
public_role (Some Text) = true
public_role (Some Number) = true
public_role role = false

-- a token may stand at this place
abbrev pub may_stand : List Column → List Frame → Stand → Token → Bool
may_stand columns fs at_operand Not = has_room fs
may_stand columns fs at_operand OpenBracket = has_room fs
may_stand columns fs at_operand All = true
may_stand columns fs at_operand (ColumnToken (Some c)) = public_role (role_at columns c)
may_stand columns fs (at_name c) In = true
may_stand columns fs (at_name c) (Operator o) = has_operator (role_at columns c) o
may_stand columns fs (at_operator c o) (Value l) = is_of_role (role_at columns c) l
may_stand columns fs (at_in c) OpenBracket = true
may_stand columns fs (at_comma c ls) (Value l) = is_of_role (role_at columns c) l
may_stand columns fs (at_literal c ls) Comma = true
may_stand columns fs (at_literal c ls) CloseBracket = true
may_stand columns fs (behind p) And = true
may_stand columns fs (behind p) Or = true
may_stand columns fs (behind p) CloseBracket = is_in_bracket fs
may_stand columns fs stand t = false

-- a token may come next
abbrev pub may_put : List Column → Build → Token → Bool
may_put columns b t = may_stand columns b.frames b.stand t

-- ---- runs

-- after one token more, if it may stand there
abbrev pub step : List Column → Build → Token → Option Build
step columns b t = cond (may_put columns b t) (Some (put b t)) None

-- after these tokens, if they may all stand there
abbrev pub run : List Column → List text.Token → Option Build → Option Build
run columns [] b = b
run columns (t ∷ ts) None = None
run columns (t ∷ ts) (Some b) = run columns ts (step columns b (seen columns t))

-- the tree, if nothing is open or wanting
abbrev pub tree_at : List Frame → Option Tree → Stand → Option Tree
tree_at [] ors (behind p) = Some (add_or ors p)
tree_at fs ors stand = None

-- the tree of a state, if it has one
abbrev pub built : Build → Option Tree
built b = tree_at b.frames b.ors b.stand

-- nothing is open or wanting
abbrev pub is_complete : Option Build → Bool
is_complete b = is_some (option_and_then built b)
