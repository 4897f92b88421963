-- What a text means as a predicate, and where a text is refused that means none.
use Rattle.std.specs.Prelude.{◌≡◌, ℕ, ◌+◌, ◌≤◌, List, map, take, length, Some, None, slice_get, Result, Ok, Err}
use Rattle.schema_json.specs.Columns.{Column}
use Rattle.predicate_lang.specs.Trees.{Tree, tree_of}
use Rattle.predicate_lang.specs.Tokens.{Token, Placed, lexed}
use Rattle.predicate_lang.specs.Grammar.{Writes, IsPredicate, BeginPredicate}
use Rattle.predicate_lang.specs.declared.trees.Pred.{Pred}
use Rattle.predicate_lang.specs.declared.trees.WhereFault.{WhereFault}
use Rattle.predicate_lang.specs.declared.trees.WhereFault.TheVariants.{Bad, NoMemory}

abbrev pub most_tokens : ℕ
most_tokens = 512

abbrev pub tokens_of : List Placed → List Token
tokens_of placed = map (λ p. p.token) placed

-- the text means this tree
pub record Means (columns : List Column) (text : List ℕ) (t : Tree) : Type 0 where
  pub whole : (lexed text).stop ≡ None
  pub few : length (lexed text).tokens ≤ most_tokens
  pub writes : Writes columns (tokens_of (lexed text).tokens) t

-- an offset at which a text is refused
pub data Refuses (columns : List Column) (text : List ℕ) : ℕ → Type 0 where
  -- that of a token up to which the tokens begin no predicate
  unfit : (k : ℕ) (p : Placed) → slice_get (lexed text).tokens k ≡ Some p → ¬ (BeginPredicate columns (tokens_of (take (k + 1) (lexed text).tokens))) → Refuses columns text p.at
  -- that of the first token that is too many
  too_many : (p : Placed) → slice_get (lexed text).tokens most_tokens ≡ Some p → Refuses columns text p.at
  -- where no token begins
  no_token : (at : ℕ) → (lexed text).stop ≡ Some at → Refuses columns text at
  -- the end, before a predicate is complete
  unfinished : (lexed text).stop ≡ None → ¬ (IsPredicate columns (tokens_of (lexed text).tokens)) → Refuses columns text (length text)

-- the least of these offsets
pub record IsPlace (columns : List Column) (text : List ℕ) (at : ℕ) : Type 0 where
  pub refuses : Refuses columns text at
  pub least : (other : ℕ) → Refuses columns text other → at ≤ other

abbrev pub IsWhereFault : List Column → List ℕ → WhereFault → Type 0
IsWhereFault columns text (Bad at) = IsPlace columns text at
IsWhereFault columns text NoMemory = Unit {0}

-- what is read of a text that means this tree
abbrev pub ReadsTree : Tree → Result Pred WhereFault → Type 0
ReadsTree t (Ok p) = tree_of p ≡ t
ReadsTree t (Err (Bad at)) = ⊥
ReadsTree t (Err NoMemory) = Unit {0}

-- a refusal's offset is at most this one
abbrev pub IsWithin : ℕ → WhereFault → Type 0
IsWithin n (Bad at) = at ≤ n
IsWithin n NoMemory = Unit {0}
