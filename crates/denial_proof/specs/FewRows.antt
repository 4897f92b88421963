-- Rows that alone can have a number, of few people, and how a proof names them.
use Rattle.std.specs.Prelude.{◌≡◌, ◌≢◌, ◌⊎◌, ℕ, ◌<◌, Bool, ◌&&◌, not, cond, ◌==◌, nat_lt, List, [], ◌∷◌, Option, Some, None, ◌≤◌}
use Rattle.audit_types.specs.Rows.{Rows, IsRowsOf, has_row}
use Rattle.audit_types.specs.Headcount.{Headcount, AreFew, count_at, beside_in, several_in}
use Rattle.audit_types.specs.Column.{Answer, IsOneOf}
use Rattle.audit_types.specs.Extremes.{extremes}
use Rattle.denial_proof.specs.declared.few_rows.FewRows.{FewRows}
use Rattle.denial_proof.specs.declared.few_rows.FewRows.TheVariants.{One, Beside, Several}

-- what was found of rows of a table of n rows: them, if few people stand behind them
abbrev pub AreFoundFew : ℕ → Headcount → List ℕ → Option Rows → Type 0
AreFoundFew n people rows None = ¬ (AreFew people [] rows)
AreFoundFew n people rows (Some few) = (few ≡ record { n = n; list = rows }) × AreFew people [] rows

-- two rows in ascending order
abbrev pub in_order : ℕ → ℕ → List ℕ
in_order a b = cond (nat_lt a b) (a ∷ b ∷ []) (b ∷ a ∷ [])

-- the rows that are named
abbrev pub named_rows : FewRows → List ℕ
named_rows (One row) = row ∷ []
named_rows (Beside row own) = in_order row own
named_rows (Several rows) = rows.list

-- they are rows of a table of n rows, and some
abbrev pub AreRowsNamed : ℕ → FewRows → Type 0
AreRowsNamed n (One row) = row < n
AreRowsNamed n (Beside row own) = (row < n) × (own < n) × (row ≢ own)
AreRowsNamed n (Several rows) = IsRowsOf n rows

-- a row that is named as an asker's own is one of one person, and the number of the other row is guarded against her
abbrev pub IsBeside : Headcount → FewRows → Type 0
IsBeside people (One row) = Unit {0}
IsBeside people (Beside row own) = (people.own ≡ 1) × (count_at people.counts own ≤ 1) × AreFew people (own ∷ []) (row ∷ [])
IsBeside people (Several rows) = Unit {0}

-- whether they may be named so
abbrev pub is_beside : Headcount → ℕ → ℕ → Bool
is_beside people row own = (people.own == 1) && (not (has_row (several_in people) own) && not (has_row (beside_in people) row))

-- how two rows of n are named: the first beside the second, if that may be an asker's own; else the second beside the first, if that may be
abbrev pub name_of_two : ℕ → Headcount → ℕ → ℕ → FewRows
name_of_two n people a b = cond (is_beside people a b) (Beside a b) (cond (is_beside people b a) (Beside b a) (Several (record { n = n; list = a ∷ b ∷ [] })))

-- how rows of n are named
abbrev pub name_of : ℕ → Headcount → List ℕ → FewRows
name_of n people [] = Several (record { n = n; list = [] })
name_of n people (a ∷ []) = One a
name_of n people (a ∷ b ∷ []) = name_of_two n people a b
name_of n people (a ∷ b ∷ c ∷ rows) = Several (record { n = n; list = a ∷ b ∷ c ∷ rows })

-- the order of lists: the first number that differs is less, or the other list is longer
abbrev pub IsBefore : List ℕ → List ℕ → Type 0
IsBefore [] [] = ⊥
IsBefore [] (b ∷ others) = Unit {0}
IsBefore (a ∷ rows) [] = ⊥
IsBefore (a ∷ rows) (b ∷ others) = (a < b) ⊎ ((a ≡ b) × IsBefore rows others)

-- the order of names: a row first, then a row beside an asker's own, then other rows; of one kind by their numbers
abbrev pub order_of : FewRows → List ℕ
order_of (One row) = 0 ∷ row ∷ []
order_of (Beside row own) = 1 ∷ row ∷ own ∷ []
order_of (Several rows) = 2 ∷ rows.list

abbrev pub ComesBefore : FewRows → FewRows → Type 0
ComesBefore few other = IsBefore (order_of few) (order_of other)

-- of a name so far and another, the one that comes first
abbrev pub IsFirstName : Option FewRows → FewRows → FewRows → Type 0
IsFirstName None few first = first ≡ few
IsFirstName (Some old) few first = ((first ≡ few) × ComesBefore few old) ⊎ ((first ≡ old) × ¬ (ComesBefore few old))

-- of a name so far and that of rows that were found, if any were
abbrev pub IsFirstWith : Headcount → Option FewRows → Option Rows → Option FewRows → Type 0
IsFirstWith people old None first = first ≡ old
IsFirstWith people old (Some rows) first = (few : FewRows) × (first ≡ Some few) × IsFirstName old (name_of rows.n people rows.list) few

-- the name of the extreme rows of one of these answers, of few people, and of no others that come before
pub record IsLeastFew (n : ℕ) (people : Headcount) (answers seen : List Answer) (few : FewRows) : Type 0 where
  pub answer : Answer
  pub one : IsOneOf answer seen
  pub are_few : AreFew people [] (extremes answers answer)
  pub named : name_of n people (extremes answers answer) ≡ few
  pub least : (other : Answer) → IsOneOf other seen → AreFew people [] (extremes answers other) → ¬ (ComesBefore (name_of n people (extremes answers other)) few)

-- what was found of them
abbrev pub IsLeastFewFound : ℕ → Headcount → List Answer → List Answer → Option FewRows → Type 0
IsLeastFewFound n people answers seen None = (other : Answer) → IsOneOf other seen → ¬ (AreFew people [] (extremes answers other))
IsLeastFewFound n people answers seen (Some few) = IsLeastFew n people answers seen few
