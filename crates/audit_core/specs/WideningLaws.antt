-- The laws of growing tables: what was decided stays decided.
use Rattle.std.specs.Prelude.{◌↔◌, ℕ, ◌<◌, ◌≤◌, List, All}
use Rattle.std.specs.List.{AllByRecursion}
use Rattle.audit_types.specs.declared.records.Answered.{Answered}
use Rattle.audit_types.specs.declared.records.Verdict.{Verdict}
use Rattle.audit_types.specs.Rows.{AreRows}
use Rattle.audit_types.specs.Column.{Known, IsDangerous}
use Rattle.audit_types.specs.Judgement.{IsWide, IsDecision}
use Rattle.audit_types.specs.History.{Table, AreProtected, IsLegal}
use Rattle.audit_types.specs.Widening.{widened, Extends}

-- what is known of a column, over so many rows
abbrev pub over_rows : ℕ → Known → Known
over_rows n known = record known { n = n }

-- sets over the rows of the column
abbrev pub AreSetsOf : Known → List ℕ → Type 0
AreSetsOf known rows = AllByRecursion (λ a. AreRows known.n a.rows) known.answers × AreRows known.n rows

-- protected groups over the rows of the column
abbrev pub AreGroupsOf : Known → Type 0
AreGroupsOf known = All (AreRows known.n) known.groups

-- over more rows a question is as wide as before: a new row is within reach by itself
abbrev pub WidthStays : Type 0
WidthStays =
    (known : Known) (rows : List ℕ) (n : ℕ) → AreSetsOf known rows → AreGroupsOf known → 0 < known.reach → known.n ≤ n →
    IsWide known rows ↔ IsWide (over_rows n known) rows

-- and as dangerous, since no set and no group tells of a new row
abbrev pub DangerStays : Type 0
DangerStays =
    (known : Known) (rows : List ℕ) (n : ℕ) → AreSetsOf known rows → AreGroupsOf known → known.n ≤ n →
    IsDangerous known rows ↔ IsDangerous (over_rows n known) rows

-- so it is decided as before
abbrev pub DecisionStays : Type 0
DecisionStays =
    (known : Known) (rows : List ℕ) (n : ℕ) (verdict : Verdict) → AreSetsOf known rows → AreGroupsOf known → 0 < known.reach → known.n ≤ n →
    IsDecision known rows verdict ↔ IsDecision (over_rows n known) rows verdict

-- and what was legal for a table is legal for each that extends it: no set tells of a new row, and a group with new rows tells an asker whose number
-- each of these is no more than the total over its old ones, which are a protected group of the table
abbrev pub LegalStays : Type 0
LegalStays =
    (table longer : Table) (history : List Answered) → AreProtected longer.setting.shape longer.setting.protected → Extends table longer →
    IsLegal table history →
    IsLegal longer (widened longer.setting.shape.rows history)
