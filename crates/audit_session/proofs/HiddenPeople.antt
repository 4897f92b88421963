-- A life hides the number of each person behind the rows of its last table.
--
-- Of several people behind a row one may have another number while the row tells the same; so the life is its own. What one person has is
-- guarded, so other secrets, with another number in a row of one, lead the same life.
use Rattle.std.proofs.Common.{◌≡◌, ◌≢◌, ◌⊎◌, ℕ, ◌<◌, ℤ, List, [], ◌∷◌, map, length, refl, sym, ap, ◌∙◌, subst, arith, inl, inr}
use Rattle.std.specs.List.{slice_index_or}
use Rattle.std.proofs.lemmas.Bool.{cases_lt}
use Rattle.std.proofs.lemmas.List.{get_or-map, get_or_past, length-map}
use Rattle.audit_types.specs.declared.shapes.Shape.{Shape}
use Rattle.audit_types.specs.Headcount.{Headcount, CountPeople, AreFew, count_at}
use Rattle.audit_types.specs.HeadcountLaws.{one_is_few}
use Rattle.audit_types.specs.Shapes.{columns}
use Rattle.audit_types.specs.Truth.{number_at}
use Rattle.audit_types.specs.ListLaws.{all-get_or}
use Rattle.audit_types.specs.History.{Secrets, AreSecrets, list_of}
use Rattle.audit_types.specs.People.{AreBehind, of_line, people_in}
use Rattle.audit_types.specs.PeopleLaws.{PeopleMayDiffer}
use Rattle.table_load.specs.Cells.{counts_of}
use Rattle.table_load.specs.Database.{Database, IsDatabase, AreLines}
use Rattle.audit_session.specs.Lives.{Standing, Run}
use Rattle.audit_session.specs.Hidden.{LeadsLife, HidesEachPerson}

-- other secrets with another number in this row lead the same life
pub record HasOtherLife (base : Database) (runs : List Run) (last : Standing) (column row : ℕ) : Type 0 where
  pub others : Secrets
  pub are_secrets : AreSecrets last.base.secret.shape others
  pub still : LeadsLife others base runs last
  pub differs : number_at (list_of others column) row ≢ number_at (list_of last.base.secret.lists column) row

some_there : (counts : List ℕ) (row : ℕ) → row < length counts → counts ≢ []
some_there counts row below none = let empty : length counts ≡ 0 = ap length none in absurd (omega arith)

-- behind each row are so many people as it counts
module _ (people : List (List ℤ)) (counts : List ℕ) (counted : map length people ≡ counts) (row person : ℕ)
    (there : person < length (slice_index_or people row [])) where
  row_below : row < length people
  row_below = elim (cases_lt row (length people)) [
    | inl below ↦ below
    | inr past ↦ let none : length (slice_index_or people row []) ≡ 0 = ap length (get_or_past people row [] past) in absurd (omega arith)
  ]

  pub counted_below : row < length counts
  counted_below = let long : length people ≡ length counts = sym (length-map people length) ∙ ap length counted in let below = row_below in omega arith

  pub person_below : person < count_at counts row
  person_below =
      let here : length (slice_index_or people row []) ≡ count_at counts row =
      sym (get_or-map length people row [] 1 row_below) ∙ ap (λ c. count_at c row) counted in
      omega arith

pub hides_each_person : PeopleMayDiffer → (base : Database) (runs : List Run) (last : Standing) → IsDatabase last.base → AreLines last.base →
    AreSecrets last.base.secret.shape last.base.secret.lists → LeadsLife last.base.secret.lists base runs last →
    ((column row : ℕ) → column < columns last.base.secret.shape → row < last.base.secret.shape.rows →
    AreFew last.base.protected.people [] (row ∷ []) → HasOtherLife base runs last column row) → HidesEachPerson base runs last
hides_each_person may base runs last database lines own life hidden everyone column row person told_of column_below there =
    elim (cases_lt 1 (count_at counts row)) [
      | inl more ↦ of_others last.base.secret.lists own life (inl (more, refl))
      | inr few ↦
          let one : count_at counts row ≡ 1 = let least = all-get_or (λ count. 0 < count) counts row 1 counted.somebody below in omega arith in
          let other = hidden column row column_below (omega (arith, rows, below)) (one_is_few shape.rows people counted [] row (omega arith) few) in
          of_others other.others other.are_secrets other.still (inr (one, other.differs))
    ]
  where
    people : Headcount
    people = last.base.protected.people

    counts : List ℕ
    counts = people.counts

    counted : CountPeople last.base.secret.shape.rows people
    counted = database.protected.2

    shape : Shape
    shape = last.base.secret.shape

    behind : AreBehind shape counts last.base.secret.lists everyone
    behind = subst (λ list. AreBehind shape list last.base.secret.lists everyone) (sym lines.counts) told_of

    below : row < length counts
    below = counted_below (people_in everyone column) counts (behind.counted column column_below) row person there

    rows : length counts ≡ shape.rows
    rows = lines.one_each (some_there counts row below) ∙ sym (ap (λ (s : Shape). s.rows) database.shape)

    of_others : (others : Secrets) → AreSecrets shape others → LeadsLife others base runs last →
        ((1 < count_at counts row) × (others ≡ last.base.secret.lists))
        ⊎ ((count_at counts row ≡ 1) × (number_at (list_of others column) row ≢ number_at (list_of last.base.secret.lists column) row)) →
        (people : List (List (List ℤ))) × (lists : Secrets) × AreBehind shape (counts_of last.base.columns last.base.public) lists people
        × LeadsLife lists base runs last
        × (number_at (of_line (people_in people column) row) person ≢ number_at (of_line (people_in everyone column) row) person)
    of_others others are leads which =
        let found = may shape counts last.base.secret.lists others everyone column row person behind are rows counted.somebody column_below below
        (person_below (people_in everyone column) counts (behind.counted column column_below) row person there) which in
        (found.others, others, subst (λ list. AreBehind shape list others found.others) lines.counts found.behind, leads, found.differs)
