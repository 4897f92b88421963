-- All rows of a table are the table.
use Rattle.std.proofs.Common.{◌≡◌, ◌≢◌, ℕ, ℤ, List, [], ◌∷◌, ◌++◌, map, length, take, get_or, refl, sym, ◌∙◌, ap, subst, arith}
use Rattle.std.specs.List.{AllByRecursion}
use Rattle.std.specs.Prelude.{All}
use Rattle.std.proofs.lemmas.List.{take_all}
use Rattle.std.proofs.lemmas.List.Folds.{map_fixed}
use Rattle.std.proofs.lemmas.List.Elements.{All-head, All-tail}
use Rattle.audit_types.specs.declared.records.Protected.{Protected}
use Rattle.audit_types.specs.declared.shapes.Shape.{Shape}
use Rattle.audit_types.specs.ListLaws.{all-get_or}
use Rattle.audit_types.specs.RowLaws.{rows-again}
use Rattle.audit_types.specs.Rows.{AreRows, has_row, rows_that}
use Rattle.audit_types.specs.Widening.{groups_among, protection_among, first_rows}
use Rattle.audit_types.specs.History.{Protection, Table, Secrets, AreSecrets, AreProtected, IsProtected, entry_of, setting_of}

-- the lists of the secrets, all rows of each
whole_lists : (n : ℕ) (lists : List (List ℤ)) → AllByRecursion (λ w. length w ≡ n) lists → map (take n) lists ≡ lists
whole_lists n lists all =
    map_fixed (take n) lists (λ k d lt. take_all n (get_or lists k d) (omega (arith, all-get_or (λ w. length w ≡ n) lists k d all lt)))

whole_entry : (column place n m : ℕ) (list : List ℕ) → m ≡ n → list ≢ [] →
    entry_of column place n list ≡ record { column = column; place = place; rows = record { n = m; list = list } } ∷ []
whole_entry column place n m [] same some = absurd (some refl)
whole_entry column place n m (r ∷ rows) same some = ap (λ k. record { column = column; place = place; rows = record { n = k; list = r ∷ rows } } ∷ [])
    (sym same)

whole_groups : (shape : Shape) (protected : List Protected) → All (IsProtected shape) protected → groups_among shape.rows protected ≡ protected
whole_groups shape [] fit = refl
whole_groups shape (p ∷ protected) fit =
    let first = (All-head (IsProtected shape) p protected fit).0 in
    let again : rows_that (has_row p.rows.list) shape.rows ≡ p.rows.list = rows-again shape.rows p.rows.list
    (subst (λ n. AreRows n p.rows.list) first.same_n first.are_rows) in
    ap (λ rows. entry_of p.column p.place shape.rows rows ++ groups_among shape.rows protected) again
    ∙ ap (λ l. l ++ groups_among shape.rows protected) (whole_entry p.column p.place shape.rows p.rows.n p.rows.list first.same_n first.some)
    ∙ ap (λ l. p ∷ l) (whole_groups shape protected (All-tail (IsProtected shape) p protected fit))

whole_protection : (shape : Shape) (protected : Protection) → AreProtected shape protected → protection_among shape.rows protected ≡ protected
whole_protection shape protected fit =
    let counts = take_all shape.rows protected.people.counts fit.2.within in
    ap (λ groups. record protected { groups = groups; people = record protected.people { counts = take shape.rows protected.people.counts } })
    (whole_groups shape protected.groups fit.0)
    ∙ ap (λ counts. record protected { people = record protected.people { counts = counts } }) counts

pub whole_table : (table : Table) → AreSecrets table.setting.shape table.secrets → AreProtected table.setting.shape table.setting.protected →
    first_rows table.setting.shape.rows table ≡ table
whole_table table are fit =
    let shape = table.setting.shape in
    ap (λ (p : Protection). record { setting = setting_of shape p; secrets = map (take shape.rows) table.secrets })
    (whole_protection shape table.setting.protected fit)
    ∙ ap (λ (ls : Secrets). record { setting = table.setting; secrets = ls }) (whole_lists shape.rows table.secrets are.numbers)
