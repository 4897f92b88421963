-- Facts: bytes mean a table exactly where a table's file of these bytes has no fault.
use Rattle.std.proofs.Common.{◌≡◌, ◌≢◌, ℕ, ◌+◌, ◌<◌, ◌≤◌, Bool, true, false, cond, List, [], ◌∷◌, length, take, drop, map, Option, Some, None, refl, sym, ap, ◌∙◌, arith, subst, rules}
use Rattle.std.specs.Prelude.{ℤ, Ok, not, nat_lt, ◌==◌, if◌then◌else◌, zip}
use Rattle.std.specs.List.{AllByRecursion, list_all}
use Rattle.std.specs.Option.{option_or}
use Rattle.std.specs.Str.{bytes_eq, is_utf8}
use Rattle.std.proofs.lemmas.Bool.{and_parts, and_from, eqb-true, eq-eqb, ltb-false, le-ltb}
use Rattle.std.proofs.lemmas.List.{take_all, length-map}
use Rattle.std.proofs.lemmas.Slice.Eq.{bytes_eq-Decides}
use Rattle.audit_types.specs.Limits.{most_rows}
use Rattle.schema_json.specs.Columns.{Column}
use Rattle.schema_json.specs.declared.roles.Role.{Role}
use Rattle.schema_json.specs.declared.roles.Role.TheVariants as role
use Rattle.table_load.specs.Cells.{PublicView, SecretView, TableView, whole}
use Rattle.table_load.specs.Faults.{unless_fault}
use Rattle.table_load.specs.Numerals.{number_in}
use Rattle.table_load.specs.Reading.{Fields, records_of, file_columns, roles_of, fits_role, number_fault, cell_fault, cells_fault, record_fault, records_fault, names_are, count_fault, data_fault, header_fault, file_fault}
use Rattle.table_load.specs.Tables.{cells_of, cells_from, data_of, public_in, secret_in, table_of}
use Rattle.table_load.specs.Meaning.{IsRecordOf, MeansTable, publics_from}
use Rattle.table_load.specs.declared.faults.TableFault.{TableFault}
use Rattle.table_load.specs.declared.faults.TableFault.TheVariants.{TooLong, Header, Length, NotText, OutOfRange, TooManyRows}
use Rattle.table_load.specs.declared.layout.FileColumns.TheVariants as file

-- ---- all columns

-- a file with all columns has those of the schema
pub all_columns : (columns : List Column) → file_columns file.All columns ≡ columns
all_columns [] = refl
all_columns (c ∷ columns) = ap (λ cs. c ∷ cs) (all_columns columns)

-- and what everybody may see of them is what everybody may see of the schema's
all_publics : (k : ℕ) (columns : List Column) (rows : List Fields) → cells_from file.All k columns rows ≡ publics_from k columns rows
all_publics k [] rows = refl
all_publics k (c ∷ columns) rows = ap (λ cells. cells_of c.role k rows ∷ cells) (all_publics (k + 1) columns rows)

-- ---- a record

-- what a field is that spells a number that a column of this role may have
abbrev IsNumber : Role → List ℕ → Type 0
IsNumber r field = (z : ℤ) × (number_in field ≡ Some z) × (fits_role r z ≡ true)

-- a number that has no fault is one
number_from : (r : Role) (line column : ℕ) (field : List ℕ) (meant : Option ℤ) → number_in field ≡ meant → number_fault r line column meant ≡ None →
    IsNumber r field
number_from r line column field None is fine = absurd (cc)
number_from r line column field (Some z) is fine = (z, is, by (fits_role r z) fine)
  where
    by : (within : Bool) → cond within None (Some (OutOfRange line column)) ≡ None → within ≡ true
    by true fine = refl
    by false fine = absurd (cc)

-- such a number has none
number_fine : (r : Role) (line column : ℕ) (field : List ℕ) → IsNumber r field → number_fault r line column (number_in field) ≡ None
number_fine r line column field number =
    ap (number_fault r line column) number.1 ∙ ap (λ b. cond b None (Some (OutOfRange line column))) number.2

-- a field without a fault is a number where its column isn't one of texts
cell_from : (r : Role) (line column : ℕ) (field : List ℕ) → cell_fault r line column field ≡ None → r ≢ role.Text → IsNumber r field
cell_from role.Text line column field fine other = absurd (other refl)
cell_from role.Number line column field fine other = number_from role.Number line column field (number_in field) refl fine
cell_from role.Count line column field fine other = number_from role.Count line column field (number_in field) refl fine
cell_from role.Sum line column field fine other = number_from role.Sum line column field (number_in field) refl fine
cell_from role.Max line column field fine other = number_from role.Max line column field (number_in field) refl fine
cell_from role.Min line column field fine other = number_from role.Min line column field (number_in field) refl fine

-- and such a field has none
cell_fine : (r : Role) (line column : ℕ) (field : List ℕ) → (r ≢ role.Text → IsNumber r field) → cell_fault r line column field ≡ None
cell_fine role.Text line column field number = refl
cell_fine role.Number line column field number = number_fine role.Number line column field (number (search rules))
cell_fine role.Count line column field number = number_fine role.Count line column field (number (search rules))
cell_fine role.Sum line column field number = number_fine role.Sum line column field (number (search rules))
cell_fine role.Max line column field number = number_fine role.Max line column field (number (search rules))
cell_fine role.Min line column field number = number_fine role.Min line column field (number (search rules))

-- the columns that hold no texts have numbers in these fields
abbrev AreNumbered : List Column → Fields → Type 0
AreNumbered columns fields = AllByRecursion (λ cell. cell.0.role ≢ role.Text → IsNumber cell.0.role cell.1) (zip columns fields)

-- where the first of two is none, so is the other or it counts
pub none_first : (a b : Option TableFault) → option_or a b ≡ None → (a ≡ None) × (b ≡ None)
none_first None b is = (refl, is)
none_first (Some fault) b is = absurd (cc)

-- fields without a fault have these numbers
cells_are : (line column : ℕ) (columns : List Column) (fields : Fields) → cells_fault line column (roles_of columns) fields ≡ None → AreNumbered columns fields
cells_are line column [] fields fine = tt
cells_are line column (c ∷ columns) [] fine = tt
cells_are line column (c ∷ columns) (f ∷ fields) fine =
    let parts = none_first (cell_fault c.role line column f) (cells_fault line (column + 1) (roles_of columns) fields) fine in
    (cell_from c.role line column f parts.0, cells_are line (column + 1) columns fields parts.1)

-- and such fields have none
cells_fine : (line column : ℕ) (columns : List Column) (fields : Fields) → AreNumbered columns fields → cells_fault line column (roles_of columns) fields ≡ None
cells_fine line column [] fields are = refl
cells_fine line column (c ∷ columns) [] are = refl
cells_fine line column (c ∷ columns) (f ∷ fields) are =
    ap (λ fault. option_or fault (cells_fault line (column + 1) (roles_of columns) fields)) (cell_fine c.role line column f are.0)
    ∙ cells_fine line (column + 1) columns fields are.1

-- a record without a fault is one of the columns
record_is : (line : ℕ) (columns : List Column) (fields : Fields) → record_fault (roles_of columns) line fields ≡ None → IsRecordOf columns fields
record_is line columns fields fine = by (length fields == length (roles_of columns)) (list_all is_utf8 fields) refl refl fine
  where
    by : (as_many text : Bool) → (length fields == length (roles_of columns)) ≡ as_many → list_all is_utf8 fields ≡ text
        → (if not as_many then Some (Length line) else (if not text then Some (NotText line) else cells_fault line 0 (roles_of columns) fields)) ≡ None →
        IsRecordOf columns fields
    by true true same text fine = record {
      one_each = eqb-true (length fields) (length (roles_of columns)) same ∙ length-map columns (λ (c : Column). c.role);
      texts = text;
      numbers = cells_are line 0 columns fields fine;
    }
    by true false same text fine = absurd (cc)
    by false text same is fine = absurd (cc)

-- and such a record has none
record_fine : (line : ℕ) (columns : List Column) (fields : Fields) → IsRecordOf columns fields → record_fault (roles_of columns) line fields ≡ None
record_fine line columns fields are =
    let roles = roles_of columns in
    let same : length fields ≡ length roles = are.one_each ∙ sym (length-map columns (λ (c : Column). c.role)) in
    ap (λ b. if not b then Some (Length line) else (if not (list_all is_utf8 fields) then Some (NotText line) else cells_fault line 0 roles fields))
    (eq-eqb (length fields) (length roles) same)
    ∙ ap (λ b. if not b then Some (NotText line) else cells_fault line 0 roles fields) are.texts
    ∙ cells_fine line 0 columns fields are.numbers

-- records without a fault are records of the columns
records_are : (line : ℕ) (columns : List Column) (rows : List Fields) → records_fault (roles_of columns) line rows ≡ None →
    AllByRecursion (IsRecordOf columns) rows
records_are line columns [] fine = tt
records_are line columns (r ∷ rows) fine =
    let parts = none_first (record_fault (roles_of columns) line r) (records_fault (roles_of columns) (line + 1) rows) fine in
    (record_is line columns r parts.0, records_are (line + 1) columns rows parts.1)

-- and such records have none
pub records_fine : (line : ℕ) (columns : List Column) (rows : List Fields) → AllByRecursion (IsRecordOf columns) rows →
    records_fault (roles_of columns) line rows ≡ None
records_fine line columns [] are = refl
records_fine line columns (r ∷ rows) are =
    ap (λ fault. option_or fault (records_fault (roles_of columns) (line + 1) rows)) (record_fine line columns r are.0)
    ∙ records_fine (line + 1) columns rows are.1

-- ---- a file

-- a header without a fault has the names of the columns
names_from : (fields : Fields) (columns : List Column) → names_are fields columns ≡ true → fields ≡ map (λ c. c.name) columns
names_from [] [] is = refl
names_from [] (c ∷ columns) is = absurd (cc)
names_from (f ∷ fields) [] is = absurd (cc)
names_from (f ∷ fields) (c ∷ columns) is =
    let parts = and_parts (bytes_eq f c.name) (names_are fields columns) is in
    ap (λ name. name ∷ fields) ((bytes_eq-Decides f c.name).0 parts.0) ∙ ap (λ names. c.name ∷ names) (names_from fields columns parts.1)

-- and their names are one
names_fine : (columns : List Column) → names_are (map (λ (c : Column). c.name) columns) columns ≡ true
names_fine [] = refl
names_fine (c ∷ columns) =
    and_from (bytes_eq c.name c.name) (names_are (map (λ (c : Column). c.name) columns) columns) ((bytes_eq-Decides c.name c.name).1 refl) (names_fine columns)

-- 1 to most_rows data records of the columns
pub record HasRows (columns : List Column) (rows : List Fields) : Type 0 where
  pub some : 0 < length rows
  pub at_most : length rows ≤ most_rows
  pub each : AllByRecursion (IsRecordOf columns) rows

-- 1 to most_rows of them are counted
counted : (rows : List Fields) → count_fault rows ≡ None → (0 < length rows) × (length rows ≤ most_rows)
counted [] fine = absurd (cc)
counted (r ∷ rows) fine = by (nat_lt most_rows (length (r ∷ rows))) refl fine
  where
    by : (many : Bool) → nat_lt most_rows (length (r ∷ rows)) ≡ many → cond many (Some TooManyRows) None ≡ None → (0 < length (r ∷ rows)) × (length (r ∷ rows) ≤ most_rows)
    by true many fine = absurd (cc)
    by false few fine = (omega arith, ltb-false most_rows (length (r ∷ rows)) few)

-- 1 to most_rows records are few enough
count_fine : (rows : List Fields) → 0 < length rows → length rows ≤ most_rows → count_fault rows ≡ None
count_fine [] some few = absurd (omega (arith, some))
count_fine (x ∷ rows) some few = ap (λ b. cond b (Some TooManyRows) None) (le-ltb most_rows (length (x ∷ rows)) few)

-- 1 to most_rows records without a fault
pub good_rows : (roles : List Role) (rows : List Fields) → 0 < length rows → length rows ≤ most_rows → records_fault roles 2 rows ≡ None →
    data_fault roles rows ≡ None
good_rows roles rows some few good =
    ap (λ rs. option_or (records_fault roles 2 rs) (count_fault rows)) (take_all most_rows rows few)
    ∙ ap (λ f. option_or f (count_fault rows)) good
    ∙ count_fine rows some few

-- data records without a fault are rows
rows_are : (columns : List Column) (rows : List Fields) → data_fault (roles_of columns) rows ≡ None → HasRows columns rows
rows_are columns rows fine =
    let parts = none_first (records_fault (roles_of columns) 2 (take most_rows rows)) (count_fault rows) fine in
    let count = counted rows parts.1 in
    record {
      some = count.0;
      at_most = count.1;
      each = records_are 2 columns rows (sym (ap (records_fault (roles_of columns) 2) (take_all most_rows rows count.1)) ∙ parts.0);
    }

-- records that are a header and rows
pub record AreHeaded (columns : List Column) (records : List Fields) : Type 0 where
  pub headed : records ≡ map (λ (c : Column). c.name) columns ∷ drop 1 records
  pub rows : HasRows columns (drop 1 records)

-- records without a fault are that
headed_are : (columns : List Column) (records : List Fields) → header_fault columns records ≡ None → AreHeaded columns records
headed_are columns [] fine = absurd (cc)
headed_are columns (h ∷ rows) fine = by (names_are h columns) refl fine
  where
    by : (named : Bool) → names_are h columns ≡ named → (if not named then Some Header else data_fault (roles_of columns) rows) ≡ None →
        AreHeaded columns (h ∷ rows)
    by true named fine = record { headed = ap (λ first. first ∷ rows) (names_from h columns named); rows = rows_are columns rows fine }
    by false named fine = absurd (cc)

-- bytes within the limit, whose records are a header and rows
pub record IsFine (columns : List Column) (bytes : List ℕ) : Type 0 where
  pub short : length bytes ≤ 16777216
  pub headed : AreHeaded columns (records_of bytes)

-- what a file without a fault is
pub file_is : (columns : List Column) (bytes : List ℕ) → file_fault columns bytes ≡ None → IsFine columns bytes
unfolding file_fault
file_is columns bytes fine = by (nat_lt 16777216 (length bytes)) refl fine
  where
    by : (long : Bool) → nat_lt 16777216 (length bytes) ≡ long → (if long then Some TooLong else header_fault columns (records_of bytes)) ≡ None →
        IsFine columns bytes
    by true long fine = absurd (cc)
    by false short fine = record { short = ltb-false 16777216 (length bytes) short; headed = headed_are columns (records_of bytes) fine }

-- a file that is short enough is judged by its records
pub short_file : (columns : List Column) (bytes : List ℕ) (rs : List Fields) → length bytes ≤ 16777216 → records_of bytes ≡ rs →
    file_fault columns bytes ≡ header_fault columns rs
unfolding file_fault
short_file columns bytes rs short is =
    ap (λ b. if b then Some TooLong else header_fault columns (records_of bytes)) (le-ltb 16777216 (length bytes) short) ∙ ap (header_fault columns) is

-- after a good header the data records are judged
pub good_header : (columns : List Column) (h : Fields) (rs : List Fields) → names_are h columns ≡ true →
    header_fault columns (h ∷ rs) ≡ data_fault (roles_of columns) rs
good_header columns h rs good = ap (λ b. if not b then Some Header else data_fault (roles_of columns) rs) good

-- and bytes that are that have none
file_fine : (columns : List Column) (bytes : List ℕ) (rows : List Fields) → length bytes ≤ 16777216
    → records_of bytes ≡ map (λ (c : Column). c.name) columns ∷ rows → data_fault (roles_of columns) rows ≡ None → file_fault columns bytes ≡ None
file_fine columns bytes rows short is fine =
    let names = map (λ (c : Column). c.name) columns in
    short_file columns bytes (names ∷ rows) short is ∙ good_header columns names rows (names_fine columns) ∙ fine

-- ---- a table

-- a value is answered where there is no fault, and it is the one that is meant
pub answered : {X : Type 0} (fault : Option TableFault) (x y : X) → unless_fault fault x ≡ Ok y → (fault ≡ None) × (x ≡ y)
answered None x y is = (refl, cc)
answered (Some f) x y is = absurd (cc)

-- the table that all columns' records are
abbrev table_from : List Column → List Fields → TableView
table_from columns rows = record { public = public_in file.All columns rows; secret = secret_in columns rows }

-- bytes that are read as a table mean it
pub read_means : (columns : List Column) (bytes : List ℕ) (t : TableView) → table_of columns bytes ≡ Ok t → MeansTable columns bytes t.public t.secret
read_means columns bytes t is =
    let rows = data_of bytes in
    let parts = answered (file_fault (file_columns file.All columns) bytes) (table_from columns rows) t is in
    let fine = file_is columns bytes (subst (λ cs. file_fault cs bytes ≡ None) (all_columns columns) parts.0) in
    record {
      short = fine.short;
      rows = rows;
      records_are = fine.headed.headed;
      some = fine.headed.rows.some;
      at_most = fine.headed.rows.at_most;
      each = fine.headed.rows.each;
      public_is =
          ap (λ (t : TableView). t.public) (sym parts.1) ∙ ap (λ cells. record { rows = length rows; columns = cells; only = None }) (all_publics 0 columns rows);
      secret_is = ap (λ (t : TableView). t.secret) (sym parts.1);
    }

-- and bytes that mean a table are read as it
pub means_read : {columns : List Column} {bytes : List ℕ} {public : PublicView} {secret : SecretView} → MeansTable columns bytes public secret →
    table_of columns bytes ≡ Ok (record { public = public; secret = secret })
means_read {columns} {bytes} {public} {secret} means =
    let fine : file_fault columns bytes ≡ None = file_fine columns bytes means.rows means.short means.records_are
    (good_rows (roles_of columns) means.rows means.some means.at_most (records_fine 2 columns means.rows means.each)) in
    let same : data_of bytes ≡ means.rows = ap (drop 1) means.records_are in
    let seen : public_in file.All columns means.rows ≡ public =
    ap (λ cells. record { rows = length means.rows; columns = cells; only = None }) (all_publics 0 columns means.rows) ∙ sym means.public_is in
    ap (λ cs. unless_fault (file_fault cs bytes) (table_from columns (data_of bytes))) (all_columns columns)
    ∙ ap (λ fault. unless_fault fault (table_from columns (data_of bytes))) fine
    ∙ ap (λ rows. Ok (table_from columns rows)) same
    ∙ ap (λ p. Ok (record { public = p; secret = secret_in columns means.rows })) seen
    ∙ ap (λ s. Ok (record { public = public; secret = s })) (sym means.secret_is)

-- of the table that bytes mean each row may be asked of
pub means_whole : {columns : List Column} {bytes : List ℕ} {public : PublicView} {secret : SecretView} → MeansTable columns bytes public secret → whole public ≡ public
means_whole means = ap whole means.public_is ∙ sym means.public_is

-- so they mean it as one of which each row may be asked
pub read_whole : (columns : List Column) (bytes : List ℕ) (t : TableView) → table_of columns bytes ≡ Ok t → MeansTable columns bytes (whole t.public) t.secret
read_whole columns bytes t is =
    let means = read_means columns bytes t is in
    subst (λ p. MeansTable columns bytes p t.secret) (sym (means_whole means)) means
