-- The first fault of a file, by how far its records were read.
use Rattle.std.proofs.Common.{◌≡◌, ℕ, zero, suc, ◌+◌, ◌-◌, ◌<◌, ◌≤◌, false, cond, List, [], ◌∷◌, ◌++◌, length, take, Some, None, refl, ap, ◌∙◌, arith, append-nil, length-append}
use Rattle.std.specs.Prelude.{not, if◌then◌else◌}
use Rattle.std.proofs.lemmas.Bool.{lt-ltb}
use Rattle.schema_json.specs.Columns.{Column}
use Rattle.schema_json.specs.declared.roles.Role.{Role}
use Rattle.std.specs.Option.{option_or}
use Rattle.audit_types.specs.Limits.{most_rows}
use Rattle.table_load.specs.Reading.{Fields, record_fault, records_fault, count_fault, data_fault, header_fault, names_are, roles_of, file_fault, records_of}
use Rattle.table_load.specs.MeaningLaws.{none_first}
use Rattle.table_load.specs.declared.faults.TableFault.{TableFault}
use Rattle.table_load.specs.declared.faults.TableFault.TheVariants.{TooLong, Header, TooManyRows, NoRows}

-- records without a fault before others
pub good-append : (roles : List Role) (line : ℕ) (xs ys : List Fields) → records_fault roles line xs ≡ None →
    records_fault roles line (xs ++ ys) ≡ records_fault roles (length xs + line) ys
good-append roles line [] ys good = ap (λ n. records_fault roles n ys) (omega arith)
good-append roles line (x ∷ xs) ys good =
    let parts = none_first (record_fault roles line x) (records_fault roles (line + 1) xs) good in
    ap (λ fault. option_or fault (records_fault roles (line + 1) (xs ++ ys))) parts.0
    ∙ good-append roles (line + 1) xs ys parts.1
    ∙ ap (λ n. records_fault roles n ys) (omega arith)

-- a record without a fault joins those before it
pub good_more : (roles : List Role) (rows : List Fields) (r : Fields) → records_fault roles 2 rows ≡ None → record_fault roles (length rows + 2) r ≡ None →
    records_fault roles 2 (rows ++ r ∷ []) ≡ None
good_more roles rows r good fine = good-append roles 2 rows (r ∷ []) good ∙ ap (λ fault. option_or fault None) fine

-- the first so many of records that have so many in front
take_front : (n : ℕ) (xs ys : List Fields) → length xs ≤ n → take n (xs ++ ys) ≡ xs ++ take (n - length xs) ys
take_front n [] ys within = ap (λ k. take k ys) (omega arith)
take_front zero (x ∷ xs) ys within = absurd (omega (arith, within))
take_front (suc n) (x ∷ xs) ys within = ap (λ zs. x ∷ zs) (take_front n xs ys (omega (arith, within)) ∙ ap (λ k. xs ++ take k ys) (omega arith))

-- the first of some records is the first
take_one : (k : ℕ) (r : Fields) (rest : List Fields) → 0 < k → (n : ℕ) × (take k (r ∷ rest) ≡ r ∷ take n rest)
take_one zero r rest some = absurd (omega (arith, some))
take_one (suc k) r rest some = (k, refl)

-- the first record with a fault, among the first most_rows
pub bad_row : (roles : List Role) (rows : List Fields) (r : Fields) (rest : List Fields) (fault : TableFault) → length rows < most_rows
    → records_fault roles 2 rows ≡ None → record_fault roles (length rows + 2) r ≡ Some fault
    → data_fault roles (rows ++ r ∷ rest) ≡ Some fault
bad_row roles rows r rest fault few good bad =
    let one = take_one (most_rows - length rows) r rest (omega (arith, few)) in
    ap (λ rs. option_or (records_fault roles 2 rs) (count_fault (rows ++ r ∷ rest)))
    (take_front most_rows rows (r ∷ rest) (omega (arith, few)) ∙ ap (λ rs. rows ++ rs) one.1)
    ∙ ap (λ f. option_or f (count_fault (rows ++ r ∷ rest)))
    (good-append roles 2 rows (r ∷ take one.0 rest) good ∙ ap (λ f. option_or f (records_fault roles (length rows + 2 + 1) (take one.0 rest))) bad)

-- a record after most_rows is one too many
count_many : (rows : List Fields) (r : Fields) (rest : List Fields) → length rows ≡ most_rows → count_fault (rows ++ r ∷ rest) ≡ Some TooManyRows
count_many [] r rest full = absurd (omega (arith, full))
count_many (x ∷ rows) r rest full =
    ap (λ b. cond b (Some TooManyRows) None) (lt-ltb most_rows (length (x ∷ (rows ++ r ∷ rest))) (omega (arith, full, length-append rows (r ∷ rest))))

-- one record after most_rows without a fault
pub many_rows : (roles : List Role) (rows : List Fields) (r : Fields) (rest : List Fields) → length rows ≡ most_rows → records_fault roles 2 rows ≡ None →
    data_fault roles (rows ++ r ∷ rest) ≡ Some TooManyRows
many_rows roles rows r rest full good =
    let none : most_rows - length rows ≡ 0 = omega (arith, full) in
    ap (λ rs. option_or (records_fault roles 2 rs) (count_fault (rows ++ r ∷ rest)))
    (take_front most_rows rows (r ∷ rest) (omega (arith, full)) ∙ ap (λ k. rows ++ take k (r ∷ rest)) none ∙ append-nil rows)
    ∙ ap (λ f. option_or f (count_fault (rows ++ r ∷ rest))) good
    ∙ count_many rows r rest full

-- a file that is too long
pub long_file : (columns : List Column) (bytes : List ℕ) → 16777216 < length bytes → file_fault columns bytes ≡ Some TooLong
unfolding file_fault
long_file columns bytes long = ap (λ b. if b then Some TooLong else header_fault columns (records_of bytes)) (lt-ltb 16777216 (length bytes) long)

-- a header with other names
pub bad_header : (columns : List Column) (h : Fields) (rs : List Fields) → names_are h columns ≡ false → header_fault columns (h ∷ rs) ≡ Some Header
bad_header columns h rs bad = ap (λ b. if not b then Some Header else data_fault (roles_of columns) rs) bad

-- no data record
pub no_rows : (roles : List Role) (rows : List Fields) → length rows ≡ 0 → data_fault roles rows ≡ Some NoRows
no_rows roles [] none = refl
no_rows roles (x ∷ rows) none = absurd (omega (arith, none))
