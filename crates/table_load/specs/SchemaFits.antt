-- Facts: the public part of a table has a column for each of the schema's, which holds what its role says.
use Rattle.std.proofs.Common.{◌≡◌, ℕ, zero, suc, ◌+◌, ◌<◌, Bool, true, false, cond, List, [], ◌∷◌, length, drop, get_or, Some, refl, sym, ap, ◌∙◌, arith, subst, map, Vec, Global, length-drop}
use Rattle.std.specs.Prelude.{ℤ, pos, ◌<ℤ◌, unsigned_abs, Option, None, option_map, unwrap_or, not, ◌≢◌}
use Rattle.std.proofs.lemmas.Int.{ints}
use Rattle.std.proofs.lemmas.List.{length-map}
use Rattle.std.specs.List.{AllByRecursion}
use Rattle.std.proofs.lemmas.Bool.{not-false}
use Rattle.std.proofs.lemmas.List.Sums.{sum_by-cons}
use Rattle.table_load.specs.SchemaPlaces.{here, role_is}
use Rattle.schema_json.specs.Columns.{Column, is_public, is_secret, role_at, people_place}
use Rattle.schema_json.specs.CountFacts.{people_is_count}
use Rattle.schema_json.specs.declared.roles.Role.{Role}
use Rattle.schema_json.specs.declared.roles.Role.TheVariants as role
use Rattle.table_load.specs.Cells.{Cells, hidden, numbers, texts, numbers_of, cells_at, counts_of, PublicView, IsPublic, FitsSchema, HasNumbers, HasCounts, HoldsRole, AreCells, AreNumbers, first_list, public_count, numbered}

-- the first of numbered columns holds what its role says
numbered_holds : (r : Role) (list : List ℤ) (later : List Cells) (others : List Cells) → r ≢ role.Text → r ≢ role.Count → HoldsRole r (get_or (cond (is_secret r) (hidden ∷ later) (numbers list ∷ others)) 0 hidden)
numbered_holds role.Text list later others no_text no_count = absurd (no_text refl)
numbered_holds role.Number list later others no_text no_count = tt
numbered_holds role.Count list later others no_text no_count = absurd (no_count refl)
numbered_holds role.Sum list later others no_text no_count = refl
numbered_holds role.Max list later others no_text no_count = refl
numbered_holds role.Min list later others no_text no_count = refl

-- a later column does, whichever came first
numbered_later : (b : Bool) (r : Role) (first second : Cells) (xs ys : List Cells) (place : ℕ) → HoldsRole r (get_or xs place hidden) → HoldsRole r (get_or ys place hidden)
    → HoldsRole r (get_or (cond b (first ∷ xs) (second ∷ ys)) (suc place) hidden)
numbered_later true r first second xs ys place one other = one
numbered_later false r first second xs ys place one other = other

-- columns with lists of numbers fit a schema without texts
pub numbered_fit : (cs : List Column) (lists : List (List ℤ)) (place : ℕ) (r : Role) → AllByRecursion (λ c. c.role ≢ role.Text) cs → AllByRecursion (λ c. c.role ≢ role.Count) cs → role_at cs place ≡ Some r → HoldsRole r (get_or (numbered cs lists) place hidden)
numbered_fit [] lists place r no_texts no_counts is = absurd (cc)
numbered_fit (c ∷ cs) lists zero r no_texts no_counts is =
    let same : c.role ≡ r = ap (λ o. unwrap_or o r) is in
    let P : Role → Type 0 = λ x. HoldsRole x (get_or (numbered (c ∷ cs) lists) 0 hidden) in
    subst P same (numbered_holds c.role (first_list lists) (numbered cs lists) (numbered cs (drop 1 lists)) no_texts.0 no_counts.0)
numbered_fit (c ∷ cs) lists (suc place) r no_texts no_counts is =
    numbered_later (is_secret c.role) r hidden (numbers (first_list lists)) (numbered cs lists) (numbered cs (drop 1 lists)) place
    (numbered_fit cs lists place r no_texts.1 no_counts.1 is) (numbered_fit cs (drop 1 lists) place r no_texts.1 no_counts.1 is)

-- one public column more
count_more : (c : Column) (cs : List Column) → public_count (c ∷ cs) ≡ cond (is_public c.role) 1 0 + public_count cs
count_more c cs = sum_by-cons (λ d. cond (is_public d.role) 1 0) c cs

-- one column more has a cell for each row
numbered_one : (n : ℕ) (b : Bool) (c : Column) (cs : List Column) (lists : List (List ℤ)) → length lists ≡ cond b 1 0 + public_count cs → AllByRecursion (AreNumbers n) lists
    → ((lists : List (List ℤ)) → length lists ≡ public_count cs → AllByRecursion (AreNumbers n) lists → AllByRecursion (AreCells n) (numbered cs lists))
    → AllByRecursion (AreCells n) (cond (not b) (hidden ∷ numbered cs lists) (numbers (first_list lists) ∷ numbered cs (drop 1 lists)))
numbered_one n true c cs [] same all later = absurd (omega (arith, same))
numbered_one n true c cs (w ∷ lists) same all later = (all.0, later lists (omega (arith, same)) all.1)
numbered_one n false c cs lists same all later = (tt, later lists (omega (arith, same)) all)

-- columns with lists of numbers have a cell for each row
pub numbered_are : (n : ℕ) (cs : List Column) (lists : List (List ℤ)) → length lists ≡ public_count cs → AllByRecursion (AreNumbers n) lists → AllByRecursion (AreCells n) (numbered cs lists)
numbered_are n [] lists same all = tt
numbered_are n (c ∷ cs) lists same all = numbered_one n (is_public c.role) c cs lists (same ∙ count_more c cs) all (numbered_are n cs)

-- lists without the first, seen as numbers
one_less : (lists : List (Vec ℤ Global)) → drop 1 (map (λ (v : Vec ℤ Global). v.items) lists) ≡ map (λ (v : Vec ℤ Global). v.items) (drop 1 lists)
one_less [] = refl
one_less (w ∷ lists) = refl

-- the column that was made, and those of the lists that are left
next_step : (public : Bool) (cs : List Column) (lists left : List (Vec ℤ Global)) (kept : Cells)
    → kept ≡ cond (not public) hidden (numbers (first_list (map (λ (v : Vec ℤ Global). v.items) lists))) → left ≡ cond (not public) lists (drop 1 lists)
    → cond (not public) (hidden ∷ numbered cs (map (λ (v : Vec ℤ Global). v.items) lists)) (numbers (first_list (map (λ (v : Vec ℤ Global). v.items) lists)) ∷ numbered cs (drop 1 (map (λ (v : Vec ℤ Global). v.items) lists)))
    ≡ kept ∷ numbered cs (map (λ (v : Vec ℤ Global). v.items) left)
next_step true cs lists left kept is rest =
    ap (λ x. x ∷ numbered cs (drop 1 (map (λ (v : Vec ℤ Global). v.items) lists))) (sym is) ∙ ap (λ ls. kept ∷ numbered cs ls) (one_less lists ∙ ap (map (λ (v : Vec ℤ Global). v.items)) (sym rest))
next_step false cs lists left kept is rest =
    ap (λ x. x ∷ numbered cs (map (λ (v : Vec ℤ Global). v.items) lists)) (sym is) ∙ ap (λ ls. kept ∷ numbered cs (map (λ (v : Vec ℤ Global). v.items) ls)) (sym rest)

-- the columns from a place of the schema on, by the column that was made there and the lists that are left
pub numbered_next : (cs : List Column) (place : ℕ) (r : Role) (lists left : List (Vec ℤ Global)) (kept : Cells) → place < length cs → Some r ≡ role_at cs place
    → kept ≡ cond (is_secret r) hidden (numbers (first_list (map (λ (v : Vec ℤ Global). v.items) lists))) → left ≡ cond (is_secret r) lists (drop 1 lists)
    → numbered (drop place cs) (map (λ (v : Vec ℤ Global). v.items) lists) ≡ kept ∷ numbered (drop (place + 1) cs) (map (λ (v : Vec ℤ Global). v.items) left)
numbered_next cs place r lists left kept within is made rest =
    let h = here cs place within in
    let items = map (λ (v : Vec ℤ Global). v.items) lists in
    ap (λ columns. numbered columns items) h.from_here
    ∙ ap (λ x. cond (is_secret x) (hidden ∷ numbered (drop (place + 1) cs) items) (numbers (first_list items) ∷ numbered (drop (place + 1) cs) (drop 1 items))) (sym (role_is cs place h r is))
    ∙ next_step (is_public r) (drop (place + 1) cs) lists left kept made rest

-- the public columns from a place of the schema on
pub count_from : (cs : List Column) (place : ℕ) (r : Role) → place < length cs → Some r ≡ role_at cs place → public_count (drop place cs) ≡ cond (is_public r) 1 0 + public_count (drop (place + 1) cs)
count_from cs place r within is =
    let h = here cs place within in
    ap public_count h.from_here ∙ count_more h.column (drop (place + 1) cs) ∙ ap (λ x. cond (is_public x) 1 0 + public_count (drop (place + 1) cs)) (sym (role_is cs place h r is))

-- as many lists are left after one column more
left_step : (public : Bool) (n : ℕ) (lists left : List (Vec ℤ Global)) → length lists ≡ cond public 1 0 + n → left ≡ cond (not public) lists (drop 1 lists) → length left ≡ n
left_step true n lists left same rest = omega (arith, same, ap length rest, length-drop 1 lists)
left_step false n lists left same rest = omega (arith, same, ap length rest)

-- as many lists are left as public columns
pub left_enough : (cs : List Column) (place : ℕ) (r : Role) (lists left : List (Vec ℤ Global)) → place < length cs → Some r ≡ role_at cs place → length lists ≡ public_count (drop place cs)
    → left ≡ cond (is_secret r) lists (drop 1 lists) → length left ≡ public_count (drop (place + 1) cs)
left_enough cs place r lists left within is same rest = left_step (is_public r) (public_count (drop (place + 1) cs)) lists left (same ∙ count_from cs place r within is) rest

-- a list is left for a public column
pub one_left : (cs : List Column) (place : ℕ) (r : Role) (lists : List (Vec ℤ Global)) → place < length cs → Some r ≡ role_at cs place → length lists ≡ public_count (drop place cs) → is_secret r ≡ false → 0 < length lists
one_left cs place r lists within is same public =
    let one : cond (is_public r) 1 0 ≡ 1 = ap {B = ℕ} (λ b. cond b 1 0) (not-false (is_public r) public) in
    omega (arith, same, count_from cs place r within is, one)

-- ---- the count

-- a column has a cell for each row, unless it is hidden
cells_there : (n : ℕ) (columns : List Cells) (place : ℕ) → AllByRecursion (AreCells n) columns → AreCells n (get_or columns place hidden)
cells_there n [] place all = tt
cells_there n (c ∷ columns) zero all = all.0
cells_there n (c ∷ columns) (suc place) all = cells_there n columns place all.1

-- a column of numbers has one in range for each row
are_numbers : (n : ℕ) (cells : Cells) → AreCells n cells → HasNumbers cells → AreNumbers n (numbers_of cells)
are_numbers n hidden are has = absurd has
are_numbers n (numbers xs) are has = are
are_numbers n (texts ts) are has = absurd has

-- so does that of a table's public part
pub numbers_there : (p : PublicView) (place : ℕ) → IsPublic p → HasNumbers (cells_at p place) → AreNumbers p.rows (numbers_of (cells_at p place))
numbers_there p place is has = are_numbers p.rows (cells_at p place) (cells_there p.rows p.columns place is.columns) has

-- numbers above 0 have sizes above 0
sizes_above : (list : List ℤ) → AllByRecursion (λ z. pos 0 <ℤ z) list → AllByRecursion (λ count. 0 < count) (map unsigned_abs list)
sizes_above [] all = tt
sizes_above (z ∷ list) all = (omega (arith, ints, all.0), sizes_above list all.1)

-- behind each row is somebody, and there is a count for each row or none
pub somebody_everywhere : (columns : List Column) (p : PublicView) → FitsSchema columns p → IsPublic p →
    AllByRecursion (λ count. 0 < count) (counts_of columns p) × (counts_of columns p ≢ [] → length (counts_of columns p) ≡ p.rows)
somebody_everywhere columns p fits is = by (people_place columns) (λ place found. fits place role.Count (people_is_count columns place found))
  where
    counted : Option ℕ → List ℕ
    counted place = unwrap_or (option_map (λ k. map unsigned_abs (numbers_of (cells_at p k))) place) []

    by : (place : Option ℕ) → ((k : ℕ) → place ≡ Some k → HasCounts (cells_at p k)) →
        AllByRecursion (λ count. 0 < count) (counted place) × (counted place ≢ [] → length (counted place) ≡ p.rows)
    by None has = (tt, λ some. absurd (some refl))
    by (Some k) has =
        let counts = has k refl in
        let list = numbers_of (cells_at p k) in
        (sizes_above list counts.1, λ some. length-map list unsigned_abs ∙ (numbers_there p k is counts.0).one_each)
