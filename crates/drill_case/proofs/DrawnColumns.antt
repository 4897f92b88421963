-- The numbers of a drill's columns, row by row, and that they are those of a table.
use Rattle.std.proofs.Common.{◌≡◌, ℕ, zero, suc, ◌+◌, ◌*◌, ◌≤◌, ◌<◌, ◌%◌, ℤ, pos, true, not, List, [], ◌∷◌, ◌++◌, length, map, Vec, Global, IfOk, Result, Ok, Err, None, refl, sym, ap, ◌∙◌, subst, arith}
use Rattle.std.specs.List.{AllByRecursion, range_with_len}
use Rattle.std.proofs.lemmas.Bool.{le-ltb}
use Rattle.std.proofs.lemmas.List.FromFn.{length-map-range_with_len, map-range_with_len_more}
use Rattle.audit_types.specs.Limits.{most_rows}
use Rattle.schema_json.specs.Columns.{Column}
use Rattle.table_load.specs.Cells.{AreLists, AreNumbers, FitsSchema, PublicView, first_list, numbered, whole}
use Rattle.table_load.specs.Numerals.{in_range}
use Rattle.drill_case.specs.Draws.{draw}
use Rattle.drill_case.specs.Tables.{drill_rows, drill_columns, drill_public, drawn, bands, ages, pays, bests}

-- one row more has one number more
pub grows : (number which rows d : ℕ) (of_draw : ℕ → ℕ) (old new : List ℤ) → old ≡ drawn number which of_draw rows → new ≡ old ++ pos (of_draw d) ∷ [] →
    d ≡ draw number (4 * rows + which) → new ≡ drawn number which of_draw (rows + 1)
grows number which rows d of_draw old new had is at =
    is ∙ (λ i. had i ++ pos (of_draw (at i)) ∷ [])
    ∙ sym (map-range_with_len_more (λ row. pos (of_draw (draw number (4 * row + which)))) 0 rows rows (omega arith))

-- numbers from 0 on
pub from_zero : (number which span rows : ℕ) → drawn number which (λ d. 0 + d % span) rows ≡ drawn number which (λ d. d % span) rows
from_zero number which span rows =
    let same : (d : ℕ) → 0 + d % span ≡ d % span = λ d. omega arith in
    λ i. drawn number which (λ d. same d i) rows

-- the lists that two vectors hold
pub pair_of : {vectors : List (Vec ℤ Global)} {first second : Vec ℤ Global} {one two : List ℤ} → vectors ≡ first ∷ second ∷ []
    → first.items ≡ one → second.items ≡ two → map (λ (v : Vec ℤ Global). v.items) vectors ≡ one ∷ two ∷ []
pair_of are one two = ap (map (λ (v : Vec ℤ Global). v.items)) are ∙ (λ i. one i ∷ two i ∷ [])

within : (f : ℕ → ℤ) → ((k : ℕ) → in_range (f k) ≡ true) → (start count : ℕ) → AllByRecursion (λ z. in_range z ≡ true) (map f (range_with_len start count))
within f each start zero = tt
within f each start (suc count) = (each start, within f each (start + 1) count)

-- small numbers are in range
small : (n : ℕ) → n ≤ 100000 → in_range (pos n) ≡ true
small n is = ap not (le-ltb 1000000000000 n (omega (arith, is)))

are_numbers : (number which : ℕ) (of_draw : ℕ → ℕ) → ((d : ℕ) → of_draw d ≤ 100000) → (rows : ℕ) → AreNumbers rows (drawn number which of_draw rows)
are_numbers number which of_draw least rows = record {
  one_each = length-map-range_with_len (λ row. pos (of_draw (draw number (4 * row + which)))) 0 rows;
  within =
      within (λ row. pos (of_draw (draw number (4 * row + which))))
      (λ row. small (of_draw (draw number (4 * row + which))) (least (draw number (4 * row + which)))) 0 rows;
}

public_numbers : (number rows : ℕ) → AllByRecursion (AreNumbers rows) (bands number rows ∷ ages number rows ∷ [])
public_numbers number rows = (are_numbers number 0 (λ d. d % 8) (λ d. omega arith) rows, (are_numbers number 1 (λ d. 20 + d % 50) (λ d. omega arith) rows, tt))

-- a drill has rows
pub some_rows : 0 < drill_rows
unfolding drill_rows
some_rows = omega arith

-- and no more than a table may have
pub few_rows : drill_rows ≤ most_rows
unfolding drill_rows
few_rows = omega arith

-- the public columns are lists of numbers
are_lists : (number rows : ℕ) → 0 < rows → rows ≤ most_rows → AreLists drill_columns (bands number rows ∷ ages number rows ∷ [])
are_lists number rows some most =
    let long : length (bands number rows) ≡ rows = (public_numbers number rows).0.one_each in
    record {
      no_texts = (λ is. cc, (λ is. cc, (λ is. cc, (λ is. cc, tt))));
      no_counts = (λ is. cc, (λ is. cc, (λ is. cc, (λ is. cc, tt))));
      one_each = refl;
      some = omega (arith, long, some);
      at_most = omega (arith, long, most);
      numbers = subst (λ (n : ℕ). AllByRecursion (AreNumbers n) (bands number rows ∷ ages number rows ∷ [])) (sym long) (public_numbers number rows);
    }

pub lists_fit : (number rows : ℕ) (columns : List Column) (lists : List (List ℤ)) → 0 < rows → rows ≤ most_rows → columns ≡ drill_columns →
    lists ≡ bands number rows ∷ ages number rows ∷ [] → AreLists columns lists
lists_fit number rows columns lists some most schema are =
    subst (λ (cs : List Column). AreLists cs lists) (sym schema)
    (subst (λ (ls : List (List ℤ)). AreLists drill_columns ls) (sym are) (are_lists number rows some most))

-- the secret columns are numbers
pub secrets_fit : (number rows : ℕ) (lists : List (List ℤ)) → lists ≡ pays number rows ∷ bests number rows ∷ [] → AllByRecursion (AreNumbers rows) lists
secrets_fit number rows lists are =
    subst (λ (ls : List (List ℤ)). AllByRecursion (AreNumbers rows) ls) (sym are)
    (are_numbers number 2 (λ d. d % 100000) (λ d. omega arith) rows, (are_numbers number 3 (λ d. d % 1000) (λ d. omega arith) rows, tt))

-- the public part with these lists is that of the drill
pub public_part : {E : Type 0} (number : ℕ) (columns : List Column) (lists : List (List ℤ)) (part : Result PublicView E)
    → columns ≡ drill_columns → lists ≡ bands number drill_rows ∷ ages number drill_rows ∷ [] → IfOk part (λ p. p.rows ≡ length (first_list lists))
    → IfOk part (λ p. p.columns ≡ numbered columns lists) → IfOk part (λ p. whole p ≡ p) → IfOk part (λ p. FitsSchema columns p)
    → IfOk part (λ p. (p ≡ drill_public number) × FitsSchema drill_columns p)
public_part number columns lists (Err fault) schema are long cells all fits = tt
public_part number columns lists (Ok part) schema are long cells all fits =
    let counted : part.rows ≡ drill_rows =
    long ∙ ap (λ ls. length (first_list ls)) are ∙ length-map-range_with_len (λ row. pos (draw number (4 * row + 0) % 8)) 0 drill_rows in
    let held : part.columns ≡ numbered drill_columns (bands number drill_rows ∷ ages number drill_rows ∷ []) = cells ∙ (λ i. numbered (schema i) (are i)) in
    let none : part.only ≡ None = ap (λ (p : PublicView). p.only) (sym all) in
    ((λ i. record { rows = counted i; columns = held i; only = none i }), subst (λ (cs : List Column). FitsSchema cs part) schema fits)
