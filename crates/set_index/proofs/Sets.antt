-- Sets of rows that pass tests: combined, they pass the combined test.
use Rattle.std.proofs.Common.{◌≡◌, ℕ, ◌+◌, ◌<◌, Bool, true, false, ◌&&◌, ◌||◌, not, List, [], ◌∷◌, ◌++◌, length, take, get_or, refl, sym, ap, ◌∙◌}
use Rattle.std.specs.Prelude.{Option, Some, None, IfSome, option_map}
use Rattle.std.specs.List.{list_any}
use Rattle.std.proofs.lemmas.List.{take_more}
use Rattle.std.proofs.Math.Bool.{and_comm}
use Rattle.table_load.specs.Cells.{PublicView}
use Rattle.predicate_lang.specs.Meaning.{compares_cell, satisfies}
use Rattle.predicate_lang.specs.Trees.{Tree, negation, both, either}
use Rattle.predicate_lang.specs.declared.trees.Op.TheVariants.{Eq}
use Rattle.predicate_lang.specs.declared.trees.Literal.{Literal}
use Rattle.set_index.specs.Asked.{row_at, satisfying, is_asked, meaning, meets, meets_any}
use Rattle.audit_types.specs.Rows.{Rows, has_row, rows_that, intersection, union, complement}
use Rattle.audit_types.specs.RowLaws.{rows_that_agree, has-rows_that, rows_that_none}

-- the rows that don't pass
pub complement_of : (n : ℕ) (f : ℕ → Bool) → complement n (rows_that f n) ≡ rows_that (λ r. not (f r)) n
complement_of n f = rows_that_agree (λ r. not (has_row (rows_that f n) r)) (λ r. not (f r)) n (λ r low. ap not (has-rows_that f n r low))

-- the rows that pass both
pub both_of : (n : ℕ) (f g : ℕ → Bool) → intersection n (rows_that f n) (rows_that g n) ≡ rows_that (λ r. f r && g r) n
both_of n f g =
    rows_that_agree (λ r. has_row (rows_that f n) r && has_row (rows_that g n) r) (λ r. f r && g r) n
    (λ r low. ap (λ b. b && has_row (rows_that g n) r) (has-rows_that f n r low) ∙ ap (λ b. f r && b) (has-rows_that g n r low))

-- the rows that pass one of them
pub either_of : (n : ℕ) (f g : ℕ → Bool) → union n (rows_that f n) (rows_that g n) ≡ rows_that (λ r. f r || g r) n
either_of n f g =
    rows_that_agree (λ r. has_row (rows_that f n) r || has_row (rows_that g n) r) (λ r. f r || g r) n
    (λ r low. ap (λ b. b || has_row (rows_that g n) r) (has-rows_that f n r low) ∙ ap (λ b. f r || b) (has-rows_that g n r low))

-- ---- the rows whose cell is one of the literals so far

pub met_none : (p : PublicView) (place : ℕ) → meets_any p place [] ≡ []
met_none p place = rows_that_none (λ r. false) p.rows (λ r low. refl)

any_more : (f : Literal → Bool) (ls : List Literal) (l : Literal) → (list_any f ls || f l) ≡ list_any f (ls ++ l ∷ [])
any_more f [] l = or_comm_false (f l)
  where
    or_comm_false : (b : Bool) → b ≡ (b || false)
    or_comm_false true = refl
    or_comm_false false = refl
any_more f (k ∷ ls) l = go (f k) (any_more f ls l)
  where
    go : (b : Bool) → (list_any f ls || f l) ≡ list_any f (ls ++ l ∷ []) → ((b || list_any f ls) || f l) ≡ (b || list_any f (ls ++ l ∷ []))
    go true rest = refl
    go false rest = rest

pub met_more : (p : PublicView) (place m i : ℕ) (ls : List Literal) (l : Literal) (old one new : List ℕ) → i < length ls → l ≡ get_or ls i l → m ≡ p.rows →
    old ≡ meets_any p place (take i ls) → one ≡ meets p place Eq l → new ≡ union m old one → new ≡ meets_any p place (take (i + 1) ls)
met_more p place m i ls l old one new inside is same met here added =
    added ∙ ap (λ n. union n old one) same ∙ ap (λ rows. union p.rows rows one) met ∙ ap (union p.rows (meets_any p place (take i ls))) here
    ∙ either_of p.rows (λ r. list_any (compares_cell (row_at p r) place Eq) (take i ls)) (λ r. compares_cell (row_at p r) place Eq l)
    ∙ rows_that_agree (λ r. list_any (compares_cell (row_at p r) place Eq) (take i ls) || compares_cell (row_at p r) place Eq l)
    (λ r. list_any (compares_cell (row_at p r) place Eq) (take (i + 1) ls)) p.rows
    (λ r low. any_more (compares_cell (row_at p r) place Eq) (take i ls) l
    ∙ ap (λ ks. list_any (compares_cell (row_at p r) place Eq) ks) (sym (take_more ls i l inside ∙ ap (λ k. take i ls ++ k ∷ []) (sym is))))

-- ---- what the parts mean, the whole means

pub not_meant : (p : PublicView) (t : Tree) (m : ℕ) (old new : List ℕ) → old ≡ satisfying p t → m ≡ p.rows → new ≡ complement m old → new
    ≡ satisfying p (negation t)
not_meant p t m old new meant same flipped =
    flipped ∙ ap (λ n. complement n old) same ∙ ap (complement p.rows) meant ∙ complement_of p.rows (λ r. satisfies (row_at p r) t)

pub both_meant : (p : PublicView) (t u : Tree) (m : ℕ) (left right new : List ℕ) → left ≡ satisfying p t → right ≡ satisfying p u → m ≡ p.rows →
    new ≡ intersection m left right → new ≡ satisfying p (both t u)
both_meant p t u m left right new first second same joined =
    joined ∙ ap (λ n. intersection n left right) same ∙ ap (λ xs. intersection p.rows xs right) first ∙ ap (intersection p.rows (satisfying p t)) second
    ∙ both_of p.rows (λ r. satisfies (row_at p r) t) (λ r. satisfies (row_at p r) u)

pub either_meant : (p : PublicView) (t u : Tree) (m : ℕ) (left right new : List ℕ) → left ≡ satisfying p t → right ≡ satisfying p u → m ≡ p.rows →
    new ≡ union m left right → new ≡ satisfying p (either t u)
either_meant p t u m left right new first second same joined =
    joined ∙ ap (λ n. union n left right) same ∙ ap (λ xs. union p.rows xs right) first ∙ ap (union p.rows (satisfying p t)) second
    ∙ either_of p.rows (λ r. satisfies (row_at p r) t) (λ r. satisfies (row_at p r) u)

-- of the rows that may be asked of, those that satisfy a condition
pub only_meant : (p : PublicView) (t : Tree) (m : ℕ) (only rows new : List ℕ) → rows ≡ satisfying p t → m ≡ p.rows → new ≡ intersection m rows only →
    new ≡ rows_that (λ r. has_row only r && satisfies (row_at p r) t) p.rows
only_meant p t m only rows new meant same cut =
    cut ∙ ap (λ n. intersection n rows only) same ∙ ap (λ xs. intersection p.rows xs only) meant
    ∙ rows_that_agree (λ r. has_row (satisfying p t) r && has_row only r) (λ r. has_row only r && satisfies (row_at p r) t) p.rows
    (λ r low. and_comm (has_row (satisfying p t) r) (has_row only r)
    ∙ ap (λ b. has_row only r && b) (has-rows_that (λ q. satisfies (row_at p q) t) p.rows r low))

-- so the rows of a condition are those of a search, of those that may be asked of
pub asked_meant : (p : PublicView) (t : Tree) (only : Option Rows) (n : ℕ) (rows result : List ℕ) → p.only ≡ option_map (λ set. set.list) only → rows
    ≡ satisfying p t →
    n ≡ p.rows → (only ≡ None → result ≡ rows) → IfSome only (λ set. result ≡ intersection n rows set.list) → result ≡ meaning p t
asked_meant p t None n rows result is meant same all cut =
    all refl ∙ meant ∙ ap (λ o. rows_that (λ r. is_asked o r && satisfies (row_at p r) t) p.rows) (sym is)
asked_meant p t (Some set) n rows result is meant same all cut =
    only_meant p t n set.list rows result meant same cut ∙ ap (λ o. rows_that (λ r. is_asked o r && satisfies (row_at p r) t) p.rows) (sym is)
