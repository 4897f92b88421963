-- A row compares so with a literal if its value's order to the literal passes.
use Rattle.std.proofs.Common.{◌≡◌, ℕ, ℤ, pos, negsuc, Bool, true, false, cond, ◌&&◌, ◌||◌, not, List, [], get_or, int_lt, int_le, refl, sym, ap, subst, ◌∙◌, arith, ◌⊎◌, inl, inr}
use Rattle.std.proofs.lemmas.Bool.Decides.{nat_tests}
use Rattle.std.specs.Cmp.Lexicographic.{slice_cmp, texts_ties}
use Rattle.std.specs.Ordering.{int_cmp, is_eq, is_ge, is_gt, is_le, is_lt, nat_cmp}
use Rattle.std.specs.declared.cmp.Ordering.{Ordering}
use Rattle.std.specs.declared.cmp.Ordering.TheVariants.{Less, Equal, Greater}
use Rattle.predicate_lang.specs.Meaning.{compares, compares_text}
use Rattle.predicate_lang.specs.declared.trees.Op.{Op}
use Rattle.predicate_lang.specs.declared.trees.Op.TheVariants.{Eq, Ne, Lt, Le, Gt, Ge}
use Rattle.predicate_lang.specs.declared.trees.Literal.TheVariants.{Number, Text}
use Rattle.table_load.specs.Cells.{PublicView, Cells, numbers, texts, numbers_of, texts_of, cells_at}
use Rattle.audit_types.specs.Rows.{complement, rows_that}
use Rattle.audit_types.specs.RowLaws.{rows_that_agree, rows_that_none}
use Rattle.set_index.specs.Asked.{meets}
use Rattle.set_index.specs.Ranges.{IsRange}
use Rattle.set_index.proofs.Sets.{complement_of}

is_lt-cond : (p q : Bool) → p ≡ is_lt (cond p Less (cond q Greater Equal))
is_lt-cond true q = refl
is_lt-cond false true = refl
is_lt-cond false false = refl

is_le-cond : (p q : Bool) → (p || not q) ≡ is_le (cond p Less (cond q Greater Equal))
is_le-cond true q = refl
is_le-cond false true = refl
is_le-cond false false = refl

is_gt-cond : (p q : Bool) → (not p && q) ≡ is_gt (cond p Less (cond q Greater Equal))
is_gt-cond true q = refl
is_gt-cond false true = refl
is_gt-cond false false = refl

is_ge-cond : (p q : Bool) → not p ≡ is_ge (cond p Less (cond q Greater Equal))
is_ge-cond true q = refl
is_ge-cond false true = refl
is_ge-cond false false = refl

int_le-tests : (x y : ℤ) → int_le x y ≡ (int_lt x y || not (int_lt y x))
int_le-tests (pos a) (pos b) = grind (arith, nat_tests)
int_le-tests (pos a) (negsuc b) = refl
int_le-tests (negsuc a) (pos b) = refl
int_le-tests (negsuc a) (negsuc b) = grind (arith, nat_tests)

int_lt-tests : (x y : ℤ) → int_lt y x ≡ (not (int_lt x y) && int_lt y x)
int_lt-tests (pos a) (pos b) = grind (arith, nat_tests)
int_lt-tests (pos a) (negsuc b) = refl
int_lt-tests (negsuc a) (pos b) = refl
int_lt-tests (negsuc a) (negsuc b) = grind (arith, nat_tests)

int_le-not : (x y : ℤ) → int_le y x ≡ not (int_lt x y)
int_le-not (pos a) (pos b) = grind (arith, nat_tests)
int_le-not (pos a) (negsuc b) = refl
int_le-not (negsuc a) (pos b) = refl
int_le-not (negsuc a) (negsuc b) = grind (arith, nat_tests)

-- whether what compares so passes
abbrev pub answers : Op → Ordering → Bool
answers Eq o = is_eq o
answers Ne o = not (is_eq o)
answers Lt o = is_lt o
answers Le o = is_le o
answers Gt o = is_gt o
answers Ge o = is_ge o

answers-int : (o : Op) (x y : ℤ) → answers o (int_cmp x y) ≡ compares o x y
answers-int Eq x y = refl
answers-int Ne x y = refl
answers-int Lt x y = sym (is_lt-cond (int_lt x y) (int_lt y x))
answers-int Le x y = sym (int_le-tests x y ∙ is_le-cond (int_lt x y) (int_lt y x))
answers-int Gt x y = sym (int_lt-tests x y ∙ is_gt-cond (int_lt x y) (int_lt y x))
answers-int Ge x y = sym (int_le-not x y ∙ is_ge-cond (int_lt x y) (int_lt y x))

-- a column of numbers
meets-numbers : (p : PublicView) (place n : ℕ) (o : Op) (number : ℤ) (list : List ℤ) (rows : List ℕ) → cells_at p place ≡ numbers list → n ≡ p.rows →
    rows ≡ rows_that (λ r. answers o (int_cmp (get_or list r (pos 0)) number)) n → rows ≡ meets p place o (Number number)
meets-numbers p place n o number list rows is same met =
    met ∙ ap (rows_that (λ r. answers o (int_cmp (get_or list r (pos 0)) number))) same
    ∙ rows_that_agree (λ r. answers o (int_cmp (get_or list r (pos 0)) number))
    (λ r. compares o (get_or (numbers_of (cells_at p place)) r (pos 0)) number) p.rows
    (λ r low. answers-int o (get_or list r (pos 0)) number ∙ ap (λ (cells : Cells). compares o (get_or (numbers_of cells) r (pos 0)) number) (sym is))

-- as a search finds them in an order
pub numbers_found : (p : PublicView) (place n : ℕ) (o : Op) (number : ℤ) (list : List ℤ) (searched order rows : List ℕ) (from to : ℕ) →
    cells_at p place ≡ numbers list → n ≡ p.rows → searched ≡ order →
    IsRange (λ r. answers o (int_cmp (get_or list r (pos 0)) number)) searched from to →
    ((test : ℕ → Bool) → IsRange test order from to → rows ≡ rows_that test n) → rows ≡ meets p place o (Number number)
numbers_found p place n o number list searched order rows from to is same it range met =
    meets-numbers p place n o number list rows is same
    (met _ (subst (λ xs. IsRange (λ r. answers o (int_cmp (get_or list r (pos 0)) number)) xs from to) it range))

-- the numbers that are not equal
pub numbers_unequal : (p : PublicView) (place n : ℕ) (number : ℤ) (old new : List ℕ) → old ≡ meets p place Eq (Number number) → n ≡ p.rows →
    new ≡ complement n old → new ≡ meets p place Ne (Number number)
numbers_unequal p place n number old new met same flipped =
    flipped ∙ ap (λ m. complement m old) same ∙ ap (complement p.rows) met
    ∙ complement_of p.rows (λ r. compares Eq (get_or (numbers_of (cells_at p place)) r (pos 0)) number)

-- a column of texts
meets-texts : (p : PublicView) (place n : ℕ) (text : List ℕ) (list : List (List ℕ)) (rows : List ℕ) → cells_at p place ≡ texts list → n ≡ p.rows →
    rows ≡ rows_that (λ r. is_eq (slice_cmp nat_cmp (get_or list r []) text)) n → rows ≡ meets p place Eq (Text text)
meets-texts p place n text list rows is same met =
    met ∙ ap (rows_that (λ r. is_eq (slice_cmp nat_cmp (get_or list r []) text))) same
    ∙ rows_that_agree (λ r. is_eq (slice_cmp nat_cmp (get_or list r []) text)) (λ r. compares_text Eq (get_or (texts_of (cells_at p place)) r []) text) p.rows
    (λ r low. sym (texts_ties (get_or list r []) text) ∙ ap (λ (cells : Cells). compares_text Eq (get_or (texts_of cells) r []) text) (sym is))

-- as a search finds them in an order
pub texts_found : (p : PublicView) (place n : ℕ) (text : List ℕ) (list : List (List ℕ)) (searched order rows : List ℕ) (from to : ℕ) →
    cells_at p place ≡ texts list → n ≡ p.rows → searched ≡ order →
    IsRange (λ r. is_eq (slice_cmp nat_cmp (get_or list r []) text)) searched from to →
    ((test : ℕ → Bool) → IsRange test order from to → rows ≡ rows_that test n) → rows ≡ meets p place Eq (Text text)
texts_found p place n text list searched order rows from to is same it range met =
    meets-texts p place n text list rows is same (met _ (subst (λ xs. IsRange (λ r. is_eq (slice_cmp nat_cmp (get_or list r []) text)) xs from to) it range))

-- the texts that are not equal
pub texts_unequal : (p : PublicView) (place n : ℕ) (text old new : List ℕ) → old ≡ meets p place Eq (Text text) → n ≡ p.rows → new ≡ complement n old →
    new ≡ meets p place Ne (Text text)
texts_unequal p place n text old new met same flipped =
    flipped ∙ ap (λ m. complement m old) same ∙ ap (complement p.rows) met
    ∙ complement_of p.rows (λ r. compares_text Eq (get_or (texts_of (cells_at p place)) r []) text)

-- whether it asks for an order
abbrev pub IsOrdered : Op → Type 0
IsOrdered o = (o ≡ Lt) ⊎ ((o ≡ Le) ⊎ ((o ≡ Gt) ⊎ (o ≡ Ge)))

never : (o : Op) (x y : List ℕ) → IsOrdered o → compares_text o x y ≡ false
never o x y (inl is) = ap (λ q. compares_text q x y) is
never o x y (inr (inl is)) = ap (λ q. compares_text q x y) is
never o x y (inr (inr (inl is))) = ap (λ q. compares_text q x y) is
never o x y (inr (inr (inr is))) = ap (λ q. compares_text q x y) is

-- texts have no order
pub meets_none : (p : PublicView) (place : ℕ) (o : Op) (text rows : List ℕ) → IsOrdered o → rows ≡ [] → rows ≡ meets p place o (Text text)
meets_none p place o text rows is none =
    none
    ∙ sym (rows_that_none (λ r. compares_text o (get_or (texts_of (cells_at p place)) r []) text) p.rows
    (λ r low. never o (get_or (texts_of (cells_at p place)) r []) text is))
