-- An index keeps an order for each column, if one was made for each in turn.
use Rattle.std.proofs.Common.{◌≡◌, ℕ, ◌+◌, ◌<◌, List, [], ◌∷◌, ◌++◌, length, map, get_or, Option, None, sym, ap, subst, ◌∙◌, arith, inl, inr}
use Rattle.std.proofs.lemmas.Bool.{cases_lt}
use Rattle.std.proofs.lemmas.List.{get_or_append_left, get_or_past, get_or_push, get_or-map, length-map}
use Rattle.table_load.specs.Cells.{PublicView, hidden, cells_at}
use Rattle.table_load.specs.Kept.{cells_kept}
use Rattle.table_load.specs.declared.publics.Column.{Column}
use Rattle.table_load.specs.declared.publics.Column.TheVariants.{Hidden}
use Rattle.set_index.specs.Marks.{SortedView, SortsColumn}

-- the columns below a count have their orders
abbrev pub SortsBelow : ℕ → List Column → List (Option SortedView) → ℕ → Type 0
SortsBelow n items orders i = (k : ℕ) → k < i → SortsColumn n (cells_kept (get_or items k Hidden)) (get_or orders k None)

pub sorts_more : (n : ℕ) (items : List Column) (orders new : List (Option SortedView)) (i : ℕ) (column : Column) (one : Option SortedView) →
    length orders ≡ i → SortsBelow n items orders i → column ≡ get_or items i Hidden → SortsColumn n (cells_kept column) one → new ≡ orders ++ one ∷ [] →
    SortsBelow n items new (i + 1)
sorts_more n items orders new i column one long before is here more k low = elim (cases_lt k i) [
  | inl l ↦ subst (SortsColumn n (cells_kept (get_or items k Hidden)))
      (sym (ap (λ xs. get_or xs k None) more ∙ get_or_append_left orders (one ∷ []) None k (omega arith))) (before k l)
  | inr h ↦
      let last : i ≡ k = omega arith in
      subst (SortsColumn n (cells_kept (get_or items k Hidden))) (sym (ap (λ xs. get_or xs k None) more ∙ get_or_push orders one None k (omega arith)))
      (subst (λ j. SortsColumn n (cells_kept (get_or items j Hidden)) one) last (subst (λ c. SortsColumn n (cells_kept c) one) is here))
]

pub sorts_all : (p : PublicView) (items : List Column) (orders : List (Option SortedView)) → map cells_kept items ≡ p.columns → length orders ≡ length items →
    SortsBelow p.rows items orders (length items) → (place : ℕ) → SortsColumn p.rows (cells_at p place) (get_or orders place None)
sorts_all p items orders kept long each place = elim (cases_lt place (length items)) [
  | inl low ↦
      let same : cells_at p place ≡ cells_kept (get_or items place Hidden) = ap (λ cs. get_or cs place hidden) (sym kept)
      ∙ get_or-map cells_kept items place Hidden hidden low in
      subst (λ cells. SortsColumn p.rows cells (get_or orders place None)) (sym same) (each place low)
  | inr high ↦
      let none : cells_at p place ≡ hidden = ap (λ cs. get_or cs place hidden) (sym kept)
      ∙ get_or_past (map cells_kept items) place hidden (omega (arith, length-map items cells_kept)) in
      subst (SortsColumn p.rows (cells_at p place)) (sym (get_or_past orders place None (omega arith))) none
]
