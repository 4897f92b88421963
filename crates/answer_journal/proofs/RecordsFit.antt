-- The records that a file stands for fit the shape of its header.
use Rattle.std.proofs.Common.{◌≢◌, ℕ, ◌<◌, ◌≤◌, inl, inr, List, [], ◌∷◌, refl, sym, subst, arith}
use Rattle.std.specs.List.{All}
use Rattle.std.proofs.lemmas.List.Elements.{All-nil, All-cons, All-append, All-weaker, All-map}
use Rattle.std.proofs.lemmas.List.Concat.{flat_map-cons}
use Rattle.audit_types.specs.declared.shapes.Shape.{Shape}
use Rattle.audit_types.specs.declared.records.Answered.{Answered}
use Rattle.audit_types.specs.Rows.{AreRows}
use Rattle.audit_types.specs.RowLaws.{AreRows-rows_that, AscendsFrom-wider}
use Rattle.audit_types.specs.Shapes.{IsShape, columns}
use Rattle.audit_types.specs.Widening.{over, wider, widened}
use Rattle.audit_types.specs.History.{FitsShape}
use Rattle.journal_form.specs.Record.{IsRecord, holds_row, rows_in, set_in}
use Rattle.journal_form.specs.Group.{AreRecords, IsGroup, IsWritten}
use Rattle.journal_form.specs.Journal.{Written, AreGroups, rows_after, records, StandsAt}
use Rattle.journal_form.specs.GroupLaws.{after_groups}

-- the record fits
abbrev Fits : Shape → Answered → Type 0
Fits shape r = FitsShape shape r.column r.rows

-- what bytes give is a record that fits
record_fits : (shape : Shape) (text : List ℕ) (r : Answered) → IsRecord shape text r → Fits shape r
record_fits shape text r is =
    let set = set_in shape.rows text in
    let ascend : AreRows shape.rows (rows_in shape.rows set) = AreRows-rows_that (holds_row set) shape.rows in
    record {
      column_below = is.column_below;
      same_n = is.same_n;
      are_rows =
          subst (λ (rows : List ℕ). AreRows r.rows.n rows) (sym is.set.rows_are) (subst (λ (n : ℕ). AreRows n (rows_in shape.rows set)) (sym is.same_n) ascend);
      some = is.some;
    }

records_fit : (shape : Shape) (bytes : List ℕ) (list : List Answered) → AreRecords shape bytes list → All (Fits shape) list
records_fit shape bytes [] none = All-nil (Fits shape)
records_fit shape bytes (r ∷ list) some = All-cons (Fits shape) r list (record_fits shape some.0 r some.3) (records_fit shape some.1 list some.4)

group_fits : (shape : Shape) (text : List ℕ) (list : List Answered) → IsGroup shape text list → All (Fits shape) list
group_fits shape [] list group = absurd group
group_fits shape (count ∷ bytes) list group = records_fit shape bytes list group.3

-- a record that fits once its set is over the rows in force
record FitsWider (shape : Shape) (r : Answered) : Type 0 where
  column_below : r.column < columns shape
  are_rows : AreRows r.rows.n r.rows.list
  some : r.rows.list ≢ []
  below : r.rows.n ≤ shape.rows

-- a group leaves no fewer rows
no_fewer : (shape : Shape) (text : List ℕ) (list : List Answered) (rows : ℕ) → IsWritten shape text list rows → shape.rows ≤ rows
no_fewer shape text list rows (inl group) = omega (arith, group.1)
no_fewer shape text list rows (inr growth) = omega (arith, growth.0.0.0)

rows_grow : (shape : Shape) (gs : List Written) → AreGroups shape gs → shape.rows ≤ rows_after shape.rows gs
rows_grow shape [] whole = omega arith
rows_grow shape (g ∷ gs) whole = omega (arith, no_fewer shape g.text g.list g.rows whole.0, rows_grow (over g.rows shape) gs whole.1)

wider_fits : (shape : Shape) (rows : ℕ) → shape.rows ≤ rows → (r : Answered) → Fits shape r → FitsWider (over rows shape) r
wider_fits shape rows le r fits =
    record { column_below = fits.column_below; are_rows = fits.are_rows; some = fits.some; below = omega (arith, fits.same_n, le) }

group_fits_wider : (shape : Shape) (text : List ℕ) (list : List Answered) (after rows : ℕ) → IsWritten shape text list after → after ≤ rows →
    All (FitsWider (over rows shape)) list
group_fits_wider shape text list after rows (inl group) le =
    All-weaker (Fits shape) (FitsWider (over rows shape)) (wider_fits shape rows (omega (arith, group.1, le))) list (group_fits shape text list group.0)
group_fits_wider shape text list after rows (inr growth) le =
    subst (λ (l : List Answered). All (FitsWider (over rows shape)) l) (sym growth.1) (All-nil (FitsWider (over rows shape)))

groups_fit : (shape : Shape) (groups : List Written) → AreGroups shape groups → All (FitsWider (over (rows_after shape.rows groups) shape)) (records groups)
groups_fit shape [] whole = All-nil (FitsWider shape)
groups_fit shape (group ∷ groups) whole =
    let P = FitsWider (over (rows_after group.rows groups) shape) in
    subst (λ (list : List Answered). All P list) (sym (flat_map-cons (λ (g : Written). g.list) group groups))
    (All-append P group.list (records groups)
    (group_fits_wider shape group.text group.list group.rows (rows_after group.rows groups) whole.0 (rows_grow (over group.rows shape) groups whole.1))
    (groups_fit (over group.rows shape) groups whole.1))

-- no record is over more rows than are in force
pub groups_below : (shape : Shape) (groups : List Written) → AreGroups shape groups → All (λ r. r.rows.n ≤ rows_after shape.rows groups) (records groups)
groups_below shape groups whole =
    All-weaker (FitsWider (over (rows_after shape.rows groups) shape)) (λ r. r.rows.n ≤ rows_after shape.rows groups) (λ r fits. fits.below) (records groups)
    (groups_fit shape groups whole)

widened_fits : (shape : Shape) (list : List Answered) → All (FitsWider shape) list → All (Fits shape) (widened shape.rows list)
widened_fits shape list all =
    All-map (Fits shape) (wider shape.rows) list (All-weaker (FitsWider shape) (λ r. Fits shape (wider shape.rows r)) (λ r fits. record {
      column_below = fits.column_below;
      same_n = refl;
      are_rows = AscendsFrom-wider 0 r.rows.n shape.rows r.rows.list fits.below fits.are_rows;
      some = fits.some;
    }) list all)

-- each record of the history fits
pub history_fits : (file : List ℕ) (shape : Shape) (history : List Answered) (gate : ℕ) → StandsAt file shape history gate →
    All (λ r. FitsShape shape r.column r.rows) history
history_fits file shape history gate stands =
    subst (λ (list : List Answered). All (Fits shape) list) (sym stands.history_is)
    (widened_fits shape (records stands.groups)
    (subst (λ k. All (FitsWider (over k shape)) (records stands.groups)) (sym stands.rows_are)
    (groups_fit (over stands.first shape) stands.groups stands.begins.whole)))

-- and its shape is a valid one
pub shape_is_valid : (file : List ℕ) (shape : Shape) (history : List Answered) (gate : ℕ) → StandsAt file shape history gate → IsShape shape
shape_is_valid file shape history gate stands =
    subst (λ k. IsShape (over k shape)) (sym stands.rows_are)
    (after_groups (over stands.first shape) stands.groups stands.begins.shaped.valid stands.begins.whole)
