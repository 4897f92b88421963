-- Facts: one group more, and the shape that groups leave.
use Rattle.std.proofs.Common.{◌≡◌, ℕ, inl, inr, List, [], ◌∷◌, ◌++◌, refl, ap, ◌∙◌, arith, append-nil}
use Rattle.std.proofs.lemmas.Grind.{flat_map-append}
use Rattle.audit_types.specs.declared.shapes.Shape.{Shape}
use Rattle.audit_types.specs.declared.records.Answered.{Answered}
use Rattle.audit_types.specs.Shapes.{IsShape}
use Rattle.audit_types.specs.Widening.{over}
use Rattle.journal_form.specs.Group.{IsWritten}
use Rattle.journal_form.specs.Journal.{Written, AreGroups, rows_after, texts, records}

pub AreGroups-push : (shape : Shape) (groups : List Written) (g : Written) → AreGroups shape groups →
    IsWritten (over (rows_after shape.rows groups) shape) g.text g.list g.rows → AreGroups shape (groups ++ g ∷ [])
AreGroups-push shape [] g none is = (is, tt)
AreGroups-push shape (h ∷ groups) g all is = (all.0, AreGroups-push (over h.rows shape) groups g all.1 is)

pub rows_after-push : (rows : ℕ) (groups : List Written) (g : Written) → rows_after rows (groups ++ g ∷ []) ≡ g.rows
rows_after-push rows [] g = refl
rows_after-push rows (h ∷ groups) g = rows_after-push h.rows groups g

pub texts-push : (groups : List Written) (g : Written) → texts (groups ++ g ∷ []) ≡ texts groups ++ 1 ∷ g.text
texts-push groups g = flat_map-append (λ (w : Written). 1 ∷ w.text) groups (g ∷ []) ∙ ap (λ l. texts groups ++ l) (append-nil (1 ∷ g.text))

pub records-push : (groups : List Written) (g : Written) → records (groups ++ g ∷ []) ≡ records groups ++ g.list
records-push groups g = flat_map-append (λ (w : Written). w.list) groups (g ∷ []) ∙ ap (λ l. records groups ++ l) (append-nil g.list)

-- a group leaves a valid shape
pub after_group : (shape : Shape) (text : List ℕ) (list : List Answered) (rows : ℕ) → IsShape shape → IsWritten shape text list rows → IsShape (over rows shape)
after_group shape text list rows shaped (inl group) =
    record { some_rows = omega (arith, group.1, shaped.some_rows); at_most = omega (arith, group.1, shaped.at_most); kinds = shaped.kinds }
after_group shape text list rows shaped (inr growth) = record { some_rows = omega (arith, growth.0.0.0); at_most = growth.0.0.1; kinds = shaped.kinds }

-- and so do groups
pub after_groups : (shape : Shape) (groups : List Written) → IsShape shape → AreGroups shape groups → IsShape (over (rows_after shape.rows groups) shape)
after_groups shape [] shaped whole = shaped
after_groups shape (g ∷ groups) shaped whole = after_groups (over g.rows shape) groups (after_group shape g.text g.list g.rows shaped whole.0) whole.1
