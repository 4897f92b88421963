-- What was written whole and opened is a journal of its list, with the shape's rows in force from its front on.
use Rattle.std.proofs.Common.{◌≡◌, ℕ, ◌<◌, ◌≤◌, inl, List, [], ◌∷◌, ◌++◌, length, refl, sym, ap, ◌∙◌, subst, arith, append_assoc, length-append}
use Rattle.std.specs.Prelude.{All}
use Rattle.std.specs.List.{AllByRecursion}
use Rattle.std.proofs.lemmas.List.Elements.{All-head, All-tail}
use Rattle.audit_types.specs.declared.shapes.Shape.{Shape}
use Rattle.audit_types.specs.declared.records.Answered.{Answered}
use Rattle.audit_types.specs.History.{FitsShape}
use Rattle.audit_types.specs.Widening.{over, widened}
use Rattle.audit_types.specs.WideningLaws.{widened-same}
use Rattle.journal_form.specs.Header.{header, named}
use Rattle.journal_form.specs.Journal.{Written, AreGroups, rows_after, texts, StandsFor, gate_behind}
use Rattle.answer_journal.specs.Moments.{IsOpened}
use Rattle.answer_journal.specs.Whole.{AreBehindGate, IsOfRecords}

module _ (shape : Shape) where
  -- groups of records are groups
  are_groups : (groups : List Written) → AllByRecursion (IsOfRecords shape) groups → AreGroups shape groups
  are_groups [] all = tt
  are_groups (group ∷ groups) all = (inl all.0, subst (λ k. AreGroups (over k shape) groups) (sym all.0.1) (are_groups groups all.1))

  -- and the rows in force stay
  same_rows : (rows : ℕ) (groups : List Written) → rows ≡ shape.rows → AllByRecursion (IsOfRecords shape) groups → rows_after rows groups ≡ shape.rows
  same_rows rows [] is all = is
  same_rows rows (group ∷ groups) is all = same_rows group.rows groups all.0.1 all.1

  -- records that fit are over the shape's rows
  over_rows : (list : List Answered) → All (λ r. FitsShape shape r.column r.rows) list → AllByRecursion (λ r. r.rows.n ≡ shape.rows) list
  over_rows [] fit = tt
  over_rows (r ∷ list) fit =
      let Fits : Answered → Type 0 = λ x. FitsShape shape x.column x.rows in
      ((All-head Fits r list fit).same_n, over_rows list (All-tail Fits r list fit))

  pub stands_whole : (list : List Answered) (behind file : List ℕ) → length list ≤ 65536 → All (λ r. FitsShape shape r.column r.rows) list →
      AreBehindGate shape list behind → IsOpened behind file → StandsFor file shape list
  stands_whole list behind file few fit are opened =
      let is : file ≡ header shape ++ (texts are.groups ++ (0 ∷ opened.rest)) =
      opened.file_is ∙ ap (λ b. 1 ∷ (b ++ opened.rest)) are.bytes_are
      ∙ ap (λ t. 1 ∷ t) (append_assoc (named shape) (texts are.groups ++ 0 ∷ []) opened.rest)
      ∙ ap (λ t. 1 ∷ (named shape ++ t)) (append_assoc (texts are.groups) (0 ∷ []) opened.rest) in (
        gate_behind are.groups,
        record {
          first = shape.rows;
          groups = are.groups;
          behind = 0 ∷ opened.rest;
          begins = record { shaped = are.shaped; whole = are_groups are.groups are.of_records; file_is = is; few = omega (arith, few, ap length are.list_is) };
          ends = record { gate = 0; rest = opened.rest; bytes_are = refl; closed = λ e. cc };
          rows_are = sym (same_rows shape.rows are.groups refl are.of_records);
          history_is = sym (widened-same shape.rows list (over_rows list fit)) ∙ ap (widened shape.rows) are.list_is;
          gate_is = refl;
        },
      )

-- there are such bytes
pub some_behind : (shape : Shape) (list : List Answered) (behind : List ℕ) → AreBehindGate shape list behind → 0 < length behind
some_behind shape list behind are =
    omega (arith, ap length are.bytes_are, length-append (named shape) (texts are.groups ++ 0 ∷ []), length-append (texts are.groups) (0 ∷ []))
