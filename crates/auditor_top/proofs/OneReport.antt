-- A legal history has one report.
use Rattle.std.proofs.Common.{◌≡◌, ◌⊎◌, inl, inr, ℕ, ℤ, Option, List, [], ◌∷◌, ◌++◌, map, ◌==◌, refl, sym, ◌∙◌, ap, subst}
use Rattle.std.specs.List.{AllByRecursion, concat, filter}
use Rattle.audit_types.specs.Direction.{IsCanonicalDirection}
use Rattle.audit_types.specs.Form.{set_row}
use Rattle.audit_types.specs.History.{answer_in, answers_of}
use Rattle.audit_types.specs.Laws.{OneCanonicalDirection}
use Rattle.audit_types.specs.ListLaws.{all-filter, all-map}
use Rattle.audit_types.specs.Rows.{AreRows}
use Rattle.sum_basis.specs.Laws.{FormsAreUnique}
use Rattle.journal_audit.specs.Reports.{Audit, Subject, row_of, column_of, totals, subjects, HasLine, IsLineOn, IsRowLine, AreLinesOn, Reports, secret_name, sets_of_column}
use Rattle.journal_audit.specs.Reports.AreLinesOn.{none, one, left_out}
use Rattle.journal_audit.specs.Texts.{direction_line}

module _ (forms : FormsAreUnique) (directions : OneCanonicalDirection) (audit : Audit)
    (rows : AllByRecursion (λ r. AreRows audit.shape.rows r.rows.list) audit.history) where
  sets_are_rows : (column : ℕ) → AllByRecursion (AreRows audit.shape.rows) (sets_of_column column audit.history)
  sets_are_rows column =
      let n = audit.shape.rows in
      all-map (λ a. a.rows) (AreRows n) (answers_of column audit.history)
      (all-map answer_in (λ a. AreRows n a.rows) (filter (λ r. r.column == column) audit.history)
      (all-filter (λ r. AreRows n r.rows.list) (λ r. r.column == column) audit.history rows))

  one_row_line : (column row : ℕ) (a b : List ℕ) → IsRowLine audit column row a → IsRowLine audit column row b → b ≡ a
  one_row_line column row a b x y =
      let n = audit.shape.rows in
      let sets = sets_of_column column audit.history in
      let same : y.form ≡ x.form = forms n (map (set_row n) sets) y.form x.form y.reduced x.reduced in
      let canonical = subst (λ (form : List (List ℤ)). IsCanonicalDirection n sets form row y.direction) same y.canonical in
      let alike : y.direction ≡ x.direction = directions n sets x.form row y.direction x.direction (sets_are_rows column) x.reduced canonical x.canonical in
      y.line_is ∙ ap (direction_line (secret_name audit.schema column) row) alike ∙ sym x.line_is

  one_line : (about : Subject) (a b : List ℕ) → IsLineOn audit about a → IsLineOn audit about b → b ≡ a
  one_line (row_of column row) a b x y = one_row_line column row a b x y
  one_line (column_of column) a b x y = y ∙ sym x
  one_line (totals people) a b x y = y ∙ sym x

  -- lines on these, opened at the first: it has one, or it is left out
  abbrev Opened : List Subject → List (List ℕ) → Type 0
  Opened [] lines = lines ≡ []
  Opened (s ∷ about) lines =
      (HasLine audit s × (line : List ℕ) × (more : List (List ℕ)) × (lines ≡ line ∷ more) × IsLineOn audit s line × AreLinesOn audit about more)
      ⊎ (¬ (HasLine audit s) × AreLinesOn audit about lines)

  opened : (about : List Subject) (lines : List (List ℕ)) → AreLinesOn audit about lines → Opened about lines
  opened xs ls none = refl
  opened xs ls (one {about} {lines} subject line has is are) = inl (has, line, lines, refl, is, are)
  opened xs ls (left_out {about} {lines} subject lacks are) = inr (lacks, are)

  same_opened : (about : List Subject) (a b : List (List ℕ)) → Opened about a → Opened about b → b ≡ a
  same_opened [] a b x y = y ∙ sym x
  same_opened (s ∷ about) a b (inl (has, line, more, a_is, is, are)) (inl (again, other, others, b_is, was, were)) =
      let rest : others ≡ more = same_opened about more others (opened about more are) (opened about others were) in
      b_is ∙ ap (λ l. l ∷ others) (one_line s line other is was) ∙ ap (λ ls. line ∷ ls) rest ∙ sym a_is
  same_opened (s ∷ about) a b (inl first) (inr (lacks, second)) = absurd (lacks first.0)
  same_opened (s ∷ about) a b (inr (lacks, first)) (inl second) = absurd (lacks second.0)
  same_opened (s ∷ about) a b (inr (lacks, are)) (inr (again, were)) = same_opened about a b (opened about a are) (opened about b were)

  same_lines : (about : List Subject) (a b : List (List ℕ)) → AreLinesOn audit about a → AreLinesOn audit about b → b ≡ a
  same_lines about a b x y = same_opened about a b (opened about a x) (opened about b y)

  pub one_report : (people : Option ℕ) (before after other : List ℕ) → Reports audit people before after → Reports audit people before other → other ≡ after
  one_report people before after other x y =
      y.sent_is ∙ ap (λ (lines : List (List ℕ)). before ++ concat lines)
      (same_lines (subjects audit.shape people) x.lines y.lines x.are y.are) ∙ sym x.sent_is
