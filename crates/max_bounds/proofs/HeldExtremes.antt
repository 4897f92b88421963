-- The extreme rows of an answer lie within a set exactly when one of the least sets does.
use Rattle.std.proofs.Common.{ℤ, ℕ, List, sym, ap, ◌∙◌}
use Rattle.audit_types.specs.Rows.{has_row}
use Rattle.audit_types.specs.Column.{Answer}
use Rattle.audit_types.specs.Extremes.{extremes}
use Rattle.max_bounds.specs.Outside.{HasWithin, HasExtremesWithin}
use Rattle.max_bounds.specs.Kept.{AreLeast}
use Rattle.max_bounds.proofs.OutsideRows.{in_set, none_outside}

module _ (answers sets : List Answer) (least : AreLeast (extremes answers) answers sets) (rows : List ℕ) (value : ℤ) where
  pub extremes_of_set : HasWithin sets rows value → HasExtremesWithin answers rows value
  extremes_of_set (e, one, is) =
      let source = least.each e one in
      record {
        answer = source.0;
        one = source.1;
        same = source.2 ∙ is.same;
        within = λ r there. in_set rows e.rows r is.none_left (ap (λ l. has_row l r) (sym source.3) ∙ there);
      }

  pub set_of_extremes : HasExtremesWithin answers rows value → HasWithin sets rows value
  set_of_extremes held =
      let cover = least.covered held.answer held.one in
      let e = cover.0 in
      (e, cover.1, record { same = cover.2 ∙ held.same; none_left = none_outside rows e.rows (λ r there. held.within r (cover.3 r there)) })
