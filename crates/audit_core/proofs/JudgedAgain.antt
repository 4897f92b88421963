-- A legal history was to be released, as far as may be seen without a secret: after possible answers what is unsafe is dangerous.
use Rattle.std.proofs.Common.{ℕ, ℤ, List, [], ◌∷◌, map, take, subst}
use Rattle.std.specs.Prelude.{All}
use Rattle.std.specs.List.{AllByRecursion}
use Rattle.audit_types.specs.declared.shapes.Kind.{Kind}
use Rattle.audit_types.specs.declared.shapes.Kind.TheVariants.{Sum, Max}
use Rattle.audit_types.specs.Rows.{AreRows}
use Rattle.audit_types.specs.Shapes.{kind_at}
use Rattle.audit_types.specs.Column.{Answer, Agrees, IsDangerous}
use Rattle.audit_types.specs.Judgement.{IsUnsafeFor}
use Rattle.audit_types.specs.History.{answers_of, groups_of, list_of}
use Rattle.audit_types.specs.ListLaws.{all-append, all-map}
use Rattle.sum_audit.specs.Laws.{DangerousByPins}
use Rattle.audit_types.specs.Headcount.{Headcount}
use Rattle.audit_core.specs.KindColumns.{known_as}
use Rattle.audit_core.specs.Laws.{LegalWereReleased}
use Rattle.audit_core.specs.LegalFronts.{legal_front}
use Rattle.audit_core.proofs.Twins.{ColumnLaws, agree, group_rows, well_formed}

unsafe_is_dangerous : DangerousByPins → (kind : Kind) (n : ℕ) (people : Headcount) (groups : List (List ℕ)) (width reach : ℕ) (answers : List Answer)
    (rows : List ℕ) →
    AllByRecursion (λ a. AreRows n a.rows) answers → AreRows n rows → All (AreRows n) groups → (w : List ℤ) →
    Agrees (known_as kind n people groups width reach answers) w →
    IsUnsafeFor kind (known_as kind n people groups width reach answers) rows →
    IsDangerous (known_as kind n people groups width reach answers) rows
unsafe_is_dangerous law Sum n people groups width reach answers rows are fits group_rows w agrees unsafe =
    let sets = all-append (AreRows n) (map (λ a. a.rows) answers) (rows ∷ []) (all-map (λ a. a.rows) (AreRows n) answers are) (fits, tt) in
    (law n answers people groups width reach rows sets group_rows (w, record { one_each = agrees.one_each; same = agrees.same })).1 unsafe
unsafe_is_dangerous law Max n people groups width reach answers rows are fits group_rows w agrees unsafe = unsafe

pub legal_were_released : ColumnLaws → LegalWereReleased
legal_were_released laws table history secrets protected legal = record {
  few = legal.few;
  each = λ i r here.
      let one = legal.each i r here in
      let front = legal_front table history i legal in
      let n = table.setting.shape.rows in
      let guard = table.setting.protected in
      let well = well_formed laws table secrets protected (take i history) front r.column in
      let agrees = agree laws table secrets protected (take i history) front r.column one.fits.column_below in
      record {
        fits = one.fits;
        released = (
          one.released.0,
          λ unsafe. one.released.1
              (unsafe_is_dangerous laws.dangerous (kind_at table.setting.shape r.column) n guard.people
              (groups_of r.column guard.groups) guard.width guard.reach
              (answers_of r.column (take i history)) r.rows.list well.are_rows (subst (λ m. AreRows m r.rows.list) one.fits.same_n one.fits.are_rows)
              (group_rows laws table secrets protected r.column) (list_of table.secrets r.column) agrees unsafe),
        );
      };
}
