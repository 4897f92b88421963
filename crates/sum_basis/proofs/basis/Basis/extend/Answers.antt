use Rattle.std.proofs.Common.{subst, length, sym, ap, ◌∙◌, arith, ◌≡◌, ℕ, ℤ, List}
use Rattle.audit_types.specs.RowNumbers.{length-set_row}
use Rattle.audit_types.specs.Form.{set_row, IsNarrow}
use Rattle.sum_basis.specs.Basis.{Echelon}
use Rattle.sum_basis.specs.Elimination.{IsSmallForm}
use Rattle.sum_basis.proofs.SetRows.{set_bits}
use Rattle.sum_basis.proofs.Exactness.{grows_at, stands_for, same_told, wide_told}
use Rattle.std.specs.Prelude.{Result, IfOk}
use Rattle.std.proofs.lemmas.Result.{IfOk-weaker, on_err_weaker}
use Rattle.audit_types.specs.Form.{Reduced}
use Rattle.std.specs.List.{AllByRecursion}
use Rattle.sum_basis.specs.Holding.{IsKeptOf}
use Rattle.sum_basis.specs.declared.Grown.{Grown}
use Rattle.sum_basis.specs.Growth.{Grows, GrowsFor}
use Rattle.sum_basis.proofs.basis.Basis.extend.Goals as goal

pub join-requires-clause-bits : goal.join-requires-clause-bits
join-requires-clause-bits c = set_bits c.args.rows.now.n c.args.rows.now.list c.write_set.new.row c.write_set.ensures

pub write_set-requires : goal.write_set-requires
write_set-requires c =
    ap length c.as_mut_slice-row.ensures.value ∙ c.in_ok-room.ensures ∙ ap (λ (e : Echelon). e.n) c.self.view_is ∙ sym c.requires

pub join-requires-clause-length : goal.join-requires-clause-length
join-requires-clause-length c =
    ap length c.write_set.ensures ∙ length-set_row c.args.rows.now.n c.args.rows.now.list ∙ c.requires ∙ sym (ap (λ (e : Echelon). e.n) c.self.view_is)

-- what the form tells of the written row, said of the set
set_told : {E : Type 0} (r : Result Grown E) (form seen : Echelon) (row : List ℤ) (m : ℕ) (list : List ℕ) (new : Echelon) → form ≡ seen → row ≡ set_row m list
    → m ≡ seen.n → IfOk r (λ grown. Grows form row grown new) → IfOk r (λ grown. Grows seen (set_row seen.n list) grown new)
set_told r form seen row m list new view is n =
    IfOk-weaker r (λ grown. Grows form row grown new) (λ grown. Grows seen (set_row seen.n list) grown new)
    (λ grown g. grows_at form seen row m list grown new view is n g)

stands_told : {E : Type 0} (r : Result Grown E) (old new : Echelon) (list : List ℕ) → IfOk r (λ grown. Grows old (set_row old.n list) grown new) →
    IfOk r (λ grown. (sets : List (List ℕ)) → Reduced old.n sets old.rows → GrowsFor sets list old grown new)
stands_told r old new list =
    IfOk-weaker r (λ grown. Grows old (set_row old.n list) grown new)
    (λ grown. (sets : List (List ℕ)) → Reduced old.n sets old.rows → GrowsFor sets list old grown new)
    (λ grown g. stands_for old new list grown g)

pub invariant_of-self : goal.invariant_of-self
invariant_of-self c = (
  omega (arith, c.join.ensures.n, c.self.invariant.0),
  tt,
  subst (AllByRecursion (IsKeptOf c.join.new.self)) (sym c.clear.ensures.items) tt,
  tt,
  tt,
)

pub returns : goal.returns
returns c =
    let row = set_row c.args.self.now.n c.args.rows.now.list in
    let grows = set_told c.join.result c.self.inside.form c.args.self.now c.write_set.new.row c.args.rows.now.n c.args.rows.now.list c.join.new.self
    c.self.view_is c.write_set.ensures c.requires c.join.ensures.grows in
    record {
      grows = grows;
      stands = stands_told c.join.result c.args.self.now c.join.new.self c.args.rows.now.list grows;
      n = c.join.ensures.n ∙ ap (λ (e : Echelon). e.n) c.self.view_is;
      width = c.join.ensures.width ∙ ap (λ (e : Echelon). e.width) c.self.view_is;
      same = same_told c.join.result c.args.self.now c.join.new.self row grows;
      wide = wide_told c.join.result c.args.self.now c.join.new.self row grows
          (subst (λ (e : Echelon). IsSmallForm e.n e.rows) c.self.view_is c.columns.ensures.form)
          (subst (λ (e : Echelon). IsNarrow e.width e.rows) c.self.view_is c.columns.ensures.narrow);
      err = on_err_weaker c.join.result (λ same. same ∙ c.self.view_is) c.join.ensures.err;
    }
