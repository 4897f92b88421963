use Rattle.std.proofs.Common.{◌≡◌, List, sym, ap, subst, rules}
use Rattle.std.specs.Prelude.{FitsSigned}
use Rattle.std.specs.Int.{w128}
use Rattle.std.specs.List.{AllByRecursion}
use Rattle.std.proofs.lemmas.Int.{to_z-of_z}
use Rattle.sum_basis.specs.declared.sparse.FreeEntry.{FreeEntry}
use Rattle.sum_basis.specs.Basis.{Echelon}
use Rattle.sum_basis.specs.Elimination.{IsWithin, IsFormWithin}
use Rattle.sum_basis.specs.Sparse.{row_of, rows_of, IsKept, IsNew}
use Rattle.sum_basis.proofs.Joining.{zeros_of_list, told, foresees_same, no_list}
use Rattle.sum_basis.proofs.form.Form.look.Goals as goal

pub look_ahead-prospect-requires-clause-kept : goal.look_ahead-prospect-requires-clause-kept
look_ahead-prospect-requires-clause-kept c = subst (AllByRecursion (IsKept c.self.inside.columns)) (sym c.deref.ensures.value) c.self.invariant.kept

pub look_ahead-prospect-requires-clause-form : goal.look_ahead-prospect-requires-clause-form
look_ahead-prospect-requires-clause-form c =
    subst (λ rows. IsFormWithin c.self.inside.width c.self.inside.columns (rows_of c.self.inside.columns rows))
    (sym c.deref.ensures.value) c.self.invariant.form

pub look_ahead-prospect-requires-clause-positive : goal.look_ahead-prospect-requires-clause-positive
look_ahead-prospect-requires-clause-positive c =
    let fits : FitsSigned w128 c.self.inside.common = search rules in
    rw (to_z-of_z w128 c.self.inside.common fits) c.self.invariant.positive

pub look_ahead-prospect-requires-clause-within : goal.look_ahead-prospect-requires-clause-within
look_ahead-prospect-requires-clause-within c =
    let fits : FitsSigned w128 c.self.inside.common = search rules in
    rw (to_z-of_z w128 c.self.inside.common fits) c.self.invariant.within

pub look_ahead-prospect-requires-clause-multiple : goal.look_ahead-prospect-requires-clause-multiple
look_ahead-prospect-requires-clause-multiple c =
    let fits : FitsSigned w128 c.self.inside.common = search rules in
    rw (to_z-of_z w128 c.self.inside.common fits, c.deref.ensures.value) c.self.invariant.multiple

pub look_ahead-prospect-requires-clause-new : goal.look_ahead-prospect-requires-clause-new
look_ahead-prospect-requires-clause-new c =
    let left = rw c.in-Entries.is at c.requires.left.1 in
    subst (λ n. IsNew n c.deref-in-Entries.result.now) (sym (ap (λ (e : Echelon). e.n) c.self.view_is))
    (subst (IsNew c.args.self.now.n) (sym c.deref-in-Entries.ensures.value) left.0)

pub look_ahead-prospect-requires-clause-zero : goal.look_ahead-prospect-requires-clause-zero
look_ahead-prospect-requires-clause-zero c =
    let left = rw c.in-Entries.is at c.requires.left.1 in
    zeros_of_list c.args.self.now c.self.inside.columns c.deref.result.now c.self.inside.rows.items c.deref-in-Entries.result.now c.in-Entries.new.items
    c.self.view_is c.deref.ensures.value c.deref-in-Entries.ensures.value left.1.zeros

-- the width is the one that is seen
seen_within : (form seen : Echelon) (list : List FreeEntry) → form ≡ seen → IsWithin seen.width (row_of seen.n list) → IsWithin form.width (row_of form.n list)
seen_within form seen list view within = subst (λ (e : Echelon). IsWithin e.width (row_of e.n list)) (sym view) within

pub look_ahead-prospect-requires-clause-new_within : goal.look_ahead-prospect-requires-clause-new_within
look_ahead-prospect-requires-clause-new_within c =
    let within = rw c.in-Entries.is at c.requires.within in
    subst (λ (l : List FreeEntry). IsWithin c.self.inside.width (row_of c.self.inside.columns l)) (sym c.deref-in-Entries.ensures.value)
    (seen_within _ c.args.self.now c.in-Entries.new.items c.self.view_is within)

pub returns-in-Nothing : goal.returns-in-Nothing
returns-in-Nothing c = λ v is.
    let left = rw c.in-Nothing.is at is in
    record {
      foresees = foresees_same c.args.self.now v c.as_it_is.result c.columns.ensures.form c.columns.ensures.narrow left c.as_it_is.ensures;
      left = tt;
      nothing = no_list c.args.self.now v c.as_it_is.result left c.as_it_is.ensures;
    }

pub returns-in-Large : goal.returns-in-Large
returns-in-Large c = λ v is.
    let left = rw c.in-Large.is at is in
    record { foresees = left.1; left = tt; nothing = left.1 }

pub returns-in_ok-room-in-Entries : goal.returns-in_ok-room-in-Entries
returns-in_ok-room-in-Entries c = λ v is.
    let left = rw c.in-Entries.is at is in
    record {
      foresees = told c.args.self.now c.self.inside.columns c.deref.result.now c.self.inside.rows.items c.deref-in-Entries.result.now c.in-Entries.new.items v
          c.look_ahead-prospect.result _ c.self.view_is c.deref.ensures.value c.deref-in-Entries.ensures.value c.look_ahead-prospect.ensures.foresees left;
      left = left;
      nothing = tt;
    }
