use Rattle.std.proofs.Common.{ℕ, List, map, sym, subst, inr, None, Some}
use Rattle.std.specs.Prelude.{Option, Result, Vec, IfOk}
use Rattle.std.specs.declared.alloc.Global.{Global}
use Rattle.std.proofs.lemmas.Result.{IfOk-weaker}
use Rattle.audit_types.specs.Form.{set_row}
use Rattle.sum_basis.specs.Alike.{IsSurelyTold, TellsGrown}
use Rattle.sum_basis.specs.Basis.{Echelon}
use Rattle.sum_basis.specs.Elimination.{IsSmallForm}
use Rattle.sum_basis.specs.Holding.{LeavesList}
use Rattle.sum_basis.specs.Points.{items_of}
use Rattle.sum_basis.specs.Reach.{IsLeftOverOrNone}
use Rattle.sum_basis.specs.declared.keeping.KeptSet.{KeptSet}
use Rattle.sum_basis.specs.declared.points.Point.{Point}
use Rattle.sum_basis.specs.declared.sparse.FreeEntry.{FreeEntry}
use Rattle.sum_basis.specs.declared.told.Told.{Told}
use Rattle.sum_basis.specs.declared.told.Told.TheVariants as told
use Rattle.sum_basis.proofs.AlikeLists.{surely_told}
use Rattle.sum_basis.proofs.Untold.{surely_untold}
use Rattle.sum_basis.proofs.basis.told_with_held.Goals as goal

module _ (form : Echelon) (f : IsSmallForm form.n form.rows) (own : List ℕ) (left : Option (Vec FreeEntry Global)) (weights : List Point)
    (beside several : List ℕ) (sets : List (List ℕ)) (leaves : LeavesList form (set_row form.n own) left) where
  -- what is surely told of the list is told of the grown form
  of_list : (what : Told) → IsSurelyTold form weights (items_of left) beside several sets what →
      TellsGrown form (set_row form.n own) beside several sets what
  of_list told.Nothing sure = surely_untold form (set_row form.n own) left weights beside several sets f leaves sure
  of_list told.Something sure = surely_told form (set_row form.n own) left beside several sets leaves sure
  of_list told.Unsure sure = tt

  told_of : {E : Type 0} (r : Result Told E) → IfOk r (IsSurelyTold form weights (items_of left) beside several sets) →
      IfOk r (TellsGrown form (set_row form.n own) beside several sets)
  told_of r =
      IfOk-weaker r (IsSurelyTold form weights (items_of left) beside several sets) (TellsGrown form (set_row form.n own) beside several sets) of_list

pub surely_told-requires-clause-list : goal.surely_told-requires-clause-list
surely_told-requires-clause-list c =
    let left = rw c.in-Some.is at c.requires.held in
    subst (IsLeftOverOrNone c.args.form.now) (sym c.deref.ensures.value) (inr (left.0, left.1.zeros))

pub returns-in-Some : goal.returns-in-Some
returns-in-Some c =
    let form = c.args.form.now in
    let left = rw c.in-Some.is at c.requires.held in
    let weights = c.args.keys.now.weights.items in
    let beside = c.args.beside.now.list in
    let several = c.args.several.now.list in
    let sets = map (λ (s : KeptSet). s.rows.list) c.args.sets.now in
    told_of form c.columns.ensures.form c.args.held.now.rows.list (Some c.in-Some.list) weights beside several sets left c.surely_told.result
    (subst (λ (l : List FreeEntry). IfOk c.surely_told.result (IsSurelyTold form weights l beside several sets)) c.deref.ensures.value
    c.surely_told.ensures)

pub returns-in-None : goal.returns-in-None
returns-in-None c =
    let form = c.args.form.now in
    let spanned = rw c.in-None.is at c.requires.held in
    told_of form c.columns.ensures.form c.args.held.now.rows.list None c.args.keys.now.weights.items c.args.beside.now.list c.args.several.now.list
    (map (λ (s : KeptSet). s.rows.list) c.args.sets.now) spanned c.surely_told-in-None.result c.surely_told-in-None.ensures
