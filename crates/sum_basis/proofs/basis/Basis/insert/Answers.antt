use Rattle.std.proofs.Common.{◌≡◌, ℕ, ℤ, List, [], ◌∷◌, ◌++◌, sym, ap, ◌∙◌, arith}
use Rattle.audit_types.specs.Rows.{Rows}
use Rattle.audit_types.specs.Form.{set_row, IsReducedForm}
use Rattle.sum_basis.specs.Basis.{Echelon}
use Rattle.sum_basis.specs.Growth.{GrowsWide, StaysNarrow}
use Rattle.sum_basis.specs.declared.basis.Held.{Held}
use Rattle.sum_basis.proofs.Exactness.{not_wide_at, reduced_at, stands_with}
use Rattle.std.proofs.lemmas.Result.{on_ok_weaker, on_err_weaker}
use Rattle.sum_basis.proofs.basis.Basis.insert.Goals as goal

-- the row of a set, over the form's columns and its own
same_row : (form seen : Echelon) (m : ℕ) (list : List ℕ) → form ≡ seen → m ≡ seen.n → set_row form.n list ≡ set_row m list
same_row form seen m list view n = ap (λ (k : ℕ). set_row k list) (ap (λ (e : Echelon). e.n) view ∙ sym n)

-- what is held is of the set
module _ (form seen : Echelon) (m : ℕ) (list : List ℕ) (held : Held) (view : form ≡ seen) (same : held.rows.list ≡ list) (n : m ≡ seen.n) where
  row_is : set_row form.n held.rows.list ≡ set_row m list
  row_is = ap (set_row form.n) same ∙ ap (λ (k : ℕ). set_row k list) (ap (λ (e : Echelon). e.n) view ∙ sym n)

  held_not_wide : StaysNarrow seen list → ¬ (GrowsWide form (set_row form.n held.rows.list))
  held_not_wide narrow = not_wide_at form seen (set_row form.n held.rows.list) m list view row_is n narrow

  with_held : (rows : List (List ℤ)) → IsReducedForm form.n (form.rows ++ set_row form.n held.rows.list ∷ []) rows →
      IsReducedForm seen.n (seen.rows ++ set_row seen.n list ∷ []) rows
  with_held rows reduced = reduced_at form seen rows (set_row form.n held.rows.list) m list view row_is n reduced

pub join_held-requires-clause-narrow : goal.join_held-requires-clause-narrow
join_held-requires-clause-narrow c =
    let is = rw c.in-Some.is at c.held_of_set.ensures in
    held_not_wide c.self.inside.form c.args.self.now c.args.rows.now.n c.args.rows.now.list c.in-Some.held c.self.view_is
    (ap (λ (r : Rows). r.list) is.1) c.requires.n c.requires.narrow

pub insert_anew-requires-clause-narrow : goal.insert_anew-requires-clause-narrow
insert_anew-requires-clause-narrow c =
    not_wide_at c.self.inside.form c.args.self.now (set_row c.self.inside.form.n c.args.rows.now.list) c.args.rows.now.n c.args.rows.now.list c.self.view_is
    (same_row c.self.inside.form c.args.self.now c.args.rows.now.n c.args.rows.now.list c.self.view_is c.requires.n) c.requires.n c.requires.narrow

pub invariant_of-self : goal.invariant_of-self
invariant_of-self c = (
  omega (arith, c.join_held.ensures.n, c.self.invariant.0),
  rw c.take-held.ensures.after tt,
  c.join_held.ensures.kept,
  c.join_held.ensures.counts,
  c.join_held.ensures.keys,
)

pub returns-in-Some : goal.returns-in-Some
returns-in-Some c =
    let is = rw c.in-Some.is at c.held_of_set.ensures in
    let reduced =
    on_ok_weaker c.join_held.result
    (with_held c.self.inside.form c.args.self.now c.args.rows.now.n c.args.rows.now.list c.in-Some.held c.self.view_is
    (ap (λ (r : Rows). r.list) is.1) c.requires.n c.join_held.new.form.rows)
    c.join_held.ensures.reduced in
    record {
      reduced = reduced;
      stands = on_ok_weaker c.join_held.result (stands_with c.args.self.now c.join_held.new.form c.args.rows.now.list) reduced;
      n = c.join_held.ensures.n ∙ ap (λ (e : Echelon). e.n) c.self.view_is;
      width = c.join_held.ensures.width ∙ ap (λ (e : Echelon). e.width) c.self.view_is;
      err = on_err_weaker c.join_held.result (λ same. same ∙ c.self.view_is) c.join_held.ensures.err;
    }

pub returns-then-branch-clause-stands : goal.returns-then-branch-clause-stands
returns-then-branch-clause-stands c =
    stands_with c.args.self.now c.insert_anew.new.form c.args.rows.now.list
    (reduced_at c.self.inside.form c.args.self.now c.insert_anew.new.form.rows (set_row c.self.inside.form.n c.args.rows.now.list) c.args.rows.now.n
    c.args.rows.now.list c.self.view_is
    (same_row c.self.inside.form c.args.self.now c.args.rows.now.n c.args.rows.now.list c.self.view_is c.requires.n) c.requires.n
    c.in_ok-insert_anew.ensures.reduced)

pub returns-else-branch-clause-stands : goal.returns-else-branch-clause-stands
returns-else-branch-clause-stands c =
    stands_with c.args.self.now c.insert_anew.new.form c.args.rows.now.list
    (reduced_at c.self.inside.form c.args.self.now c.insert_anew.new.form.rows (set_row c.self.inside.form.n c.args.rows.now.list) c.args.rows.now.n
    c.args.rows.now.list c.self.view_is
    (same_row c.self.inside.form c.args.self.now c.args.rows.now.n c.args.rows.now.list c.self.view_is c.requires.n) c.requires.n
    c.in_ok-insert_anew.ensures.reduced)
