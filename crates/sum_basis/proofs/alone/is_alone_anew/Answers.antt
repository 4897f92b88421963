use Rattle.std.proofs.Common.{List, [], ◌∷◌, ◌++◌, get_or, sym, subst}
use Rattle.std.proofs.lemmas.Bool.{false≢true}
use Rattle.audit_types.specs.Form.{InSpan, pivot}
use Rattle.sum_basis.specs.Basis.{unit_row}
use Rattle.sum_basis.specs.Growth.{IsLeftOver, SpansAfter}
use Rattle.sum_basis.specs.Sparse.{row_of}
use Rattle.sum_basis.specs.declared.sparse.FreeEntry.{FreeEntry}
use Rattle.sum_basis.proofs.alone.is_alone_anew.Goals as goal

pub is_cleared_alone-requires-clause-left : goal.is_cleared_alone-requires-clause-left
is_cleared_alone-requires-clause-left c = subst (IsLeftOver c.args.form.now) (sym c.deref.ensures.value) (rw c.in-Some.is at c.requires.left)

pub returns-in-Some-clause-some : goal.returns-in-Some-clause-some
returns-in-Some-clause-some c = λ yes.
    let form = c.args.form.now in
    let u = unit_row form.n (pivot (get_or form.rows c.args.k [])) in
    let told = c.is_cleared_alone.ensures.some yes in (
      subst (λ o. SpansAfter form o u) (sym c.in-Some.is)
          (subst (λ (es : List FreeEntry). InSpan (form.rows ++ row_of form.n es ∷ []) u) c.deref.ensures.value told.0),
      told.1,
    )

pub returns-in-Some-clause-none : goal.returns-in-Some-clause-none
returns-in-Some-clause-none c = λ not_so after.
    let form = c.args.form.now in
    let u = unit_row form.n (pivot (get_or form.rows c.args.k [])) in
    c.is_cleared_alone.ensures.none not_so (subst (λ (es : List FreeEntry). InSpan (form.rows ++ row_of form.n es ∷ []) u) (sym c.deref.ensures.value)
    (subst (λ o. SpansAfter form o u) c.in-Some.is after))

pub returns-in-None-clause-some : goal.returns-in-None-clause-some
returns-in-None-clause-some c = λ yes. absurd (false≢true yes)

pub returns-in-None-clause-none : goal.returns-in-None-clause-none
returns-in-None-clause-none c = λ not_so after.
    subst (λ o. SpansAfter c.args.form.now o (unit_row c.args.form.now.n (pivot (get_or c.args.form.now.rows c.args.k [])))) c.in-None.is after
