use Rattle.std.proofs.Common.{◌≡◌, ◌≢◌, ℕ, List, [], ◌∷◌, refl, ap, sym, ◌∙◌}
use Rattle.std.proofs.lemmas.Bool.{false≢true}
use Rattle.audit_types.specs.Rows.{Rows}
use Rattle.audit_types.specs.declared.records.Protected.{Protected}
use Rattle.predicate_lang.specs.Trees.{tree_of}
use Rattle.audit_types.specs.History.{entry_of}
use Rattle.set_index.proofs.index.group_entry.Goals as goal

pub returns-then-is_empty-clause-ok : goal.returns-then-is_empty-clause-ok
returns-then-is_empty-clause-ok c = λ group is.
    let column = c.in_ok-column.column in
    let n = c.args.index.now.public.rows in (
      column,
      tree_of c.in_ok-column.pred,
      c.in_ok-column.ensures.ok group is,
      ap (entry_of column c.args.place n) (sym (c.is_empty.ensures.0 c.if-is_empty.true) ∙ c.rows_of-rows.ensures.rows),
    )

-- rows that are some have an entry
some_entry : (column place n : ℕ) (list : List ℕ) → list ≢ [] →
    let entry : Protected = record { column = column; place = place; rows = record { n = n; list = list } } in (entry ∷ []) ≡ entry_of column place n list
some_entry column place n [] some = absurd (some refl)
some_entry column place n (row ∷ rows) some = refl

pub returns-clause-ok : goal.returns-clause-ok
returns-clause-ok c = λ group is.
    let column = c.in_ok-column.column in
    let rows : Rows = c.rows_of-rows.result in (
      column,
      tree_of c.in_ok-column.pred,
      c.in_ok-column.ensures.ok group is,
      some_entry column c.args.place rows.n rows.list (λ none. false≢true (sym c.if-is_empty.false ∙ c.is_empty.ensures.1 none))
          ∙ ap (λ m. entry_of column c.args.place m rows.list) c.rows_of-rows.ensures.n
          ∙ ap (entry_of column c.args.place c.args.index.now.public.rows) c.rows_of-rows.ensures.rows,
    )
