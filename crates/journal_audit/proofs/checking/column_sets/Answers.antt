use Rattle.std.proofs.Common.{rules, tests, ◌≡◌, ◌<◌, ◌+◌, ◌∙◌, ℕ, List, [], ◌∷◌, ◌++◌, length, take, get_or, map, filter, sym, ap, append-nil}
use Rattle.std.specs.Prelude.{◌==◌}
use Rattle.std.proofs.lemmas.List.{map-append, take_all, take_more}
use Rattle.std.proofs.lemmas.List.Elements.{filter-append}
use Rattle.audit_types.specs.declared.records.Answered.{Answered}
use Rattle.audit_types.specs.declared.rows.RowSet.{RowSet}
use Rattle.journal_audit.proofs.checking.column_sets.Goals as goal
use Rattle.journal_audit.proofs.checking.column_sets.Goals.{then-record-column+in_ok-push, else-record-column}

-- the sets of the column's records
abbrev sets_in : ℕ → List Answered → List RowSet
sets_in column list = map (λ (r : Answered). r.rows) (filter (λ (r : Answered). r.column == column) list)

-- and one record more
one_more : (column : ℕ) (list : List Answered) (k : ℕ) (r : Answered) → k < length list → r ≡ get_or list k r
    → sets_in column (take (k + 1) list) ≡ sets_in column (take k list) ++ sets_in column (r ∷ [])
one_more column list k r below is =
    let p = λ (r : Answered). r.column == column in
    ap (sets_in column) (take_more list k r below ∙ ap (λ (x : Answered). take k list ++ x ∷ []) (sym is))
    ∙ ap (map (λ (r : Answered). r.rows)) (filter-append p (take k list) (r ∷ []))
    ∙ map-append (λ (r : Answered). r.rows) (filter p (take k list)) (filter p (r ∷ []))

pub loop-record-init : goal.loop-record-init
loop-record-init c = c.new-sets.ensures.items

pub loop-record-preserved : goal.loop-record-preserved
loop-record-preserved c =
    let column = c.args.column in
    let record_here = c.record-item.result in
    let more = one_more column c.args.list.now c.loop-record.record-index record_here c.loop-record-test.true c.record-item.is in
    elim c.if-record-column.branch [
      | then-record-column+in_ok-push w ↦
          let own : sets_in column (record_here ∷ []) ≡ record_here.rows ∷ [] = search (rules, tests) in
          ap (λ v. v.items) w.sets-is ∙ w.in_ok-push.ensures.items ∙ ap (λ (l : List RowSet). l ++ record_here.rows ∷ []) c.loop-record.invariant
          ∙ ap (λ (l : List RowSet). sets_in column (take c.loop-record.record-index c.args.list.now) ++ l) (sym own) ∙ sym more
      | else-record-column w ↦
          let other : sets_in column (record_here ∷ []) ≡ [] = search (rules, tests) in
          ap (λ v. v.items) w.sets-is ∙ c.loop-record.invariant
          ∙ sym (append-nil (sets_in column (take c.loop-record.record-index c.args.list.now)))
          ∙ ap (λ (l : List RowSet). sets_in column (take c.loop-record.record-index c.args.list.now) ++ l) (sym other) ∙ sym more
    ]

pub returns : goal.returns
returns c =
    c.loop-record.invariant
    ∙ ap (sets_in c.args.column) (take_all c.loop-record.record-index c.args.list.now c.loop-record-test.false)
