use Rattle.std.proofs.Common.{◌≡◌, ◌++◌, [], cond, refl, ap, sym, ◌∙◌}
use Rattle.std.specs.Prelude.{codes, string_bytes}
use Rattle.predicate_lang.specs.Trees.{Tree, tree_step, tree_of, negation, both, either, compared, among, has_literals}
use Rattle.predicate_lang.specs.declared.trees.Pred.TheVariants.{rolls-Not, rolls-And, rolls-Or, rolls-Compare, rolls-Within}
use Rattle.predicate_lang.specs.declared.trees.Pred.TheFolds.{fold-roll-Pred}
use Rattle.predicate_lang.specs.Printing.{is_or, is_or_and, printed}
use Rattle.predicate_lang.proofs.Pushes.{then_ok, where_refused}
use Rattle.predicate_lang.proofs.Written.{compared_inside, among_inside, fits_some, negation_written, both_written, either_written}
use Rattle.predicate_lang.proofs.printing.+write_pred.Goals as goal

pub write_compare-requires-clause-inside : goal.write_compare-requires-clause-inside
write_compare-requires-clause-inside t c =
    let is : tree_of c.args.pred.now ≡ compared c.in-Compare.column c.in-Compare.op c.in-Compare.literal = ap tree_of c.in-Compare.is
    ∙ ap tree_of (sym (rolls-Compare c.in-Compare.column c.in-Compare.op c.in-Compare.literal)) ∙ fold-roll-Pred Tree tree_step _ in
    compared_inside c.args.schema.now.columns (tree_of c.args.pred.now) c.in-Compare.column c.in-Compare.op c.in-Compare.literal is c.requires.fitting

pub write_within-requires-clause-inside : goal.write_within-requires-clause-inside
write_within-requires-clause-inside t c =
    let is : tree_of c.args.pred.now ≡ among c.in-Within.column c.in-Within.literals = ap tree_of c.in-Within.is
    ∙ ap tree_of (sym (rolls-Within c.in-Within.column c.in-Within.literals)) ∙ fold-roll-Pred Tree tree_step _ in
    among_inside c.args.schema.now.columns (tree_of c.args.pred.now) c.in-Within.column c.in-Within.literals is c.requires.fitting

pub write_within-requires-clause-some : goal.write_within-requires-clause-some
write_within-requires-clause-some t c =
    let is : tree_of c.args.pred.now ≡ among c.in-Within.column c.in-Within.literals = ap tree_of c.in-Within.is
    ∙ ap tree_of (sym (rolls-Within c.in-Within.column c.in-Within.literals)) ∙ fold-roll-Pred Tree tree_step _ in
    let items : c.as_slice.result.now ≡ c.in-Within.literals = c.as_slice.ensures.value ∙ c.literals.view_is in
    ap has_literals items ∙ fits_some c.args.schema.now.columns (tree_of c.args.pred.now) c.in-Within.column c.in-Within.literals is c.requires.fitting

pub returns-in_ok-write_pred-in-Not : goal.returns-in_ok-write_pred-in-Not
returns-in_ok-write_pred-in-Not t c =
    let is : tree_of c.args.pred.now ≡ negation (tree_of c.in-Not.p.value) = ap tree_of c.in-Not.is ∙ ap tree_of (sym (rolls-Not c.in-Not.p))
    ∙ fold-roll-Pred Tree tree_step _ in
    let told = c.is_or_and-inside.ensures ∙ ap is_or_and (ap tree_of c.deref.ensures) in
    let inner = c.in_ok-write_pred-in-Not.ensures ∙ ap (λ u. string_bytes c.lead.new.out ++ printed c.args.schema.now.columns u)
    (ap tree_of c.deref-in-Not.ensures) in
    then_ok c.close.result _ _ c.close.ensures
    (λ last. last ∙ negation_written c.args.schema.now.columns (tree_of c.args.pred.now) (tree_of c.in-Not.p.value) c.is_or_and-inside.result
    (string_bytes c.args.out.now) (string_bytes c.args.out.now ++ codes "not ") (string_bytes c.lead.new.out) (string_bytes c.write_pred.new.out)
    is c.requires.fitting told refl c.in_ok-lead-in-Not.ensures inner)

pub returns-in_ok-write_pred-in-And-2 : goal.returns-in_ok-write_pred-in-And-2
returns-in_ok-write_pred-in-And-2 t c =
    let is : tree_of c.args.pred.now ≡ both (tree_of c.in-And.p.value) (tree_of c.in-And.q.value) = ap tree_of c.in-And.is
    ∙ ap tree_of (sym (rolls-And c.in-And.p c.in-And.q)) ∙ fold-roll-Pred Tree tree_step _ in
    let left = c.is_or-left.ensures ∙ ap is_or (ap tree_of c.deref-in-And.ensures) in
    let right = c.is_or_and-right.ensures ∙ ap is_or_and (ap tree_of c.deref-in-And-2.ensures) in
    let first = c.in_ok-write_pred-in-And.ensures ∙ ap (λ u. string_bytes c.open.new.out ++ printed c.args.schema.now.columns u)
    (ap tree_of c.deref-in-And-3.ensures) in
    let second = c.in_ok-write_pred-in-And-2.ensures ∙ ap (λ u. string_bytes c.write_between.new.out ++ printed c.args.schema.now.columns u)
    (ap tree_of c.deref-in-And-4.ensures) in
    then_ok c.close-in-And.result _ _ c.close-in-And.ensures
    (λ last. last ∙ both_written c.args.schema.now.columns (tree_of c.args.pred.now) (tree_of c.in-And.p.value)
    (tree_of c.in-And.q.value) c.is_or-left.result c.is_or_and-right.result
    (string_bytes c.args.out.now) (string_bytes c.open.new.out) (string_bytes c.write_pred-in-And.new.out)
    (string_bytes c.write_pred-in-And.new.out ++ cond c.is_or-left.result (codes ")") [])
    ((string_bytes c.write_pred-in-And.new.out ++ cond c.is_or-left.result (codes ")") []) ++ codes " and ")
    (string_bytes c.write_between.new.out) (string_bytes c.write_pred-in-And-2.new.out)
    is c.requires.fitting left right c.in_ok-open-in-And.ensures first refl refl c.in_ok-write_between-in-And.ensures second)

pub returns-in_ok-write_pred-in-Or-2 : goal.returns-in_ok-write_pred-in-Or-2
returns-in_ok-write_pred-in-Or-2 t c =
    let is : tree_of c.args.pred.now ≡ either (tree_of c.in-Or.p.value) (tree_of c.in-Or.q.value) = ap tree_of c.in-Or.is
    ∙ ap tree_of (sym (rolls-Or c.in-Or.p c.in-Or.q)) ∙ fold-roll-Pred Tree tree_step _ in
    let right = c.is_or-right.ensures ∙ ap is_or (ap tree_of c.deref-in-Or.ensures) in
    let first = c.in_ok-write_pred-in-Or.ensures ∙ ap (λ u. string_bytes c.args.out.now ++ printed c.args.schema.now.columns u)
    (ap tree_of c.deref-in-Or-2.ensures) in
    let second = c.in_ok-write_pred-in-Or-2.ensures ∙ ap (λ u. string_bytes c.lead-in-Or.new.out ++ printed c.args.schema.now.columns u)
    (ap tree_of c.deref-in-Or-3.ensures) in
    then_ok c.close-in-Or.result _ _ c.close-in-Or.ensures
    (λ last. last ∙ either_written c.args.schema.now.columns (tree_of c.args.pred.now) (tree_of c.in-Or.p.value) (tree_of c.in-Or.q.value) c.is_or-right.result
    (string_bytes c.args.out.now) (string_bytes c.write_pred-in-Or.new.out) (string_bytes c.write_pred-in-Or.new.out ++ codes " or ")
    (string_bytes c.lead-in-Or.new.out) (string_bytes c.write_pred-in-Or-2.new.out)
    is c.requires.fitting right first refl c.in_ok-lead-in-Or.ensures second)

pub returns-in-Compare : goal.returns-in-Compare
returns-in-Compare t c =
    let is : tree_of c.args.pred.now ≡ compared c.in-Compare.column c.in-Compare.op c.in-Compare.literal = ap tree_of c.in-Compare.is
    ∙ ap tree_of (sym (rolls-Compare c.in-Compare.column c.in-Compare.op c.in-Compare.literal)) ∙ fold-roll-Pred Tree tree_step _ in
    then_ok c.write_compare.result _ _ c.write_compare.ensures
    (λ last. last ∙ ap (λ x. string_bytes c.args.out.now ++ printed c.args.schema.now.columns x) (sym is))

pub returns-in-Within : goal.returns-in-Within
returns-in-Within t c =
    let is : tree_of c.args.pred.now ≡ among c.in-Within.column c.in-Within.literals = ap tree_of c.in-Within.is
    ∙ ap tree_of (sym (rolls-Within c.in-Within.column c.in-Within.literals)) ∙ fold-roll-Pred Tree tree_step _ in
    let items : c.as_slice.result.now ≡ c.in-Within.literals = c.as_slice.ensures.value ∙ c.literals.view_is in
    then_ok c.write_within.result _ _ c.write_within.ensures
    (λ last. last ∙ ap (λ ls. string_bytes c.args.out.now ++ printed c.args.schema.now.columns (among c.in-Within.column ls)) items
    ∙ ap (λ x. string_bytes c.args.out.now ++ printed c.args.schema.now.columns x) (sym is))

-- ---- a call failed

pub returns-in_err-lead-in-Not : goal.returns-in_err-lead-in-Not
returns-in_err-lead-in-Not t c = where_refused c.from_residual.result _ c.from_residual.ensures.0

pub returns-in_err-write_pred-in-Not : goal.returns-in_err-write_pred-in-Not
returns-in_err-write_pred-in-Not t c = where_refused c.from_residual-in_err-write_pred-in-Not.result _ c.from_residual-in_err-write_pred-in-Not.ensures.0

pub returns-in_err-open-in-And : goal.returns-in_err-open-in-And
returns-in_err-open-in-And t c = where_refused c.from_residual-in_err-open-in-And.result _ c.from_residual-in_err-open-in-And.ensures.0

pub returns-in_err-write_pred-in-And : goal.returns-in_err-write_pred-in-And
returns-in_err-write_pred-in-And t c = where_refused c.from_residual-in_err-write_pred-in-And.result _ c.from_residual-in_err-write_pred-in-And.ensures.0

pub returns-in_err-write_between-in-And : goal.returns-in_err-write_between-in-And
returns-in_err-write_between-in-And t c = where_refused c.from_residual-in_err-write_between-in-And.result _
    c.from_residual-in_err-write_between-in-And.ensures.0

pub returns-in_err-write_pred-in-And-2 : goal.returns-in_err-write_pred-in-And-2
returns-in_err-write_pred-in-And-2 t c = where_refused c.from_residual-in_err-write_pred-in-And-2.result _ c.from_residual-in_err-write_pred-in-And-2.ensures.0

pub returns-in_err-write_pred-in-Or : goal.returns-in_err-write_pred-in-Or
returns-in_err-write_pred-in-Or t c = where_refused c.from_residual-in_err-write_pred-in-Or.result _ c.from_residual-in_err-write_pred-in-Or.ensures.0

pub returns-in_err-lead-in-Or : goal.returns-in_err-lead-in-Or
returns-in_err-lead-in-Or t c = where_refused c.from_residual-in_err-lead-in-Or.result _ c.from_residual-in_err-lead-in-Or.ensures.0

pub returns-in_err-write_pred-in-Or-2 : goal.returns-in_err-write_pred-in-Or-2
returns-in_err-write_pred-in-Or-2 t c = where_refused c.from_residual-in_err-write_pred-in-Or-2.result _ c.from_residual-in_err-write_pred-in-Or-2.ensures.0
