use Rattle.std.proofs.Common.{◌<◌, SFits, sym, ap, ◌∙◌, arith, rules, length}
use Rattle.std.specs.Int.{w64}
use Rattle.std.proofs.lemmas.Int.{to_z-of_z}
use Rattle.std.proofs.lemmas.List.{length-map}
use Rattle.audit_types.specs.History.{list_of}
use Rattle.audit_types.specs.Shapes.{columns, kind_at}
use Rattle.audit_types.specs.Truth.{greatest_over, sum_over, truth}
use Rattle.table_load.specs.Cells.{SecretView}
use Rattle.table_load.specs.Kept.{secret_view}
use Rattle.table_load.proofs.SetSums.{column_are_numbers}
use Rattle.table_load.proofs.SecretBlocks.{listed, column_blocks}
use Rattle.table_load.proofs.secrets.Secret.truth.Goals as goal

pub bounds-self-inside-column : goal.bounds-self-inside-column
bounds-self-inside-column c =
    let one = ap (λ (s : SecretView). columns s.shape) c.self.view_is in
    omega (arith, one, c.requires.column, c.self.invariant.few)

pub sum_by_blocks-requires-clause-numbers : goal.sum_by_blocks-requires-clause-numbers
sum_by_blocks-requires-clause-numbers c =
    let one = ap (λ (s : SecretView). columns s.shape) c.self.view_is in
    let within : c.args.column < length c.self.inside.lists.items =
    omega (arith, one, c.requires.column, c.self.invariant.is.one_each, length-map c.self.inside.lists.items (λ v. v.items)) in
    column_are_numbers c.self.inside.lists.items c.args.column _ _ c.index.result.now _ c.self.invariant.is.numbers within c.index.ensures
    c.as_slice-list.ensures.value
    (c.requires.same_n ∙ sym (ap (λ (s : SecretView). s.shape.rows) c.self.view_is))

pub sum_by_blocks-requires-clause-blocks : goal.sum_by_blocks-requires-clause-blocks
sum_by_blocks-requires-clause-blocks c =
    let one = ap (λ (s : SecretView). columns s.shape) c.self.view_is in
    let within : c.args.column < length c.self.inside.lists.items =
    omega (arith, one, c.requires.column, c.self.invariant.is.one_each, length-map c.self.inside.lists.items (λ v. v.items)) in
    let below : c.args.column < columns c.self.inside.shape = omega (arith, one, c.requires.column) in
    column_blocks _ _ _ _ _ _ _ (sym c.kind.ensures ∙ c.in-Sum.is) (ap (λ (s : SecretView). s.shape.rows) c.self.view_is ∙ sym c.requires.same_n)
    (listed c.self.inside.lists.items c.args.column c.index.result.now _ within c.index.ensures c.as_slice-list.ensures.value)
    (c.self.invariant.blocks c.args.column below)

pub greatest_by_blocks-requires-clause-numbers : goal.greatest_by_blocks-requires-clause-numbers
greatest_by_blocks-requires-clause-numbers c =
    let one = ap (λ (s : SecretView). columns s.shape) c.self.view_is in
    let within : c.args.column < length c.self.inside.lists.items =
    omega (arith, one, c.requires.column, c.self.invariant.is.one_each, length-map c.self.inside.lists.items (λ v. v.items)) in
    column_are_numbers c.self.inside.lists.items c.args.column _ _ c.index.result.now _ c.self.invariant.is.numbers within c.index.ensures
    c.as_slice-list.ensures.value
    (c.requires.same_n ∙ sym (ap (λ (s : SecretView). s.shape.rows) c.self.view_is))

pub greatest_by_blocks-requires-clause-blocks : goal.greatest_by_blocks-requires-clause-blocks
greatest_by_blocks-requires-clause-blocks c =
    let one = ap (λ (s : SecretView). columns s.shape) c.self.view_is in
    let within : c.args.column < length c.self.inside.lists.items =
    omega (arith, one, c.requires.column, c.self.invariant.is.one_each, length-map c.self.inside.lists.items (λ v. v.items)) in
    let below : c.args.column < columns c.self.inside.shape = omega (arith, one, c.requires.column) in
    column_blocks _ _ _ _ _ _ _ (sym c.kind.ensures ∙ c.in-Max.is) (ap (λ (s : SecretView). s.shape.rows) c.self.view_is ∙ sym c.requires.same_n)
    (listed c.self.inside.lists.items c.args.column c.index.result.now _ within c.index.ensures c.as_slice-list.ensures.value)
    (c.self.invariant.blocks c.args.column below)

pub returns-in-Sum : goal.returns-in-Sum
returns-in-Sum c =
    let one = ap (λ (s : SecretView). columns s.shape) c.self.view_is in
    let within : c.args.column < length c.self.inside.lists.items =
    omega (arith, one, c.requires.column, c.self.invariant.is.one_each, length-map c.self.inside.lists.items (λ v. v.items)) in
    let list = listed c.self.inside.lists.items c.args.column c.index.result.now c.as_slice-list.result.now within c.index.ensures
    c.as_slice-list.ensures.value in
    let fits : SFits w64 c.sum_by_blocks.result = search rules in
    to_z-of_z w64 c.sum_by_blocks.result fits ∙ c.sum_by_blocks.ensures ∙ ap (λ l. sum_over l c.args.rows.now.list) (sym list)
    ∙ ap (λ k. truth k (list_of (secret_view c.self.inside).lists c.args.column) c.args.rows.now.list) (sym c.in-Sum.is ∙ c.kind.ensures)
    ∙ ap (λ (s : SecretView). truth (kind_at s.shape c.args.column) (list_of s.lists c.args.column) c.args.rows.now.list) c.self.view_is

pub returns-in-Max : goal.returns-in-Max
returns-in-Max c =
    let one = ap (λ (s : SecretView). columns s.shape) c.self.view_is in
    let within : c.args.column < length c.self.inside.lists.items =
    omega (arith, one, c.requires.column, c.self.invariant.is.one_each, length-map c.self.inside.lists.items (λ v. v.items)) in
    let list = listed c.self.inside.lists.items c.args.column c.index.result.now c.as_slice-list.result.now within c.index.ensures
    c.as_slice-list.ensures.value in
    let fits : SFits w64 c.greatest_by_blocks.result = search rules in
    to_z-of_z w64 c.greatest_by_blocks.result fits ∙ c.greatest_by_blocks.ensures ∙ ap (λ l. greatest_over l c.args.rows.now.list) (sym list)
    ∙ ap (λ k. truth k (list_of (secret_view c.self.inside).lists c.args.column) c.args.rows.now.list) (sym c.in-Max.is ∙ c.kind.ensures)
    ∙ ap (λ (s : SecretView). truth (kind_at s.shape c.args.column) (list_of s.lists c.args.column) c.args.rows.now.list) c.self.view_is
