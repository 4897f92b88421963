use Rattle.std.proofs.Common.{◌≡◌, ◌<◌, refl, sym, ap, ◌∙◌, arith, length, length-set, get_or, rules}
use Rattle.std.specs.Prelude.{nat_lt}
use Rattle.std.proofs.lemmas.List.{length-map}
use Rattle.std.proofs.lemmas.List.Sums.{count_by-le-length}
use Rattle.table_load.proofs.SetSums.{column_are_numbers}
use Rattle.table_load.proofs.SecretBlocks.{listed, column_blocks, next_column}
use Rattle.table_load.proofs.secrets.Secret.new.Goals as goal

pub loop-column-init : goal.loop-column-init
loop-column-init c = record { eight = refl; done = λ k none. absurd (omega arith) }

pub blocks_of-requires-clause-numbers : goal.blocks_of-requires-clause-numbers
blocks_of-requires-clause-numbers c =
    let within : c.loop-column.column < length c.args.lists.items = omega arith in
    column_are_numbers c.args.lists.items c.loop-column.column _ _ c.list-item.result _ c.requires.numbers within
    (c.list-item.is ∙ ap (λ l. get_or l c.loop-column.column c.list-item.result) c.deref-list-items.ensures.value) c.as_slice.ensures.value refl

pub loop-column-preserved : goal.loop-column-preserved
loop-column-preserved c =
    let within : c.loop-column.column < length c.args.lists.items = omega arith in
    let kinds : length c.args.shape.kinds ≡ 8 = search rules in
    let eighth : c.loop-column.column < length c.loop-column.blocks =
    omega (arith, count_by-le-length (λ b. nat_lt 0 b) c.args.shape.kinds, c.loop-column.invariant.eight) in
    let list = listed c.args.lists.items c.loop-column.column c.list-item.result c.as_slice.result.now within
    (c.list-item.is ∙ ap (λ l. get_or l c.loop-column.column c.list-item.result) c.deref-list-items.ensures.value) c.as_slice.ensures.value in
    record {
      eight = length-set c.loop-column.blocks c.loop-column.column _ ∙ c.loop-column.invariant.eight;
      done = next_column c.args.shape _ c.loop-column.blocks c.loop-column.column c.blocks_of.result eighth c.loop-column.invariant.done
          (column_blocks _ _ _ _ _ _ c.blocks_of.result c.kind.ensures refl (sym list) c.blocks_of.ensures);
    }

pub invariant_of-result : goal.invariant_of-result
invariant_of-result c =
    let kinds : length c.args.shape.kinds ≡ 8 = search rules in
    record {
      is = record { shape = c.requires.shape; one_each = length-map c.args.lists.items (λ v. v.items) ∙ c.requires.one_each; numbers = c.requires.numbers };
      few = omega (arith, count_by-le-length (λ b. nat_lt 0 b) c.args.shape.kinds);
      blocks = λ column below. c.loop-column.invariant.done column (omega (arith, below));
    }
