use Rattle.std.proofs.Common.{refl, arith}
use Rattle.sum_basis.proofs.ApartKeys.{sets_apart}
use Rattle.sum_basis.proofs.telling.tells_surely_none.Goals as goal

pub returns-then-are_columns_apart : goal.returns-then-are_columns_apart
returns-then-are_columns_apart c = λ yes.
    let form = c.args.form.now in
    let list = c.args.list.now in
    let keys = c.args.keys.now in
    let seen = c.are_columns_apart.new.seen in
    record {
      keys = keys;
      columns_apart = record {
        each = c.requires.each;
        apart = λ i j i_below j_below. c.if-are_columns_apart.ensures.apart refl i j (omega (arith, c.requires.keys)) (omega (arith, c.requires.keys));
      };
      sets_apart =
          sets_apart form c.args.weights.now list c.args.several.now.list keys seen c.args.sets.now
          (λ j below single. c.if-are_columns_apart.ensures.seen refl j (omega (arith, c.requires.keys)) single) (c.are_sets_unseen.ensures yes);
    }
