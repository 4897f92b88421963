use Rattle.std.proofs.Common.{◌<◌, sym, ◌∙◌, subst}
use Rattle.sum_audit.specs.Sets.{sets_of}
use Rattle.witness_build.specs.Directions.{IsForm, IsSolved}
use Rattle.witness_build.proofs.CanonicalDirection.{column, is_form, moves, canonical, divided_length, divided_small}
use Rattle.witness_build.proofs.sums.write_direction.Goals as goal

pub solve-requires : goal.solve-requires
solve-requires c =
    let known = c.args.column.now in
    let same = sym c.basis-basis.ensures.n in
    let form = c.basis-basis.result.now.rows in
    let free_column = column c.directions_of_a_form.ensures.directions c.forms_are_unique.ensures known.n
    (sets_of known.answers) form c.args.row c.free_column-free.result c.n.ensures.are_rows c.basis-basis.ensures.form c.requires.row c.requires.free
    c.free_column-free.ensures in
    let rows = is_form c.directions_of_a_form.ensures.directions c.forms_are_unique.ensures known.n
    (sets_of known.answers) form c.args.row c.free_column-free.result c.n.ensures.are_rows c.basis-basis.ensures.form c.requires.row c.requires.free
    c.free_column-free.ensures in
    record {
      n = c.requires.n ∙ same;
      zeros = c.requires.zeros;
      form = subst (λ k. IsForm k form) same rows;
      below = subst (λ k. c.free_column-free.result < k) same free_column.below;
      free = free_column.free;
    }

pub divide-requires : goal.divide-requires
divide-requires c =
    let known = c.args.column.now in
    let form = c.basis-basis.result.now.rows in
    let solved = subst (λ k. IsSolved k form c.free_column-free.result c.solve.new.direction) c.basis-basis.ensures.n c.solve.ensures in
    record {
      small = solved.2.small;
      moves =
          moves c.directions_of_a_form.ensures.directions c.forms_are_unique.ensures known.n
          (sets_of known.answers) form c.args.row c.free_column-free.result c.n.ensures.are_rows c.basis-basis.ensures.form c.requires.row c.requires.free
          c.free_column-free.ensures c.solve.new.direction solved;
    }

pub returns : goal.returns
returns c =
    let known = c.args.column.now in
    let form = c.basis-basis.result.now.rows in
    let solved = subst (λ k. IsSolved k form c.free_column-free.result c.solve.new.direction) c.basis-basis.ensures.n c.solve.ensures in
    record {
      canonical =
          canonical c.directions_of_a_form.ensures.directions c.forms_are_unique.ensures known.n
          (sets_of known.answers) form c.args.row c.free_column-free.result c.n.ensures.are_rows c.basis-basis.ensures.form c.requires.row c.requires.free
          c.free_column-free.ensures c.solve.new.direction solved c.divide.new.numbers c.divide.ensures;
      small =
          divided_small c.directions_of_a_form.ensures.directions c.forms_are_unique.ensures known.n
          (sets_of known.answers) form c.args.row c.free_column-free.result c.n.ensures.are_rows c.basis-basis.ensures.form c.requires.row c.requires.free
          c.free_column-free.ensures c.solve.new.direction solved c.divide.new.numbers c.divide.ensures;
      n =
          divided_length c.directions_of_a_form.ensures.directions c.forms_are_unique.ensures known.n
          (sets_of known.answers) form c.args.row c.free_column-free.result c.n.ensures.are_rows c.basis-basis.ensures.form c.requires.row c.requires.free
          c.free_column-free.ensures c.solve.new.direction solved c.divide.new.numbers c.divide.ensures;
    }
