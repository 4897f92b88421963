use Rattle.std.proofs.Common.{Bool, ℕ, sym, ap, ◌∙◌, arith}
use Rattle.std.specs.Int.{w128}
use Rattle.std.proofs.lemmas.Int.{to_z-of_z}
use Rattle.audit_types.specs.Rows.{with_row}
use Rattle.audit_types.specs.RowLaws.{walk_row, walk_more}
use Rattle.audit_types.specs.Headcount.{people_behind}
use Rattle.audit_types.specs.Extremes.{upper_bound}
use Rattle.max_bounds.specs.Kept.{is_at_least}
use Rattle.denial_proof.proofs.PeopleCounted.{taken, taken_people, too_many}
use Rattle.denial_proof.proofs.reaching.few_reaching.Goals as goal

pub upper-requires : goal.upper-requires
upper-requires c =
    let below = walk_row c.args.rows.now.n c.loop-row.yielded c.loop-row.row-iterator c.next.new.self c.args.rows.now.list c.in-Some.row
    c.n.ensures.are_rows c.loop-row.invariant.together c.in-Some.ensures.steps in
    let same = c.requires.same_n in
    omega (arith, below, same)

pub returns-then-left-count : goal.returns-then-left-count
returns-then-left-count c =
    let value = to_z-of_z w128 c.args.value c.ranges.value in
    let bound = upper_bound c.args.bounds.now.answers in
    let test : ℕ → Bool = λ r. is_at_least c.args.value (bound r) in
    let people = c.args.people.now.people in
    let passes = ap (is_at_least c.args.value) (sym c.upper.ensures) ∙ sym (rw value at c.reaches.ensures) ∙ c.if-reaches.true in
    let list = ap (people_behind people.counts) (rw value at c.loop-row.invariant.so_far) in
    let many = c.many-left.ensures.exact in
    let before = c.loop-row.invariant.room in
    let less = c.if-left-count.true in
    let count = c.count_of-count.ensures in
    too_many c.args.rows.now.n people c.args.rows.now.list c.loop-row.yielded c.loop-row.row-iterator c.next.new.self c.in-Some.row
    c.loop-row.invariant.together c.in-Some.ensures.steps test passes (omega (arith, list, before, less, count))

pub add-requires : goal.add-requires
add-requires c =
    let below = walk_row c.args.rows.now.n c.loop-row.yielded c.loop-row.row-iterator c.next.new.self c.args.rows.now.list c.in-Some.row
    c.n.ensures.are_rows c.loop-row.invariant.together c.in-Some.ensures.steps in
    let same = c.loop-row.invariant.same_n in
    omega (arith, below, same)

pub loop-row-preserved-then-reaches : goal.loop-row-preserved-then-reaches
loop-row-preserved-then-reaches c =
    let value = to_z-of_z w128 c.args.value c.ranges.value in
    let n = c.args.rows.now.n in
    let people = c.args.people.now.people in
    let bound = upper_bound c.args.bounds.now.answers in
    let test : ℕ → Bool = λ r. is_at_least c.args.value (bound r) in
    let passes = ap (is_at_least c.args.value) (sym c.upper.ensures) ∙ sym (rw value at c.reaches.ensures) ∙ c.if-reaches.true in
    let so_far = rw value at c.loop-row.invariant.so_far in
    let before = c.loop-row.invariant.room in
    let more = c.if-left-count.false in
    let count = c.count_of-count.ensures in
    let old = ap (people_behind people.counts) so_far in
    let new = c.add.ensures.added ∙ ap (λ k. with_row k c.loop-row.few.list c.in-Some.row) c.loop-row.invariant.same_n
    ∙ ap (λ rows. with_row n rows c.in-Some.row) so_far
    ∙ taken n people c.args.rows.now.list c.loop-row.yielded c.loop-row.row-iterator c.next.new.self c.in-Some.row
    c.loop-row.invariant.together c.in-Some.ensures.steps test c.n.ensures.are_rows passes in
    let last = ap (people_behind people.counts) new in
    let behind = taken_people n people c.args.rows.now.list c.loop-row.yielded c.loop-row.row-iterator c.next.new.self c.in-Some.row
    c.loop-row.invariant.together c.in-Some.ensures.steps test passes in record {
      together = walk_more c.loop-row.yielded c.loop-row.row-iterator c.next.new.self c.args.rows.now.list c.in-Some.row c.loop-row.invariant.together
          c.in-Some.ensures.steps;
      same_n = c.add.ensures.n ∙ c.loop-row.invariant.same_n;
      so_far = rw value new;
      room = omega (arith, old, last, behind, before, more, count);
      some = omega (arith, more);
    }
