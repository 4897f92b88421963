use Rattle.std.proofs.Common.{◌≡◌, pos, get_or, length, ◌∙◌, subst, arith, rules}
use Rattle.std.specs.Prelude.{FitsSigned}
use Rattle.std.specs.Int.{w64, w128}
use Rattle.std.proofs.lemmas.Int.{to_z-of_z}
use Rattle.sum_basis.specs.Sparse.{IsListed}
use Rattle.sum_basis.proofs.Listing.{none_listed, next_listed, all_listed, room_for}
use Rattle.sum_basis.proofs.short_rows.list_of_short.Goals as goal

pub put-requires : goal.put-requires
put-requires c =
    let few = room_for c.args.row.now c.loop-place.list.items c.loop-place.place c.loop-place-test.true c.loop-place.invariant.listed in
    let len = c.loop-place.list.ok.0 in
    let room = c.loop-place.invariant.room in
    omega arith

pub loop-place-preserved : goal.loop-place-preserved
loop-place-preserved c =
    let short : FitsSigned w64 (get_or c.args.row.now c.loop-place.place (pos 0)) = search rules in
    let wide : FitsSigned w128 c.widened.result = search rules in
    record {
      listed =
          next_listed c.args.row.now c.loop-place.list.items c.put.new.out.items c.loop-place.place _ c.loop-place.invariant.listed
          (to_z-of_z w128 c.widened.result wide ∙ c.widened.ensures ∙ to_z-of_z w64 (get_or c.args.row.now c.loop-place.place (pos 0)) short)
          c.put.ensures.items;
      room = c.put.ensures.capacity ∙ c.loop-place.invariant.room;
    }

pub returns-clause-is : goal.returns-clause-is
returns-clause-is c = λ j. all_listed c.args.row.now c.loop-place.list.items c.loop-place.place (omega arith) c.loop-place.invariant.listed j

pub loop-place-init : goal.loop-place-init
loop-place-init c = record {
  listed = rw c.in_ok-list.ensures.items (none_listed c.args.row.now);
  room = c.in_ok-list.ensures.exact;
}

pub overflow_cast-place : goal.overflow_cast-place
overflow_cast-place c = let few = c.requires in let more = c.loop-place-test.true in omega arith

pub returns-clause-listed : goal.returns-clause-listed
returns-clause-listed c =
    let all : c.loop-place.place ≡ length c.args.row.now = omega arith in
    subst (λ k. IsListed 0 k c.loop-place.list.items) all c.loop-place.invariant.listed.listed
