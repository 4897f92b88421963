use Rattle.std.proofs.Common.{◌≡◌, length}
use Rattle.std.specs.Vec.{vec_capacity}
use Rattle.sum_basis.proofs.Listing.{IsPartlyListed}
use Rattle.sum_basis.proofs.short_rows.list_of_short.Given as goal

abbrev pub invariant-loop-place : goal.invariant-loop-place
invariant-loop-place l = record {
  listed : IsPartlyListed l.row l.list.items l.place;
  room : vec_capacity l.list ≡ length l.row;
}
