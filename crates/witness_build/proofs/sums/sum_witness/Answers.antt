use Rattle.std.proofs.Common.{◌≡◌, length, drop, rules}
use Rattle.std.proofs.lemmas.List.{take_at}
use Rattle.witness_build.proofs.sums.sum_witness.Goals as goal

pub returns : goal.returns
returns c =
    let long : length c.write_direction.new.direction ≡ c.in_ok-direction.direction.len = search rules in
    rw
    (take_at c.write_direction.new.direction (drop (length c.write_direction.new.direction) c.in_ok-direction.direction.items) c.in_ok-direction.direction.len
    long)
    (record { canonical = c.write_direction.ensures.canonical; small = c.write_direction.ensures.small })
