use Rattle.std.proofs.Common.{ℕ, List, arith, refl}
use Rattle.max_bounds.specs.declared.answered.AnsweredMax.{AnsweredMax}
use Rattle.max_bounds.proofs.FailedCalls.{no_ok}
use Rattle.max_bounds.proofs.bounds.make_room.Goals as goal

pub returns : goal.returns
returns c = record {
  pairs = c.in_ok-reserve.ensures.same;
  pairs_n = c.in_ok-reserve.ensures.n;
  counts = c.in_ok-reserve-2.ensures.items;
  least = c.in_ok-reserve-3.ensures.same;
  least_n = c.in_ok-reserve-3.ensures.n;
  marks = c.in_ok-reserve-4.ensures.same;
  pairs_room = c.in_ok-reserve.ensures.room;
  counts_room = omega (arith, c.in_ok-reserve-2.ensures);
  least_room = c.in_ok-reserve-3.ensures.room;
  marks_room = c.in_ok-reserve-4.ensures.room;
}

pub returns-in_err-reserve : goal.returns-in_err-reserve
returns-in_err-reserve c =
    let failed = c.from_residual.ensures.0 in
    record {
      pairs = c.in_err-reserve.ensures.same;
      pairs_n = c.in_err-reserve.ensures.n;
      counts = refl {A = List ℕ};
      least = refl {A = List AnsweredMax};
      least_n = refl {A = ℕ};
      marks = λ marking. refl;
      pairs_room = no_ok c.from_residual.result _ failed;
      counts_room = no_ok c.from_residual.result _ failed;
      least_room = no_ok c.from_residual.result _ failed;
      marks_room = no_ok c.from_residual.result _ failed;
    }

pub returns-in_err-reserve-2 : goal.returns-in_err-reserve-2
returns-in_err-reserve-2 c =
    let failed = c.from_residual-in_err-reserve-2.ensures.0 in
    record {
      pairs = c.in_ok-reserve.ensures.same;
      pairs_n = c.in_ok-reserve.ensures.n;
      counts = c.in_err-reserve-2.ensures.items;
      least = refl {A = List AnsweredMax};
      least_n = refl {A = ℕ};
      marks = λ marking. refl;
      pairs_room = no_ok c.from_residual-in_err-reserve-2.result _ failed;
      counts_room = no_ok c.from_residual-in_err-reserve-2.result _ failed;
      least_room = no_ok c.from_residual-in_err-reserve-2.result _ failed;
      marks_room = no_ok c.from_residual-in_err-reserve-2.result _ failed;
    }

pub returns-in_err-reserve-3 : goal.returns-in_err-reserve-3
returns-in_err-reserve-3 c =
    let failed = c.from_residual-in_err-reserve-3.ensures.0 in
    record {
      pairs = c.in_ok-reserve.ensures.same;
      pairs_n = c.in_ok-reserve.ensures.n;
      counts = c.in_ok-reserve-2.ensures.items;
      least = c.in_err-reserve-3.ensures.same;
      least_n = c.in_err-reserve-3.ensures.n;
      marks = λ marking. refl;
      pairs_room = no_ok c.from_residual-in_err-reserve-3.result _ failed;
      counts_room = no_ok c.from_residual-in_err-reserve-3.result _ failed;
      least_room = no_ok c.from_residual-in_err-reserve-3.result _ failed;
      marks_room = no_ok c.from_residual-in_err-reserve-3.result _ failed;
    }

pub returns-in_err-reserve-4 : goal.returns-in_err-reserve-4
returns-in_err-reserve-4 c =
    let failed = c.from_residual-in_err-reserve-4.ensures.0 in
    record {
      pairs = c.in_ok-reserve.ensures.same;
      pairs_n = c.in_ok-reserve.ensures.n;
      counts = c.in_ok-reserve-2.ensures.items;
      least = c.in_ok-reserve-3.ensures.same;
      least_n = c.in_ok-reserve-3.ensures.n;
      marks = c.in_err-reserve-4.ensures.same;
      pairs_room = no_ok c.from_residual-in_err-reserve-4.result _ failed;
      counts_room = no_ok c.from_residual-in_err-reserve-4.result _ failed;
      least_room = no_ok c.from_residual-in_err-reserve-4.result _ failed;
      marks_room = no_ok c.from_residual-in_err-reserve-4.result _ failed;
    }
