use Rattle.std.proofs.Common.{◌≡◌, ◌+◌, ◌++◌, ◌-◌, List, ℕ, All, length, take, drop, refl, sym, ap, subst, ◌∙◌, arith, length-append}
use Rattle.std.specs.Prelude.{Result, Err, IfErr, IsErrOf}
use Rattle.std.proofs.lemmas.Result.{IfOk-from_err}
use Rattle.std.proofs.Math.Seq.{drop-append_seam}
use Rattle.std.proofs.lemmas.List.Elements.{All-take, All-drop}
use Rattle.audit_types.specs.declared.records.Answered.{Answered}
use Rattle.audit_types.specs.declared.shapes.Shape.{Shape}
use Rattle.audit_types.specs.History.{FitsShape}
use Rattle.bench_core.specs.Calls.{LeavesOnly}
use Rattle.bench_core.specs.Ends.{EndsBy}
use Rattle.bench_core.specs.Reports.{is_refusal, not_called, of_refusal, told_as}
use Rattle.bench_core.specs.Stops.{IsOfBench, IsOfBenches, of_benches, spare_of_benches, turned, turned_is, turned_of_bench}
use Rattle.bench_core.specs.declared.stops.End.{End}
use Rattle.bench_core.specs.declared.stops.End.TheVariants.{Stopped}
use Rattle.bench_core.specs.declared.stops.Stop.{Stop}
use Rattle.bench_core.specs.declared.stops.Stop.TheVariants as stop
use Rattle.journal_form.specs.Journal.{StandsAt}
use Rattle.audit_core.specs.LegalFronts.{legal_fits}
use Rattle.table_load.specs.Cells.{SecretView}
use Rattle.audit_store.specs.Refusals.{no_refusal}
use Rattle.audit_store.specs.Stores.{table_of}
use Rattle.audit_store.specs.Twice.{IsBroughtUp, StandsWithSome, calls_to_bring_up}
use Rattle.twin_journal.specs.Twins.{DifferFirst, IsDiffer, Meet, missing}
use Rattle.twin_journal.specs.declared.starting.TwinRefusal.{TwinRefusal}
use Rattle.twin_journal.proofs.CatchingUp.{differ_first, lacks_nothing, main_lacks, meet_at_main, meet_at_other, other_lacks, same_as_main, some_between, still_between, still_there, while_brought_up, whole_is_main, whole_is_other}
use Rattle.twin_journal.proofs.catching.catch_up.Goals as goal

-- what a longer history has beyond a front of it is what the front lacks
lacks_is : (front lacks whole : List Answered) → whole ≡ front ++ lacks → lacks ≡ missing front whole
lacks_is front lacks whole is = sym (ap (λ (l : List Answered). drop (length front) l) is ∙ drop-append_seam front lacks)

abbrev stopped : Stop → End TwinRefusal
stopped s = Stopped s

-- what ended a call of the spare, and the end of it here
never_spare : (given : Stop) → IsOfBench given → IsErrOf {T = Unit {0}} (Err given) stop.Spare → ⊥
never_spare given of is = let same : given ≡ stop.Spare = cc in subst IsOfBench same of

module _ {X Y : Type 0} (given : Stop) where
  module _ (answer : Stop) (is : answer ≡ turned given) where
    turned_back : (what : Stop) → IsErrOf {T = Y} (Err (stopped answer)) (stopped what) → IsErrOf {T = X} (Err given) (turned what)
    turned_back what refused = let same : answer ≡ what = cc in ap (λ (s : Stop). err s) (turned_is given what (sym is ∙ same))
      where
        err : Stop → Result X Stop
        err s = Err s

    turned_on : (what : Stop) → IsErrOf {T = X} (Err given) what → IsErrOf {T = Y} (Err (stopped answer)) (stopped (turned what))
    turned_on what failed = let same : given ≡ what = cc in ap (λ (s : Stop). err (stopped s)) (is ∙ ap turned same)
      where
        err : End TwinRefusal → Result Y (End TwinRefusal)
        err e = Err e

  -- and of one of the bench
  module _ (answer : Result Y (End TwinRefusal)) (is : answer ≡ Err (stopped given)) where
    stopped_back : (what : Stop) → IsErrOf answer (stopped what) → IsErrOf {T = X} (Err given) what
    stopped_back what refused = let same : given ≡ what = cc in ap (λ (s : Stop). err s) same
      where
        err : Stop → Result X Stop
        err s = Err s

    stopped_on : (what : Stop) → IsErrOf {T = X} (Err given) what → IsErrOf answer (stopped what)
    stopped_on what failed = let same : given ≡ what = cc in is ∙ ap (λ (s : Stop). err (stopped s)) same
      where
        err : End TwinRefusal → Result Y (End TwinRefusal)
        err e = Err e

-- ---- the spare's history begins the journal's

pub bring_up-requires-clause-fit : goal.bring_up-requires-clause-fit
bring_up-requires-clause-fit g c =
    let store = c.args.store.now in
    let shown = c.history-history.result.now in
    let place = c.agreement-place.result in
    let P = λ (s : Shape). λ (r : Answered). FitsShape s r.column r.rows in
    let fit : All (P store.secret.shape) shown =
    subst (λ (h : List Answered). All (P store.secret.shape) h) (sym c.history-history.ensures.history)
    (legal_fits (table_of store) store.history c.history-history.ensures.is.legal) in
    subst (λ (s : Shape). All (P s) (take (length shown - place) (drop place shown))) (sym c.requires.other.same_shape)
    (All-take (P store.secret.shape) (length shown - place) (drop place shown) (All-drop (P store.secret.shape) place shown fit))

pub returns-in-Ok : goal.returns-in-Ok
returns-in-Ok g c =
    let store = c.args.store.now in
    let main = store.history in
    let shown = c.history-history.result.now in
    let list = c.args.list.now in
    let place = c.agreement-place.result in
    let hist : shown ≡ main = c.history-history.ensures.history in
    let same = same_as_main main shown list place hist c.agreement-place.ensures.same in
    let lacks = take (length shown - place) (drop place shown) in
    let all : main ≡ list ++ lacks = other_lacks main shown list place hist c.agreement-place.ensures.same c.if-place-list.true in
    let shape = c.requires.other.same_shape in
    let journal = c.args.journal.now in
    let old = c.args.spare.now in
    let new = c.bring_up.new.bench in
    let here : g.S.Bench.told → StandsAt (g.S.Bench.file old) journal.shape list journal.gate = λ told.
    subst (λ (s : Shape). StandsAt (g.S.Bench.file old) s list journal.gate) (sym shape) (c.requires.spare_stands told) in
    let many : length list ≡ journal.count = sym c.requires.other.counted in
    record {
      meet = meet_at_other main list place same c.if-place-list.true;
      stands = λ told. c.requires.stands told;
      spare_stands = λ told.
          let gate = c.bring_up.new.journal.gate in
          subst (λ (h : List Answered). StandsAt (g.S.Bench.file new) store.secret.shape h gate) (sym all)
          (subst (λ (s : Shape). StandsAt (g.S.Bench.file new) s (list ++ lacks) gate) (c.bring_up.ensures.shape ∙ shape)
          (c.in-Ok.ensures.done list told (here told) many));
      usable = (
        c.requires.usable,
        record {
          usable = c.in-Ok.ensures.usable;
          same_shape = c.bring_up.ensures.shape ∙ shape;
          counted = omega (arith, c.in-Ok.ensures.counted, many, ap length all, length-append list lacks);
        },
      );
      table = (refl, refl);
      is = c.history-history.ensures.is;
      differ = λ at is. let none : ⊥ = cc in absurd none;
      ends = tt;
      moments = λ whole told quiet meet.
          still_there g.B.Bench store.secret.shape main whole c.args.bench.now store.journal.gate
          (λ image sent was. g.met.B.Bench.only_now c.args.bench.now image sent was) quiet (c.requires.stands told) meet.main_front;
      spare_moments = λ whole told quiet meet.
          while_brought_up g.S.Bench store.secret.shape list whole old new lacks
          (whole_is_main main list whole meet (record { rest = lacks; is = all }) ∙ all)
          (subst (λ (s : Shape). LeavesOnly g.S.Bench old new (IsBroughtUp s list lacks (g.S.Bench.sent old))) shape
          (c.bring_up.ensures.any_moment list told (here told) many quiet));
      no_memory = λ whole told meet refused. no_refusal _ _ refused;
      spare_no_memory = λ whole told meet refused. no_refusal _ _ refused;
      reads = λ at refused. let none : ⊥ = cc in absurd none;
      apart = λ none. absurd (none main (meet_at_other main list place same c.if-place-list.true));
      quiet = λ told quiet fine. quiet;
      spare_quiet = λ told quiet fine. c.in-Ok.ensures.quiet told quiet (λ is. no_refusal _ _ is);
      sent = refl;
      spare_sent = c.bring_up.ensures.sent;
      ticks = λ told. omega (arith, lacks_nothing main);
      spare_ticks = λ told.
          c.in-Ok.ensures.ticks told ∙ ap (λ (l : List Answered). g.S.Bench.moment old + calls_to_bring_up l) (lacks_is list lacks main all);
      main_failed = λ refused. no_refusal _ _ refused;
      spare_failed = λ refused. no_refusal _ _ refused;
      fault = not_called g.B.Bench c.args.bench.now _ (λ is. no_refusal _ _ is);
      spare_fault = told_as g.S.Bench old new _ _ (λ is. no_refusal _ _ is) (λ is. no_refusal _ _ is) c.in-Ok.ensures.fault;
    }

pub returns-in-Err : goal.returns-in-Err
returns-in-Err g c =
    let store = c.args.store.now in
    let main = store.history in
    let shown = c.history-history.result.now in
    let list = c.args.list.now in
    let place = c.agreement-place.result in
    let hist : shown ≡ main = c.history-history.ensures.history in
    let same = same_as_main main shown list place hist c.agreement-place.ensures.same in
    let lacks = take (length shown - place) (drop place shown) in
    let all : main ≡ list ++ lacks = other_lacks main shown list place hist c.agreement-place.ensures.same c.if-place-list.true in
    let shape = c.requires.other.same_shape in
    let journal = c.args.journal.now in
    let old = c.args.spare.now in
    let new = c.bring_up.new.bench in
    let here : g.S.Bench.told → StandsAt (g.S.Bench.file old) journal.shape list journal.gate = λ told.
    subst (λ (s : Shape). StandsAt (g.S.Bench.file old) s list journal.gate) (sym shape) (c.requires.spare_stands told) in
    let many : length list ≡ journal.count = sym c.requires.other.counted in
    let given = c.in-Err.stop in
    let does = c.in-Err.ensures in
    let is : c.turned.result ≡ turned given = c.turned.ensures in
    record {
      meet = tt;
      stands = λ told. tt;
      spare_stands = λ told. tt;
      usable = tt;
      table = (refl, refl);
      is = c.history-history.ensures.is;
      differ = λ at is. let none : ⊥ = cc in absurd none;
      ends = subst IsOfBenches (sym is) (spare_of_benches (turned given) (turned_of_bench given does.ends));
      moments = λ whole told quiet meet.
          still_there g.B.Bench store.secret.shape main whole c.args.bench.now store.journal.gate
          (λ image sent was. g.met.B.Bench.only_now c.args.bench.now image sent was) quiet (c.requires.stands told) meet.main_front;
      spare_moments = λ whole told quiet meet.
          while_brought_up g.S.Bench store.secret.shape list whole old new lacks
          (whole_is_main main list whole meet (record { rest = lacks; is = all }) ∙ all)
          (subst (λ (s : Shape). LeavesOnly g.S.Bench old new (IsBroughtUp s list lacks (g.S.Bench.sent old))) shape
          (c.bring_up.ensures.any_moment list told (here told) many quiet));
      no_memory = λ whole told meet refused.
          still_between store.secret.shape main whole (g.B.Bench.file c.args.bench.now) store.journal.gate (c.requires.stands told) meet.main_front;
      spare_no_memory = λ whole told meet refused.
          some_between store.secret.shape list whole (g.S.Bench.file new) lacks
          (whole_is_main main list whole meet (record { rest = lacks; is = all }) ∙ all)
          (subst (λ (s : Shape). StandsWithSome s list lacks (g.S.Bench.file new)) shape
          (does.no_memory list told (here told) many (turned_back given c.turned.result is stop.NoMemory refused)));
      reads = λ at refused. let none : ⊥ = cc in absurd none;
      apart = λ none. absurd (none main (meet_at_other main list place same c.if-place-list.true));
      quiet = λ told quiet fine. quiet;
      spare_quiet = λ told quiet fine. does.quiet told quiet (λ failed. fine (turned_on given c.turned.result is stop.Bench failed));
      sent = refl;
      spare_sent = c.bring_up.ensures.sent;
      ticks = λ told. tt;
      spare_ticks = λ told. tt;
      main_failed = λ refused. absurd (never_spare given does.ends (turned_back given c.turned.result is stop.Bench refused));
      spare_failed = λ refused. refl;
      fault = not_called g.B.Bench c.args.bench.now _ (λ refused. never_spare given does.ends (turned_back given c.turned.result is stop.Bench refused));
      spare_fault = told_as g.S.Bench old new _ _ (turned_on given c.turned.result is stop.Bench) (turned_back given c.turned.result is stop.Spare) does.fault;
    }

-- ---- they differ

pub returns-then-place-history : goal.returns-then-place-history
returns-then-place-history g c =
    let store = c.args.store.now in
    let main = store.history in
    let shown = c.history-history.result.now in
    let list = c.args.list.now in
    let place = c.agreement-place.result in
    let hist : shown ≡ main = c.history-history.ensures.history in
    record {
      meet = tt;
      stands = λ told. tt;
      spare_stands = λ told. tt;
      usable = tt;
      table = (refl, refl);
      is = c.history-history.ensures.is;
      differ = λ at is.
          let here : place ≡ at = cc in
          let within = c.agreement-place.ensures.within in
          let differ = differ_first shown list place c.agreement-place.ensures.same c.if-place-history.true
          (omega (arith, within.1, c.if-place-list.false)) c.agreement-place.ensures.differ in
          subst (λ (n : ℕ). DifferFirst main list n) here (subst (λ (h : List Answered). DifferFirst h list place) hist differ);
      ends = tt;
      moments = λ whole told quiet meet.
          still_there g.B.Bench store.secret.shape main whole c.args.bench.now store.journal.gate
          (λ image sent was. g.met.B.Bench.only_now c.args.bench.now image sent was) quiet (c.requires.stands told) meet.main_front;
      spare_moments = λ whole told quiet meet.
          still_there g.S.Bench store.secret.shape list whole c.args.spare.now c.args.journal.now.gate
          (λ image sent was. g.met.S.Bench.only_now c.args.spare.now image sent was) quiet (c.requires.spare_stands told) meet.other_front;
      no_memory = λ whole told meet refused. let none : ⊥ = cc in absurd none;
      spare_no_memory = λ whole told meet refused. let none : ⊥ = cc in absurd none;
      reads = λ at refused. (refl, refl);
      apart = λ none. (refl, refl);
      quiet = λ told quiet fine. quiet;
      spare_quiet = λ told quiet fine. quiet;
      sent = refl;
      spare_sent = refl;
      ticks = λ told. tt;
      spare_ticks = λ told. tt;
      main_failed = λ refused. let none : ⊥ = cc in absurd none;
      spare_failed = λ refused. let none : ⊥ = cc in absurd none;
      fault = not_called g.B.Bench c.args.bench.now _ (λ refused. let none : ⊥ = cc in absurd none);
      spare_fault = not_called g.S.Bench c.args.spare.now _ (λ refused. let none : ⊥ = cc in absurd none);
    }

-- ---- the journal's begins the spare's

pub returns : goal.returns
returns g c =
    let store = c.args.store.now in
    let main = store.history in
    let shown = c.history-history.result.now in
    let list = c.args.list.now in
    let place = c.agreement-place.result in
    let hist : shown ≡ main = c.history-history.ensures.history in
    let same = same_as_main main shown list place hist c.agreement-place.ensures.same in
    let at : place ≡ length main = omega (arith, c.if-place-history.false, c.agreement-place.ensures.within.0, ap length hist) in
    let lacks = take (length list - place) (drop place list) in
    let all : list ≡ main ++ lacks = main_lacks main shown list place hist c.agreement-place.ensures.same at in
    let old = c.args.bench.now in
    let new = c.bring_up-2.new.bench in
    let now = c.bring_up-2.new.self in
    let now_is : now.history ≡ list = c.in_ok-bring_up.ensures.history ∙ sym all in
    let secret = c.bring_up-2.ensures.secret in
    record {
      meet = subst (λ (h : List Answered). Meet main list h) (sym now_is) (meet_at_main main list place same at);
      stands = λ told. c.in_ok-bring_up.ensures.stands told;
      spare_stands = λ told.
          let spare = g.S.Bench.file c.args.spare.now in
          let gate = c.args.journal.now.gate in
          subst (λ (h : List Answered). StandsAt spare now.secret.shape h gate) (sym now_is)
          (subst (λ (s : SecretView). StandsAt spare s.shape list gate) (sym secret) (c.requires.spare_stands told));
      usable = (
        c.in_ok-bring_up.ensures.usable,
        record {
          usable = c.requires.other.usable;
          same_shape = c.requires.other.same_shape ∙ ap (λ (s : SecretView). s.shape) (sym secret);
          counted = c.requires.other.counted ∙ ap (λ (h : List Answered). length h) (sym now_is);
        },
      );
      table = (secret, c.bring_up-2.ensures.protected);
      is = c.bring_up-2.ensures.is;
      differ = λ at is. let none : ⊥ = cc in absurd none;
      ends = tt;
      moments = λ whole told quiet meet.
          while_brought_up g.B.Bench store.secret.shape main whole old new lacks
          (whole_is_other main list whole meet (record { rest = lacks; is = all }) ∙ all) (c.bring_up-2.ensures.any_moment told quiet);
      spare_moments = λ whole told quiet meet.
          still_there g.S.Bench store.secret.shape list whole c.args.spare.now c.args.journal.now.gate
          (λ image sent was. g.met.S.Bench.only_now c.args.spare.now image sent was) quiet (c.requires.spare_stands told) meet.other_front;
      no_memory = λ whole told meet refused. no_refusal _ _ refused;
      spare_no_memory = λ whole told meet refused. no_refusal _ _ refused;
      reads = λ at refused. let none : ⊥ = cc in absurd none;
      apart = λ none. absurd (none list (meet_at_main main list place same at));
      quiet = λ told quiet fine. c.in_ok-bring_up.ensures.quiet told quiet (λ is. no_refusal _ _ is);
      spare_quiet = λ told quiet fine. quiet;
      sent = c.bring_up-2.ensures.sent;
      spare_sent = refl;
      ticks = λ told.
          c.in_ok-bring_up.ensures.ticks told
          ∙ ap (λ (l : List Answered). g.B.Bench.moment old + calls_to_bring_up l)
          (lacks_is main lacks list all ∙ ap (λ (h : List Answered). missing main h) (sym now_is));
      spare_ticks = λ told.
          let none = ap (λ (h : List Answered). calls_to_bring_up (missing list h)) now_is ∙ lacks_nothing list in
          omega (arith, none);
      main_failed = λ refused. no_refusal _ _ refused;
      spare_failed = λ refused. no_refusal _ _ refused;
      fault = told_as g.B.Bench old new _ _ (λ is. no_refusal _ _ is) (λ is. no_refusal _ _ is) c.in_ok-bring_up.ensures.fault;
      spare_fault = not_called g.S.Bench c.args.spare.now _ (λ is. no_refusal _ _ is);
    }

pub returns-in_err-bring_up : goal.returns-in_err-bring_up
returns-in_err-bring_up g c =
    let store = c.args.store.now in
    let main = store.history in
    let shown = c.history-history.result.now in
    let list = c.args.list.now in
    let place = c.agreement-place.result in
    let hist : shown ≡ main = c.history-history.ensures.history in
    let same = same_as_main main shown list place hist c.agreement-place.ensures.same in
    let at : place ≡ length main = omega (arith, c.if-place-history.false, c.agreement-place.ensures.within.0, ap length hist) in
    let lacks = take (length list - place) (drop place list) in
    let all : list ≡ main ++ lacks = main_lacks main shown list place hist c.agreement-place.ensures.same at in
    let old = c.args.bench.now in
    let new = c.bring_up-2.new.bench in
    let given = c.in_err-bring_up.field-0.0 in
    let does = c.in_err-bring_up.ensures in
    let answer = c.from_residual.result in
    let refuses = c.from_residual.ensures in
    let is : answer ≡ Err (Stopped given) = is_refusal answer (Stopped given) refuses in
    record {
      meet = IfOk-from_err _ _ refuses.0;
      stands = λ told. IfOk-from_err _ _ refuses.0;
      spare_stands = λ told. IfOk-from_err _ _ refuses.0;
      usable = IfOk-from_err _ _ refuses.0;
      table = (c.bring_up-2.ensures.secret, c.bring_up-2.ensures.protected);
      is = c.bring_up-2.ensures.is;
      differ = λ at refused. let none : ⊥ = cc in absurd none;
      ends = of_refusal answer (Stopped given) refuses (λ r. IfErr r (EndsBy IsOfBenches IsDiffer)) (of_benches given does.ends);
      moments = λ whole told quiet meet.
          while_brought_up g.B.Bench store.secret.shape main whole old new lacks
          (whole_is_other main list whole meet (record { rest = lacks; is = all }) ∙ all) (c.bring_up-2.ensures.any_moment told quiet);
      spare_moments = λ whole told quiet meet.
          still_there g.S.Bench store.secret.shape list whole c.args.spare.now c.args.journal.now.gate
          (λ image sent was. g.met.S.Bench.only_now c.args.spare.now image sent was) quiet (c.requires.spare_stands told) meet.other_front;
      no_memory = λ whole told meet refused.
          some_between store.secret.shape main whole (g.B.Bench.file new) lacks
          (whole_is_other main list whole meet (record { rest = lacks; is = all }) ∙ all)
          (does.no_memory told (stopped_back given answer is stop.NoMemory refused));
      spare_no_memory = λ whole told meet refused.
          still_between store.secret.shape list whole (g.S.Bench.file c.args.spare.now) c.args.journal.now.gate (c.requires.spare_stands told)
          meet.other_front;
      reads = λ at refused. let none : ⊥ = cc in absurd none;
      apart = λ none. absurd (none list (meet_at_main main list place same at));
      quiet = λ told quiet fine. does.quiet told quiet (λ failed. fine (stopped_on given answer is stop.Bench failed));
      spare_quiet = λ told quiet fine. quiet;
      sent = c.bring_up-2.ensures.sent;
      spare_sent = refl;
      ticks = λ told. IfOk-from_err _ _ refuses.0;
      spare_ticks = λ told. IfOk-from_err _ _ refuses.0;
      main_failed = λ refused. refl;
      spare_failed = λ refused. absurd (never_spare given does.ends (stopped_back given answer is stop.Spare refused));
      fault = told_as g.B.Bench old new _ _ (stopped_on given answer is stop.Bench) (stopped_back given answer is stop.Bench) does.fault;
      spare_fault = not_called g.S.Bench c.args.spare.now _ (λ refused. never_spare given does.ends (stopped_back given answer is stop.Spare refused));
    }
