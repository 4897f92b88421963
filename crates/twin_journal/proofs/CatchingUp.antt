-- Histories of which one begins the other, and journals that are brought up to the longer one.
use Rattle.std.proofs.Common.{◌≡◌, ◌≢◌, inl, inr, ℕ, zero, suc, ◌-◌, ◌<◌, List, [], ◌∷◌, ◌++◌, length, take, drop, Some, refl, sym, ap, subst, ◌∙◌, arith, append-nil, append_assoc, length-drop}
use Rattle.std.specs.Prelude.{slice_get}
use Rattle.std.proofs.Math.Seq.{take-length}
use Rattle.std.proofs.lemmas.List.{take-append-drop, take_all}
use Rattle.std.proofs.lemmas.Option.{none-some}
use Rattle.audit_types.specs.declared.shapes.Shape.{Shape}
use Rattle.audit_types.specs.declared.records.Answered.{Answered}
use Rattle.bench_core.specs.declared.bench.Bench.{Ghosts}
use Rattle.bench_core.specs.Calls.{IsQuiet, LeavesOnly}
use Rattle.bench_core.specs.Moments.{started, weakens}
use Rattle.journal_form.specs.Journal.{StandsAt}
use Rattle.audit_store.specs.Twice.{IsBroughtUp, StandsWithSome, calls_to_bring_up}
use Rattle.audit_session.specs.HistoryFacts.{fronts_meet}
use Rattle.audit_session.specs.Stops.{IsFront}
use Rattle.twin_journal.specs.Twins.{CatchesUp, DifferFirst, Meet, StandsBetween, missing}

-- ---- fronts

-- a history begins itself
pub own_front : (history : List Answered) → IsFront history history
own_front history = record { rest = []; is = sym (append-nil history) }

-- if the other history begins the main one, the whole is that
pub whole_is_main : (main other whole : List Answered) → Meet main other whole → IsFront other main → whole ≡ main
whole_is_main main other whole meet front = elim meet.longer [
  | inl is ↦ sym is
  | inr is ↦ sym is ∙ fronts_meet other main front (subst (λ (h : List Answered). IsFront main h) (sym is) meet.main_front)
]

pub whole_is_other : (main other whole : List Answered) → Meet main other whole → IsFront main other → whole ≡ other
whole_is_other main other whole meet front = elim meet.longer [
  | inr is ↦ sym is
  | inl is ↦ sym is ∙ fronts_meet main other front (subst (λ (h : List Answered). IsFront other h) (sym is) meet.other_front)
]

-- the first records begin a history, and the rest follows them
pub front_of_all : (history : List Answered) (k : ℕ) → IsFront (take k history) history
front_of_all history k = record { rest = drop k history; is = sym (take-append-drop k history) }

-- histories that agree as far as the other goes
module _ (main other : List Answered) (place : ℕ) (same : take place main ≡ take place other) where
  pub begins_main : place ≡ length other → main ≡ other ++ drop place main
  begins_main is =
      sym (take-append-drop place main) ∙ ap (λ (l : List Answered). l ++ drop place main) (same ∙ ap (λ (n : ℕ). take n other) is ∙ take-length other)

  pub begins_other : place ≡ length main → other ≡ main ++ drop place other
  begins_other is =
      sym (take-append-drop place other) ∙ ap (λ (l : List Answered). l ++ drop place other) (sym same ∙ ap (λ (n : ℕ). take n main) is ∙ take-length main)

  pub meet_at_other : place ≡ length other → Meet main other main
  meet_at_other is = record { main_front = own_front main; other_front = record { rest = drop place main; is = begins_main is }; longer = inl refl }

  pub meet_at_main : place ≡ length main → Meet main other other
  meet_at_main is = record { main_front = record { rest = drop place other; is = begins_other is }; other_front = own_front other; longer = inr refl }

-- ---- differences

-- a place within a list has an element
pub some_at : (list : List Answered) (i : ℕ) → i < length list → (r : Answered) × (slice_get list i ≡ Some r)
some_at [] i lt = absurd (omega (arith, lt))
some_at (r ∷ list) zero lt = (r, refl)
some_at (r ∷ list) (suc i) lt = let rest = some_at list i (omega (arith, lt)) in (rest.0, rest.1)

-- what stands among the first records stands there in all
pub get_of_front : (list : List Answered) (k i : ℕ) → i < k → slice_get (take k list) i ≡ slice_get list i
get_of_front [] zero i lt = absurd (omega (arith, lt))
get_of_front [] (suc k) i lt = refl
get_of_front (r ∷ list) zero i lt = absurd (omega (arith, lt))
get_of_front (r ∷ list) (suc k) zero lt = refl
get_of_front (r ∷ list) (suc k) (suc i) lt = get_of_front list k i (omega (arith, lt))

-- histories that are the same up to a place, and not there, differ first there
pub differ_first : (main other : List Answered) (place : ℕ) → take place main ≡ take place other → place < length main → place < length other
    → ((a b : Answered) → slice_get main place ≡ Some a → slice_get other place ≡ Some b → a ≢ b) → DifferFirst main other place
differ_first main other place same inside within differ =
    let ours = some_at main place inside in
    let theirs = some_at other place within in
    record {
      ours = ours.0;
      theirs = theirs.0;
      here = ours.1;
      there = theirs.1;
      differ = differ ours.0 theirs.0 ours.1 theirs.1;
      before = λ i lt. sym (get_of_front main place i lt) ∙ ap (λ (l : List Answered). slice_get l i) same ∙ get_of_front other place i lt;
    }

-- what stands in a front stands there in the whole
pub get_in_whole : (front whole : List Answered) (i : ℕ) (r : Answered) → IsFront front whole → slice_get front i ≡ Some r → slice_get whole i ≡ Some r
get_in_whole front whole i r is here = subst (λ (l : List Answered). slice_get l i ≡ Some r) (sym is.is) (in_first front is.rest i here)
  where
    in_first : (first rest : List Answered) (i : ℕ) → slice_get first i ≡ Some r → slice_get (first ++ rest) i ≡ Some r
    in_first [] rest i here = absurd (none-some r here)
    in_first (x ∷ first) rest zero here = here
    in_first (x ∷ first) rest (suc i) here = in_first first rest i here

-- ---- journals

-- a journal that lacks nothing takes no call
pub lacks_nothing : (history : List Answered) → calls_to_bring_up (missing history history) ≡ 0
lacks_nothing history = ap (λ (l : List Answered). calls_to_bring_up l) (none history)
  where
    none : (list : List Answered) → drop (length list) list ≡ []
    none [] = refl
    none (r ∷ list) = none list

module _ (shape : Shape) (history whole : List Answered) (file : List ℕ) where
  -- a file that is left as it was stands for its own history
  pub still_between : (gate : ℕ) → StandsAt file shape history gate → IsFront history whole → StandsBetween shape history whole file
  still_between gate stands front = record { now = history; stands = (gate, stands); from = own_front history; to = front }

  -- with some of the records that it lacks, it stands for a history between its own and the whole
  pub some_between : (lacks : List Answered) → whole ≡ history ++ lacks → StandsWithSome shape history lacks file → StandsBetween shape history whole file
  some_between lacks is some = record {
    now = history ++ take some.0 lacks;
    stands = some.1;
    from = record { rest = take some.0 lacks; is = refl };
    to = record {
      rest = drop some.0 lacks;
      is = is ∙ ap (λ (l : List Answered). history ++ l) (sym (take-append-drop some.0 lacks))
          ∙ sym (append_assoc history (take some.0 lacks) (drop some.0 lacks));
    };
  }

module _ {D : Type 0} (bench : Ghosts D) (shape : Shape) (history whole : List Answered) where
  -- if nothing is called the file stands for its own history
  pub still_there : (at : D) (gate : ℕ) →
      ((image sent : List ℕ) → bench.since at (bench.moment at) image sent → bench.leaves at image × (sent ≡ bench.sent at)) → IsQuiet bench at
      → StandsAt (bench.file at) shape history gate → IsFront history whole → LeavesOnly bench at at (CatchesUp shape history whole (bench.sent at))
  still_there at gate only_now quiet stands front =
      started bench at (CatchesUp shape history whole (bench.sent at)) (λ image sent was.
      let now = only_now image sent was in (
        now.1,
        still_between shape history whole image gate (subst (λ (f : List ℕ). StandsAt f shape history gate) (sym (quiet image now.0)) stands) front,
      ))

  -- while the records are appended that it lacks, it stands for a history between its own and the whole
  pub while_brought_up : (old new : D) (lacks : List Answered) → whole ≡ history ++ lacks →
      LeavesOnly bench old new (IsBroughtUp shape history lacks (bench.sent old))
      → LeavesOnly bench old new (CatchesUp shape history whole (bench.sent old))
  while_brought_up old new lacks is found =
      weakens bench old new (IsBroughtUp shape history lacks (bench.sent old)) (CatchesUp shape history whole (bench.sent old))
      (λ image sent has. (has.0, some_between shape history whole image lacks is has.1)) found

-- ---- what is missing, as it is cut from the longer history

module _ (main shown other : List Answered) (place : ℕ) (is : shown ≡ main) (same : take place shown ≡ take place other) where
  pub same_as_main : take place main ≡ take place other
  same_as_main = ap (λ (l : List Answered). take place l) (sym is) ∙ same

  pub other_lacks : place ≡ length other → main ≡ other ++ take (length shown - place) (drop place shown)
  other_lacks at =
      begins_main main other place same_as_main at
      ∙ ap (λ (l : List Answered). other ++ l)
      (ap (λ (l : List Answered). drop place l) (sym is) ∙ sym (take_all (length shown - place) (drop place shown) (omega (arith, length-drop place shown))))

  pub main_lacks : place ≡ length main → other ≡ main ++ take (length other - place) (drop place other)
  main_lacks at =
      begins_other main other place same_as_main at
      ∙ ap (λ (l : List Answered). main ++ l) (sym (take_all (length other - place) (drop place other) (omega (arith, length-drop place other))))
