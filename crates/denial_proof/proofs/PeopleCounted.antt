-- The people behind the rows of a walk that pass a test, as they are counted.
use Rattle.std.proofs.Common.{◌≡◌, ℕ, ◌+◌, ◌≤◌, Bool, true, false, not, cond, Option, Some, None, List, [], ◌∷◌, ◌++◌, sym, ap, ◌∙◌, subst, arith, append-nil}
use Rattle.std.specs.Prelude.{IsTrue}
use Rattle.std.specs.List.{filter}
use Rattle.std.specs.Option.{is_some}
use Rattle.std.proofs.lemmas.Bool.{true≢false}
use Rattle.std.proofs.lemmas.List.Elements.{filter-append}
use Rattle.audit_types.specs.Rows.{Rows, with_row, AscendsFrom, AreRows}
use Rattle.audit_types.specs.RowLaws.{walk_more}
use Rattle.audit_types.specs.Headcount.{Headcount, count_at, people_behind, AreFew}
use Rattle.max_bounds.specs.PeopleAmong.{people_together}
use Rattle.max_bounds.specs.RowListLaws.{filter-ascends}
use Rattle.denial_proof.specs.FewRows.{AreFoundFew}
use Rattle.denial_proof.proofs.FewWalks.{with_next}

-- the first rows of ascending ones ascend
ascends_front : (low n : ℕ) (rows later : List ℕ) → AscendsFrom low n (rows ++ later) → AscendsFrom low n rows
ascends_front low n [] later are = tt
ascends_front low n (r ∷ rows) later are = (are.0, are.1, ascends_front (r + 1) n rows later are.2)

-- rows of a walk
module _ (n : ℕ) (people : Headcount) (rows yielded left later : List ℕ) (r : ℕ) (together : yielded ++ left ≡ rows) (first : left ≡ r ∷ later) where
  -- the people behind the rows so far and the next one
  pub people_push : people_behind people.counts (yielded ++ r ∷ []) ≡ people_behind people.counts yielded + count_at people.counts r
  people_push = people_together people.counts yielded (r ∷ []) ∙ omega arith

  -- if these aren't few, all aren't
  pub not_few : people.fewest + people.own ≤ people_behind people.counts yielded + count_at people.counts r → ¬ (AreFew people [] rows)
  not_few most few =
      let all = ap (people_behind people.counts) (sym (walk_more yielded left later rows r together first))
      ∙ people_together people.counts (yielded ++ r ∷ []) later in
      omega (arith, most, few, all, people_push)

  module _ (test : ℕ → Bool) where
    -- of the rows that pass, a next one that does is the last
    last_of : filter test (yielded ++ r ∷ []) ≡ filter test yielded ++ cond (test r) (r ∷ []) []
    last_of = filter-append test yielded (r ∷ [])

    passing : test r ≡ true → filter test (yielded ++ r ∷ []) ≡ filter test yielded ++ r ∷ []
    passing passes = last_of ∙ ap (λ b. filter test yielded ++ cond b (r ∷ []) []) passes

    pub taken : AreRows n rows → test r ≡ true → with_row n (filter test yielded) r ≡ filter test (yielded ++ r ∷ [])
    taken are passes =
        let so_far : AreRows n (yielded ++ r ∷ []) = ascends_front 0 n (yielded ++ r ∷ []) later
        (subst (AreRows n) (sym (walk_more yielded left later rows r together first)) are) in
        with_next n (filter test yielded) r (subst (AreRows n) (passing passes) (filter-ascends 0 n test (yielded ++ r ∷ []) so_far)) ∙ sym (passing passes)

    pub taken_people : test r ≡ true →
        people_behind people.counts (filter test (yielded ++ r ∷ [])) ≡ people_behind people.counts (filter test yielded) + count_at people.counts r
    taken_people passes = ap (people_behind people.counts) (passing passes) ∙ people_together people.counts (filter test yielded) (r ∷ []) ∙ omega arith

    -- one that doesn't changes nothing
    pub passed : test r ≡ false → filter test (yielded ++ r ∷ []) ≡ filter test yielded
    passed fails = last_of ∙ ap (λ b. filter test yielded ++ cond b (r ∷ []) []) fails ∙ append-nil (filter test yielded)

    -- if these aren't few, all that pass aren't
    pub too_many : test r ≡ true → people.fewest + people.own ≤ people_behind people.counts (filter test yielded) + count_at people.counts r →
        ¬ (AreFew people [] (filter test rows))
    too_many passes most few =
        let all = ap (λ list. people_behind people.counts (filter test list)) (sym (walk_more yielded left later rows r together first))
        ∙ ap (people_behind people.counts) (filter-append test (yielded ++ r ∷ []) later)
        ∙ people_together people.counts (filter test (yielded ++ r ∷ [])) (filter test later) in
        let last = taken_people passes in
        omega (arith, most, few, all, last)

-- if nothing was found, more than few people stand behind the rows
pub none_found : (n : ℕ) (people : Headcount) (rows : List ℕ) (found : Option Rows) (b : Bool) → is_some found ≡ not b → AreFoundFew n people rows found →
    IsTrue b → ¬ (AreFew people [] rows)
none_found n people rows None b is many told = many
none_found n people rows (Some few) b is found told = absurd (true≢false (is ∙ ap not told))
