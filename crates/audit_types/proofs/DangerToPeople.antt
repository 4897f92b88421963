-- A question over lines is dangerous exactly if it would be over the people behind them.
--
-- What is told of people over lines is what the lines tell. So people and lines agree with the same answers; and people can be found for all
-- numbers of lines. A line of one person tells her number; of a line with more the number of one may always be another.
use Rattle.std.proofs.Common.{◌≡◌, ◌≢◌, ℕ, ◌<◌, ℤ, pos, List, [], ◌∷◌, map, length, refl, sym, ap, ◌∙◌, subst, arith, inl, inr}
use Rattle.std.specs.Prelude.{slice_set}
use Rattle.std.specs.List.{AllByRecursion, range_with_len}
use Rattle.std.proofs.lemmas.Bool.{cases_lt}
use Rattle.std.proofs.lemmas.List.{get_or-map, get_or-set_same, length-map, ext_get_or}
use Rattle.std.proofs.lemmas.List.FromFn.{length-map-range_with_len, get_or-map-range_with_len}
use Rattle.std.proofs.Math.Seq.{map-set_same}
use Rattle.audit_types.specs.declared.shapes.Kind.{Kind}
use Rattle.audit_types.specs.Rows.{AreRows}
use Rattle.audit_types.specs.FilteredRows.{rows_within}
use Rattle.audit_types.specs.Truth.{number_at, truth}
use Rattle.audit_types.specs.ListLaws.{all-get_or}
use Rattle.audit_types.specs.Column.{Answer, AreSameAt, GivesSameAnswers, IsDangerous, IsGuarded, number, greatest, total}
use Rattle.audit_types.specs.Headcount.{AreFew, count_at}
use Rattle.audit_types.specs.People.{People, of_line, of_lines, told}
use Rattle.audit_types.specs.OutsiderLaws.{nobody}
use Rattle.audit_types.specs.PeopleLaws.{DangerIsThatOfPeople, known_over, AgreeOver, EndangersSomebody}
use Rattle.audit_types.proofs.PeopleBehind.{truth_is_over_people, spread, told-spread, length-spread, single, other_told}

-- as many people as counts that are not 0: each line has somebody
somebody : (people : People) → AllByRecursion (λ count. 0 < count) (map length people) → AllByRecursion (λ numbers. numbers ≢ []) people
somebody [] some = tt
somebody (numbers ∷ people) some = ((λ none. let short = ap length none in let more = some.0 in absurd (omega arith)), somebody people some.1)

module _ (kind : Kind) (counts : List ℕ) (some : AllByRecursion (λ count. 0 < count) counts) where
  -- the lines tell what is told of the people
  lines_tell : (people : People) → map length people ≡ counts → (rows : List ℕ) → AreRows (length counts) rows →
      truth kind (map (told kind) people) rows ≡ told kind (of_lines people rows)
  lines_tell people counted rows are =
      let long : length people ≡ length counts = sym (length-map people length) ∙ ap length counted in
      truth_is_over_people kind people rows (somebody people (subst (AllByRecursion (λ count. 0 < count)) (sym counted) some))
      (rows_within 0 (length counts) (length people) rows (omega arith) are)

  -- so if people agree with answers, their lines do
  same_of_lines : (people : People) → map length people ≡ counts → (answers : List Answer) → AllByRecursion (λ a. AreRows (length counts) a.rows) answers →
      AllByRecursion (λ a. told kind (of_lines people a.rows) ≡ a.value) answers →
      AllByRecursion (λ a. truth kind (map (told kind) people) a.rows ≡ a.value) answers
  same_of_lines people counted [] are same = tt
  same_of_lines people counted (a ∷ answers) are same = (lines_tell people counted a.rows are.0 ∙ same.0, same_of_lines people counted answers are.1 same.1)

  same_of_people : (people : People) → map length people ≡ counts → (answers : List Answer) → AllByRecursion (λ a. AreRows (length counts) a.rows) answers →
      AllByRecursion (λ a. truth kind (map (told kind) people) a.rows ≡ a.value) answers →
      AllByRecursion (λ a. told kind (of_lines people a.rows) ≡ a.value) answers
  same_of_people people counted [] are same = tt
  same_of_people people counted (a ∷ answers) are same =
      (sym (lines_tell people counted a.rows are.0) ∙ same.0, same_of_people people counted answers are.1 same.1)

  -- people for all numbers of lines
  module _ (w : List ℤ) (long : length w ≡ length counts) where
    abbrev pub behind : People
    behind = map (λ line. spread kind (count_at counts line) (number_at w line)) (range_with_len 0 (length counts))

    behind_long : length behind ≡ length counts
    behind_long = length-map-range_with_len (λ line. spread kind (count_at counts line) (number_at w line)) 0 (length counts)

    behind_at : (line : ℕ) → line < length counts → of_line behind line ≡ spread kind (count_at counts line) (number_at w line)
    behind_at line below = get_or-map-range_with_len (λ k. spread kind (count_at counts k) (number_at w k)) 0 (length counts) line line [] below (omega arith)

    pub behind_counted : map length behind ≡ counts
    behind_counted = ext_get_or 1 (map length behind) counts (length-map behind length ∙ behind_long) (λ k lt.
        let below : k < length counts = omega (arith, length-map behind length, behind_long) in
        get_or-map length behind k [] 1 (omega (arith, behind_long)) ∙ ap length (behind_at k below) ∙ length-spread kind (count_at counts k) (number_at w k))

    pub behind_told : map (told kind) behind ≡ w
    behind_told = ext_get_or (pos 0) (map (told kind) behind) w (length-map behind (told kind) ∙ behind_long ∙ sym long) (λ k lt.
        let below : k < length counts = omega (arith, length-map behind (told kind), behind_long) in
        get_or-map (told kind) behind k [] (pos 0) (omega (arith, behind_long)) ∙ ap (told kind) (behind_at k below)
        ∙ told-spread kind (count_at counts k) (number_at w k) (all-get_or (λ count. 0 < count) counts k 1 some below))

  -- one person of a line tells the line's number
  alone : (people : People) → map length people ≡ counts → (line : ℕ) → line < length counts → count_at counts line ≡ 1 →
      number_at (of_line people line) 0 ≡ number_at (map (told kind) people) line
  alone people counted line below one =
      let long : length people ≡ length counts = sym (length-map people length) ∙ ap length counted in
      let as_many : length (of_line people line) ≡ 1 = sym (get_or-map length people line [] 1 (omega arith)) ∙ ap (λ c. count_at c line) counted ∙ one in
      sym (single kind (of_line people line) as_many) ∙ sym (get_or-map (told kind) people line [] (pos 0) (omega arith))

  module _ (answers : List Answer) (rows : List ℕ) (answer_rows : AllByRecursion (λ a. AreRows (length counts) a.rows) answers)
      (are : AreRows (length counts) rows) where
    -- from lines to people
    guarded_line : {value : List ℤ → ℤ} → IsGuarded (known_over kind counts answers) [] value →
        (line : ℕ) × (line < length counts) × (count_at counts line ≡ 1) × ((w : List ℤ) → value w ≡ number_at w line)
    guarded_line (number line below other few) =
        let least = all-get_or (λ count. 0 < count) counts line 1 some below in
        (line, below, omega (arith, few, least), λ w. refl)
    guarded_line (greatest [] maxima are more others few) = absurd (more refl)
    guarded_line (greatest (line ∷ []) maxima are more others few) =
        let least = all-get_or (λ count. 0 < count) counts line 1 some are.1 in
        (line, are.1, omega (arith, few, least), λ w. refl)
    guarded_line (greatest (line ∷ next ∷ lines) maxima are more others few) =
        let first = all-get_or (λ count. 0 < count) counts line 1 some are.1 in
        let second = all-get_or (λ count. 0 < count) counts next 1 some are.2.1 in
        absurd (omega (arith, few, first, second))
    guarded_line (total group row one inside other) = let k = one.1 in absurd (omega arith)

    to_people : IsDangerous (known_over kind counts answers) rows → EndangersSomebody kind counts answers rows
    to_people danger =
        let nobody = nobody danger.own danger.are_own.1 in
        let found = guarded_line (subst (λ own. IsGuarded (known_over kind counts answers) own danger.value) nobody danger.guarded) in
        let people = behind danger.w danger.agrees.one_each in
        let counted = behind_counted danger.w danger.agrees.one_each in
        let tells = behind_told danger.w danger.agrees.one_each in
        record {
          people = people;
          agree = record {
            counted = counted;
            same = same_of_people people counted answers answer_rows
                (subst (λ w. AllByRecursion (λ a. truth kind w a.rows ≡ a.value) answers) (sym tells) danger.agrees.same);
          };
          line = found.0;
          person = 0;
          line_below = found.1;
          person_below = omega (arith, found.2);
          disclosed = λ others agree same.
              let v = map (told kind) others in
              let long : length v ≡ length counts = length-map others (told kind) ∙ sym (length-map others length) ∙ ap length agree.counted in
              let gives : GivesSameAnswers (known_over kind counts answers) rows danger.w v = record {
                agrees = record { one_each = long; same = same_of_lines others agree.counted answers answer_rows agree.same };
                same = lines_tell others agree.counted rows are ∙ same ∙ sym (lines_tell people counted rows are) ∙ ap (λ w. truth kind w rows) tells;
              } in
              alone others agree.counted found.0 found.1 found.2 ∙ sym (found.3 v) ∙ danger.disclosed v gives
              (subst (λ own. AreSameAt own danger.w v) (sym nobody) tt) ∙ found.3 danger.w
              ∙ ap (λ w. number_at w found.0) (sym tells) ∙ sym (alone people counted found.0 found.1 found.2);
        }

    -- from people to lines
    module _ (danger : EndangersSomebody kind counts answers rows) where
      long : length (map (told kind) danger.people) ≡ length counts
      long = length-map danger.people (told kind) ∙ sym (length-map danger.people length) ∙ ap length danger.agree.counted

      inside : danger.line < length danger.people
      inside = let all = sym (length-map danger.people length) ∙ ap length danger.agree.counted in omega (arith, danger.line_below, all)

      as_many : length (of_line danger.people danger.line) ≡ count_at counts danger.line
      as_many = sym (get_or-map length danger.people danger.line [] 1 inside) ∙ ap (λ c. count_at c danger.line) danger.agree.counted

      -- of a line with several people nobody's number is disclosed
      not_several : 1 < count_at counts danger.line → ⊥
      not_several more =
          let other = other_told kind (count_at counts danger.line) (told kind (of_line danger.people danger.line)) danger.person
          (number_at (of_line danger.people danger.line) danger.person) more danger.person_below in
          let others = slice_set danger.people danger.line other.numbers in
          let counted : map length others ≡ counts =
          map-set_same length danger.people danger.line other.numbers [] (other.long ∙ sym as_many) ∙ danger.agree.counted in
          let tells : map (told kind) others ≡ map (told kind) danger.people = map-set_same
          (told kind) danger.people danger.line other.numbers [] other.tells in
          let agree : AgreeOver kind counts answers others = record {
            counted = counted;
            same = same_of_people others counted answers answer_rows
                (subst (λ v. AllByRecursion (λ a. truth kind v a.rows ≡ a.value) answers) (sym tells)
                (same_of_lines danger.people danger.agree.counted answers answer_rows danger.agree.same));
          } in
          let same = sym (lines_tell others counted rows are) ∙ ap (λ v. truth kind v rows) tells ∙ lines_tell danger.people danger.agree.counted rows are in
          other.differs (ap (λ l. number_at l danger.person) (sym (get_or-set_same danger.people danger.line other.numbers [] inside))
          ∙ danger.disclosed others agree same)

      one : count_at counts danger.line ≡ 1
      one = elim (cases_lt 1 (count_at counts danger.line)) [
        | inl more ↦ absurd (not_several more)
        | inr most ↦ let least = all-get_or (λ count. 0 < count) counts danger.line 1 some danger.line_below in omega arith
      ]

      few : AreFew (record { counts = counts; fewest = 2; own = 0 }) [] (danger.line ∷ [])
      few = let alone_there = one in omega (arith, alone_there)

      first : danger.person ≡ 0
      first = let below = danger.person_below in let single_there = one in omega arith

      of_lines_danger : IsDangerous (known_over kind counts answers) rows
      of_lines_danger = record {
        w = map (told kind) danger.people;
        agrees = record { one_each = long; same = same_of_lines danger.people danger.agree.counted answers answer_rows danger.agree.same };
        own = [];
        are_own = (tt, omega arith, tt);
        value = λ v. number_at v danger.line;
        guarded = number danger.line danger.line_below refl few;
        disclosed = λ v gives also.
            let others = behind v gives.agrees.one_each in
            let counted = behind_counted v gives.agrees.one_each in
            let tells = behind_told v gives.agrees.one_each in
            let agree : AgreeOver kind counts answers others = record {
              counted = counted;
              same = same_of_people others counted answers answer_rows
                  (subst (λ u. AllByRecursion (λ a. truth kind u a.rows ≡ a.value) answers) (sym tells) gives.agrees.same);
            } in
            let same = sym (lines_tell others counted rows are) ∙ ap (λ u. truth kind u rows) tells ∙ gives.same
            ∙ lines_tell danger.people danger.agree.counted rows are in
            let there = danger.disclosed others agree same in
            ap (λ u. number_at u danger.line) (sym tells) ∙ sym (alone others counted danger.line danger.line_below one)
            ∙ ap (number_at (of_line others danger.line)) (sym first) ∙ there ∙ ap (number_at (of_line danger.people danger.line)) first
            ∙ alone danger.people danger.agree.counted danger.line danger.line_below one;
      }

pub danger_is_that_of_people : DangerIsThatOfPeople
danger_is_that_of_people kind counts answers rows some answer_rows are =
    (to_people kind counts some answers rows answer_rows are, of_lines_danger kind counts some answers rows answer_rows are)
