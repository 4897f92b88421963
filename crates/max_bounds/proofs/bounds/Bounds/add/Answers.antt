use Rattle.std.proofs.Common.{ℕ, Vec, Global, ◌≡◌, ◌≤◌, ◌++◌, ◌∷◌, [], List, Some, arith, sym, ap, ◌∙◌, subst, length, map, cond, min, to_z, of_z}
use Rattle.std.specs.Int.{w64}
use Rattle.std.specs.List.{AllByRecursion, insert}
use Rattle.std.proofs.lemmas.List.Edits.{insert_end}
use Rattle.std.proofs.Math.Path.{fun_ext}
use Rattle.std.proofs.lemmas.Int.{to_z-of_z}
use Rattle.std.specs.Vec.{with_items}
use Rattle.std.proofs.lemmas.List.{map-append, with_items_is}
use Rattle.audit_types.specs.Rows.{AreRows, has_row}
use Rattle.audit_types.specs.Column.{Answer}
use Rattle.audit_types.specs.Extremes.{upper_bound, extremes}
use Rattle.max_bounds.specs.Maxima.{Maxima, ListOfMaxima, answer_of, answers_of, and_answer}
use Rattle.max_bounds.specs.Reaching.{bound_at}
use Rattle.max_bounds.specs.Kept.{is_at_least, rows_at_least, rows_above, fewest_of, AreLeast, Descend, IsHigh, TellsExtremes, IsKept}
use Rattle.max_bounds.specs.Marks.{marks_of}
use Rattle.max_bounds.specs.declared.answered.AnsweredMax.{AnsweredMax}
use Rattle.max_bounds.specs.declared.bounds.Bounds.TheInside.{Inside}
use Rattle.max_bounds.specs.declared.marks.Marking.{Marking}
use Rattle.max_bounds.specs.declared.marks.Marks.{Marks}
use Rattle.audit_types.specs.ListLaws.{all-push}
use Rattle.max_bounds.proofs.FailedCalls.{no_ok, at_err}
use Rattle.max_bounds.proofs.FallingCounts.{fewest_of-push}
use Rattle.max_bounds.proofs.HighRows.{all_stay, least_low}
use Rattle.max_bounds.specs.OneMoreLaws.{bound_in_set}
use Rattle.max_bounds.proofs.NextExtremes.{next_extremes, next_bounds}
use Rattle.max_bounds.proofs.bounds.Bounds.add.Goals as goal

pub insert-requires-clause-own : goal.insert-requires-clause-own
insert-requires-clause-own c =
    let answers = answers_of c.self.inside.pairs.items in
    let rows = c.args.rows.now.list in
    let x = to_z w64 (of_z w64 c.args.answer) in
    let bounds : bound_at c.deref-2.result.now ≡ upper_bound answers = ap bound_at c.deref-2.ensures.value ∙ fun_ext c.self.invariant.bounds in
    let before : answers ≡ answers_of c.make_room.new.pairs.items = sym (ap answers_of c.in_ok-make_room.ensures.pairs) in
    c.reach_high-affected.ensures.extremes ∙ ap (λ u. rows_at_least u x rows) bounds ∙ next_extremes answers rows x
    ∙ ap (λ a. extremes (and_answer a rows x) (record { rows = rows; value = x })) before

pub renew_high-requires-clause-low : goal.renew_high-requires-clause-low
renew_high-requires-clause-low c =
    let answers = answers_of c.self.inside.pairs.items in
    let rows = c.args.rows.now.list in
    let x = to_z w64 (of_z w64 c.args.answer) in
    let bounds : bound_at c.deref-2.result.now ≡ upper_bound answers = ap bound_at c.deref-2.ensures.value ∙ fun_ext c.self.invariant.bounds in
    let upper_is : (with_items c.self.inside.upper c.settle.new.upper).items ≡ c.settle.new.upper =
    with_items_is c.self.inside.upper c.settle.new.upper (c.settle.auto.upper ∙ c.deref_mut-2.ensures.len) in
    let reached : c.reach_high-affected.result.extremes.list ≡ rows_at_least (upper_bound answers) x rows = c.reach_high-affected.ensures.extremes
    ∙ ap (λ u. rows_at_least u x rows) bounds in
    λ r cut there higher. ap (is_at_least cut) (ap (λ l. bound_at l r) (c.deref-4.ensures.value ∙ upper_is) ∙ c.settle.ensures.settled r
    ∙ ap (λ l. cond (has_row l r) (Some x) (bound_at c.deref_mut-2.result.now r)) reached
    ∙ ap (λ o. cond (has_row (rows_at_least (upper_bound answers) x rows) r) (Some x) o)
    (ap (λ l. bound_at l r) c.deref_mut-2.ensures.value ∙ c.self.invariant.bounds r)
    ∙ next_bounds answers rows x r ∙ bound_in_set answers rows x r there)
    ∙ least_low (upper_bound answers r) x cut higher

pub renew_high-requires-clause-high : goal.renew_high-requires-clause-high
renew_high-requires-clause-high c =
    let rows = c.args.rows.now.list in
    let x = to_z w64 (of_z w64 c.args.answer) in
    let upper = c.self.inside.upper.items in
    let same_n : c.args.rows.now.n ≡ c.self.inside.n = c.requires.same_n ∙ sym (ap (λ (m : Maxima). m.n) c.self.view_is) in
    let upper_is : (with_items c.self.inside.upper c.settle.new.upper).items ≡ c.settle.new.upper =
    with_items_is c.self.inside.upper c.settle.new.upper (c.settle.auto.upper ∙ c.deref_mut-2.ensures.len) in
    let reached : c.reach_high-affected.result.extremes.list ≡ rows_at_least (bound_at upper) x rows = c.reach_high-affected.ensures.extremes
    ∙ ap (λ l. rows_at_least (bound_at l) x rows) c.deref-2.ensures.value in
    subst (λ n. AllByRecursion (IsHigh n (bound_at c.deref-4.result.now)) c.self.inside.high.items) (sym same_n)
    (all_stay c.self.inside.n (bound_at upper) (bound_at c.deref-4.result.now) x rows c.self.inside.high.items c.self.invariant.high (λ r.
    ap (λ l. bound_at l r) (c.deref-4.ensures.value ∙ upper_is) ∙ c.settle.ensures.settled r
    ∙ ap (λ l. cond (has_row l r) (Some x) (bound_at c.deref_mut-2.result.now r)) reached
    ∙ ap (λ l. cond (has_row (rows_at_least (bound_at upper) x rows) r) (Some x) (bound_at l r)) c.deref_mut-2.ensures.value))

pub invariant_of-self-2 : goal.invariant_of-self-2
invariant_of-self-2 c =
    let answers = answers_of c.self.inside.pairs.items in
    let rows = c.args.rows.now.list in
    let x = to_z w64 (of_z w64 c.args.answer) in
    let last : Answer = record { rows = rows; value = x } in
    let more : List Answer = and_answer answers rows x in
    let same_n : c.args.rows.now.n ≡ c.self.inside.n = c.requires.same_n ∙ sym (ap (λ (m : Maxima). m.n) c.self.view_is) in
    let pair : AnsweredMax = record { rows = c.args.rows.now; answer = x } in
    let pairs_are : c.insert_reserved.new.self.items ≡ c.self.inside.pairs.items ++ pair ∷ [] = c.insert_reserved.ensures.inserted
    ∙ ap (λ k. insert c.make_room.new.pairs.items k pair) c.len-last.ensures ∙ insert_end c.make_room.new.pairs.items pair
    ∙ ap (λ l. l ++ pair ∷ []) c.in_ok-make_room.ensures.pairs in
    let answers_are : answers_of c.insert_reserved.new.self.items ≡ more = ap answers_of pairs_are ∙ map-append answer_of c.self.inside.pairs.items _ in
    let bounds : bound_at c.deref-2.result.now ≡ upper_bound answers = ap bound_at c.deref-2.ensures.value ∙ fun_ext c.self.invariant.bounds in
    let reached : c.reach_high-affected.result.extremes.list ≡ rows_at_least (upper_bound answers) x rows = c.reach_high-affected.ensures.extremes
    ∙ ap (λ u. rows_at_least u x rows) bounds in
    let own : c.reach_high-affected.result.extremes.list ≡ extremes more last = reached ∙ next_extremes answers rows x in
    let fallen : TellsExtremes (extremes more) answers c.fall-fewest.new.counts c.fall-fewest.result (answers_of c.fall-fewest.new.least.items) =
    subst (λ l. TellsExtremes (extremes (and_answer (answers_of l) rows x)) (answers_of l) c.fall-fewest.new.counts c.fall-fewest.result
    (answers_of c.fall-fewest.new.least.items)) c.in_ok-make_room.ensures.pairs c.fall-fewest.ensures.tells in
    let count : c.len-count.result ≡ length (extremes more last) = c.len-count.ensures ∙ ap length own in
    let counts_are : c.push_reserved.new.self.items ≡ c.fall-fewest.new.counts ++ c.len-count.result ∷ [] =
    c.push_reserved.ensures.items
    ∙ ap (λ l. l ++ c.len-count.result ∷ [])
    (with_items_is c.make_room.new.counts c.fall-fewest.new.counts (c.fall-fewest.auto.counts ∙ c.deref_mut.ensures.len)) in
    let upper_is : (with_items c.self.inside.upper c.settle.new.upper).items ≡ c.settle.new.upper =
    with_items_is c.self.inside.upper c.settle.new.upper (c.settle.auto.upper ∙ c.deref_mut-2.ensures.len) in
    let small : c.len-count.result ≤ 65535 = omega (arith, c.len-count.type_inv) in
    record {
      at_most = c.self.invariant.at_most;
      same_n =
          subst (AllByRecursion (λ p. p.rows.n ≡ c.self.inside.n)) (sym pairs_are)
          (all-push (λ p. p.rows.n ≡ c.self.inside.n) c.self.inside.pairs.items
          (record { rows = c.args.rows.now; answer = x }) c.self.invariant.same_n same_n);
      are_rows = subst (AllByRecursion (λ a. AreRows c.self.inside.n a.rows)) (sym answers_are)
          (all-push (λ a. AreRows c.self.inside.n a.rows) answers last c.self.invariant.are_rows (subst (λ n. AreRows n rows) same_n c.n.ensures.are_rows));
      one_each = ap length upper_is ∙ c.settle.auto.upper ∙ ap length c.deref_mut-2.ensures.value ∙ c.self.invariant.one_each;
      bounds = λ r. ap (λ l. bound_at l r) upper_is ∙ c.settle.ensures.settled r
          ∙ ap (λ l. cond (has_row l r) (Some x) (bound_at c.deref_mut-2.result.now r)) reached
          ∙ ap (λ o. cond (has_row (rows_at_least (upper_bound answers) x rows) r) (Some x) o)
          (ap (λ l. bound_at l r) c.deref_mut-2.ensures.value ∙ c.self.invariant.bounds r)
          ∙ next_bounds answers rows x r ∙ ap (λ l. upper_bound l r) (sym answers_are);
      table = c.insert_reserved.ensures.n ∙ c.in_ok-make_room.ensures.pairs_n ∙ c.self.invariant.table;
      same_n_least = c.insert.ensures.n ∙ c.fall-fewest.ensures.n ∙ c.in_ok-make_room.ensures.least_n ∙ c.self.invariant.same_n_least;
      descend = c.insert.ensures.descend;
      marked = c.insert.ensures.marked;
      high =
          subst (λ l. AllByRecursion (IsHigh c.self.inside.n (bound_at l)) c.renew_high.new.high.items) c.deref-4.ensures.value
          (subst (λ n. AllByRecursion (IsHigh n (bound_at c.deref-4.result.now)) c.renew_high.new.high.items) same_n c.renew_high.ensures);
      tells = subst (λ l. TellsExtremes (extremes l) l c.push_reserved.new.self.items c.min-self-inside.result (answers_of c.insert.new.least.items))
          (sym answers_are) (record {
            counted = counts_are ∙ ap (λ l. l ++ c.len-count.result ∷ []) fallen.counted ∙ ap (λ k. map (λ a. length (extremes more a)) answers ++ k ∷ []) count
                ∙ sym (map-append (λ a. length (extremes more a)) answers (last ∷ []));
            fewest_is = c.min-self-inside.ensures ∙ ap (λ f. min f c.len-count.result) fallen.fewest_is
                ∙ sym (ap fewest_of counts_are ∙ fewest_of-push c.fall-fewest.new.counts c.len-count.result small);
            are_least =
                subst (λ l. AreLeast (extremes (and_answer (answers_of l) rows x)) (and_answer (answers_of l) rows x) (answers_of c.insert.new.least.items))
                c.in_ok-make_room.ensures.pairs c.insert.ensures.tells;
          });
    }

pub returns-clause-ok : goal.returns-clause-ok
returns-clause-ok c =
    let answers = answers_of c.self.inside.pairs.items in
    let rows = c.args.rows.now.list in
    let x = to_z w64 (of_z w64 c.args.answer) in
    let same : x ≡ c.args.answer = to_z-of_z w64 c.args.answer c.ranges.answer in
    let pair : AnsweredMax = record { rows = c.args.rows.now; answer = x } in
    let pairs_are : c.insert_reserved.new.self.items ≡ c.self.inside.pairs.items ++ pair ∷ [] = c.insert_reserved.ensures.inserted
    ∙ ap (λ k. insert c.make_room.new.pairs.items k pair) c.len-last.ensures ∙ insert_end c.make_room.new.pairs.items pair
    ∙ ap (λ l. l ++ pair ∷ []) c.in_ok-make_room.ensures.pairs in
    let answers_are : answers_of c.insert_reserved.new.self.items ≡ and_answer answers rows x = ap answers_of pairs_are
    ∙ map-append answer_of c.self.inside.pairs.items _ in
    ap (λ (l : List Answer). record { n = c.self.inside.n; answers = l }) (answers_are ∙ ap (and_answer answers rows) same)
    ∙ ap (λ (m : Maxima). record { n = m.n; answers = and_answer m.answers rows c.args.answer }) c.self.view_is

-- the same items are kept
same_items : (b : Inside) (pairs least : ListOfMaxima) (counts : Vec ℕ Global) (marks : Marks) → pairs.n ≡ b.pairs.n → least.n ≡ b.least.n
    → pairs.items ≡ b.pairs.items → counts.items ≡ b.counts.items → least.items ≡ b.least.items
    → ((marking : Marking) → marks_of marking marks ≡ marks_of marking b.marks) → IsKept b
    → IsKept (record { n = b.n; pairs = pairs; upper = b.upper; counts = counts; fewest = b.fewest; least = least; marks = marks; high = b.high })
same_items b pairs least counts marks m k p q s t kept = record {
  at_most = kept.at_most;
  table = m ∙ kept.table;
  same_n = subst (AllByRecursion (λ a. a.rows.n ≡ b.n)) (sym p) kept.same_n;
  are_rows = subst (λ l. AllByRecursion (λ a. AreRows b.n a.rows) (answers_of l)) (sym p) kept.are_rows;
  one_each = kept.one_each;
  bounds = λ r. kept.bounds r ∙ ap (λ l. upper_bound (answers_of l) r) (sym p);
  same_n_least = k ∙ kept.same_n_least;
  descend = subst (λ l. Descend (answers_of l)) (sym s) kept.descend;
  marked = λ marking. rw (s, t marking) (kept.marked marking);
  high = kept.high;
  tells = rw (p, q, s) kept.tells;
}

pub invariant_of-self : goal.invariant_of-self
invariant_of-self c =
    same_items c.self.inside c.make_room.new.pairs c.make_room.new.least c.make_room.new.counts c.make_room.new.marks c.in_err-make_room.ensures.pairs_n
    c.in_err-make_room.ensures.least_n c.in_err-make_room.ensures.pairs c.in_err-make_room.ensures.counts c.in_err-make_room.ensures.least
    c.in_err-make_room.ensures.marks c.self.invariant

pub reach_high-affected-requires-clause-high : goal.reach_high-affected-requires-clause-high
reach_high-affected-requires-clause-high c =
    let same_n : c.args.rows.now.n ≡ c.self.inside.n = c.requires.same_n ∙ sym (ap (λ (m : Maxima). m.n) c.self.view_is) in
    rw (c.deref.ensures.value, c.deref-2.ensures.value, same_n) c.self.invariant.high

pub fall-fewest-requires-clause-same_n : goal.fall-fewest-requires-clause-same_n
fall-fewest-requires-clause-same_n c =
    let same_n : c.args.rows.now.n ≡ c.self.inside.n = c.requires.same_n ∙ sym (ap (λ (m : Maxima). m.n) c.self.view_is) in
    c.in_ok-make_room.ensures.pairs_n ∙ c.self.invariant.table ∙ sym same_n

pub fall-fewest-requires-clause-same_n_least : goal.fall-fewest-requires-clause-same_n_least
fall-fewest-requires-clause-same_n_least c =
    let same_n : c.args.rows.now.n ≡ c.self.inside.n = c.requires.same_n ∙ sym (ap (λ (m : Maxima). m.n) c.self.view_is) in
    c.in_ok-make_room.ensures.least_n ∙ c.self.invariant.same_n_least ∙ sym same_n

pub fall-fewest-requires-clause-are_rows : goal.fall-fewest-requires-clause-are_rows
fall-fewest-requires-clause-are_rows c =
    let same_n : c.args.rows.now.n ≡ c.self.inside.n = c.requires.same_n ∙ sym (ap (λ (m : Maxima). m.n) c.self.view_is) in
    subst (λ l. AllByRecursion (λ a. AreRows c.args.rows.now.n a.rows) (answers_of l)) (sym c.in_ok-make_room.ensures.pairs)
    (subst (λ n. AllByRecursion (λ a. AreRows n a.rows) (answers_of c.self.inside.pairs.items)) (sym same_n) c.self.invariant.are_rows)

pub fall-fewest-requires-clause-bounds : goal.fall-fewest-requires-clause-bounds
fall-fewest-requires-clause-bounds c = λ r.
    ap (λ l. bound_at l r) c.deref-3.ensures.value ∙ c.self.invariant.bounds r
    ∙ ap (λ l. upper_bound (answers_of l) r) (sym c.in_ok-make_room.ensures.pairs)

pub fall-fewest-requires-clause-falling : goal.fall-fewest-requires-clause-falling
fall-fewest-requires-clause-falling c =
    c.reach_high-affected.ensures.falling
    ∙ ap (λ l. rows_above (bound_at l) (to_z w64 (of_z w64 c.args.answer)) c.args.rows.now.list) (c.deref-2.ensures.value ∙ sym c.deref-3.ensures.value)

pub fall-fewest-requires-clause-descend : goal.fall-fewest-requires-clause-descend
fall-fewest-requires-clause-descend c =
    subst (λ l. Descend (answers_of l)) (sym c.in_ok-make_room.ensures.least) c.self.invariant.descend

pub fall-fewest-requires-clause-told : goal.fall-fewest-requires-clause-told
fall-fewest-requires-clause-told c =
    rw (
      c.in_ok-make_room.ensures.pairs,
      c.deref_mut.ensures.value ∙ c.in_ok-make_room.ensures.counts,
      c.in_ok-make_room.ensures.least,
    )
    c.self.invariant.tells

pub insert-requires-clause-same_n_least : goal.insert-requires-clause-same_n_least
insert-requires-clause-same_n_least c =
    let same_n : c.args.rows.now.n ≡ c.self.inside.n = c.requires.same_n ∙ sym (ap (λ (m : Maxima). m.n) c.self.view_is) in
    c.fall-fewest.ensures.n ∙ c.in_ok-make_room.ensures.least_n ∙ c.self.invariant.same_n_least ∙ sym same_n

pub insert-requires-clause-descend : goal.insert-requires-clause-descend
insert-requires-clause-descend c = c.fall-fewest.ensures.descend

pub insert-requires-clause-told : goal.insert-requires-clause-told
insert-requires-clause-told c = c.fall-fewest.ensures.tells.are_least

pub returns-in_err-make_room : goal.returns-in_err-make_room
returns-in_err-make_room c = record {
  ok = no_ok c.from_residual.result _ c.from_residual.ensures.0;
  err = at_err c.from_residual.result _
      (ap (λ (l : List AnsweredMax). record { n = c.self.inside.n; answers = answers_of l }) c.in_err-make_room.ensures.pairs ∙ c.self.view_is);
}

-- ---- sizes and room

pub reach_high-affected-requires-clause-within : goal.reach_high-affected-requires-clause-within
reach_high-affected-requires-clause-within c =
    let same_n : c.args.rows.now.n ≡ c.self.inside.n = c.requires.same_n ∙ sym (ap (λ (m : Maxima). m.n) c.self.view_is) in
    omega (arith, same_n, c.self.invariant.one_each, ap length c.deref-2.ensures.value)

pub fall-fewest-requires-clause-same_n_falling : goal.fall-fewest-requires-clause-same_n_falling
fall-fewest-requires-clause-same_n_falling c = c.reach_high-affected.ensures.falling_n

pub fall-fewest-requires-clause-within : goal.fall-fewest-requires-clause-within
fall-fewest-requires-clause-within c =
    let same_n : c.args.rows.now.n ≡ c.self.inside.n = c.requires.same_n ∙ sym (ap (λ (m : Maxima). m.n) c.self.view_is) in
    omega (arith, same_n, c.reach_high-affected.ensures.falling_n, c.self.invariant.one_each, ap length c.deref-3.ensures.value)

pub settle-requires-clause-within : goal.settle-requires-clause-within
settle-requires-clause-within c =
    let same_n : c.args.rows.now.n ≡ c.self.inside.n = c.requires.same_n ∙ sym (ap (λ (m : Maxima). m.n) c.self.view_is) in
    omega (arith, same_n, c.reach_high-affected.ensures.extremes_n, c.self.invariant.one_each, ap length c.deref_mut-2.ensures.value)

pub settle-requires-clause-settled : goal.settle-requires-clause-settled
settle-requires-clause-settled c = λ settled r there.
    ap (λ l. bound_at l r) (c.deref_mut-2.ensures.value ∙ sym c.deref-2.ensures.value) ∙ c.reach_high-affected.ensures.settled settled r there

pub push_reserved-requires : goal.push_reserved-requires
push_reserved-requires c = c.in_ok-make_room.ensures.counts_room

pub insert-requires-clause-room : goal.insert-requires-clause-room
insert-requires-clause-room c = c.fall-fewest.ensures.space c.in_ok-make_room.ensures.least_room

pub insert-requires-clause-same_n : goal.insert-requires-clause-same_n
insert-requires-clause-same_n c = c.reach_high-affected.ensures.extremes_n

pub renew_high-requires-clause-within : goal.renew_high-requires-clause-within
renew_high-requires-clause-within c =
    let same_n : c.args.rows.now.n ≡ c.self.inside.n = c.requires.same_n ∙ sym (ap (λ (m : Maxima). m.n) c.self.view_is) in
    let upper_is : (with_items c.self.inside.upper c.settle.new.upper).items ≡ c.settle.new.upper =
    with_items_is c.self.inside.upper c.settle.new.upper (c.settle.auto.upper ∙ c.deref_mut-2.ensures.len) in
    omega (
      arith,
      same_n,
      c.self.invariant.one_each,
      ap length (c.deref-4.ensures.value ∙ upper_is),
      c.settle.auto.upper,
      ap length c.deref_mut-2.ensures.value,
    )

pub returns-clause-err : goal.returns-clause-err
returns-clause-err c = tt

-- ---- marks

pub fall-fewest-requires-clause-marked : goal.fall-fewest-requires-clause-marked
fall-fewest-requires-clause-marked c = λ marking.
    rw (c.in_ok-make_room.ensures.least, c.in_ok-make_room.ensures.marks marking) (c.self.invariant.marked marking)

pub insert-requires-clause-marked : goal.insert-requires-clause-marked
insert-requires-clause-marked c = c.fall-fewest.ensures.marked

pub insert-requires-clause-marks_room : goal.insert-requires-clause-marks_room
insert-requires-clause-marks_room c = c.fall-fewest.ensures.room c.in_ok-make_room.ensures.marks_room

-- ---- the pair itself

pub insert_reserved-requires-clause-room : goal.insert_reserved-requires-clause-room
insert_reserved-requires-clause-room c = c.in_ok-make_room.ensures.pairs_room

pub insert_reserved-requires-clause-place : goal.insert_reserved-requires-clause-place
insert_reserved-requires-clause-place c = omega (arith, c.len-last.ensures)

pub insert_reserved-requires-clause-same_n : goal.insert_reserved-requires-clause-same_n
insert_reserved-requires-clause-same_n c =
    let same_n : c.args.rows.now.n ≡ c.self.inside.n = c.requires.same_n ∙ sym (ap (λ (m : Maxima). m.n) c.self.view_is) in
    sym (c.in_ok-make_room.ensures.pairs_n ∙ c.self.invariant.table ∙ sym same_n)
