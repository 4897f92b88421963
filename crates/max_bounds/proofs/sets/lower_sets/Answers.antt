use Rattle.std.proofs.Common.{◌≡◌, ◌+◌, ◌<◌, set, get_or, rules, refl, Fits, arith, ap, sym, ◌∙◌, subst, to_z, of_z, length, take, drop, take_all, map, inl, inr}
use Rattle.std.specs.Int.{w64}
use Rattle.std.proofs.lemmas.Int.{to_z-of_z}
use Rattle.std.proofs.lemmas.Bool.{true≢false}
use Rattle.std.proofs.lemmas.List.{length-set}
use Rattle.audit_types.specs.Rows.{complement}
use Rattle.max_bounds.specs.Groups.{IsSample, AreGroups}
use Rattle.max_bounds.specs.Maxima.{answers_of, no_pair, pair_at}
use Rattle.max_bounds.specs.AnswerLaws.{read_is}
use Rattle.max_bounds.specs.Kept.{lowered_set}
use Rattle.max_bounds.specs.Marks.{AreMarkedBy, HaveRoom, marks_of}
use Rattle.max_bounds.proofs.FallingCounts.{set_after}
use Rattle.max_bounds.proofs.LoweredSets.{lowered_more}
use Rattle.max_bounds.proofs.MarkedSets.{marks_length, mark_at, marked_set, same_marked, mark_lowered, lost_fits}
use Rattle.max_bounds.proofs.sets.lower_sets.Goals as goal
use Rattle.max_bounds.proofs.sets.lower_sets.Goals.{then-lower_set, else-lower_set}

pub loop-k-preserved : goal.loop-k-preserved
loop-k-preserved c =
    let i = c.loop-k.k in
    let rows = c.args.rows.now.list in
    let least = c.loop-k.least.items in
    let first = c.args.least.now.items in
    let old = pair_at least i in
    let new = pair_at c.lower_set.new.least.items i in
    let change : c.lower_set.new.least.items ≡ set least i new = c.lower_set.ensures.others in
    let was : i < length first = omega arith in
    let within : i < length least = omega (arith, c.loop-k.invariant.long, was) in
    let n = c.lower_set.ensures.same_n ∙ c.flip.ensures.n in
    let others : c.flip.new.self.list ≡ complement c.flip.new.self.n rows = c.flip.ensures.others ∙ ap (λ m. complement m rows) (sym c.flip.ensures.n) in
    let long : length c.lower_set.new.least.items ≡ length least = ap length change ∙ length-set least i new in
    record {
      n = c.lower_set.ensures.n ∙ c.loop-k.invariant.n;
      long = long ∙ c.loop-k.invariant.long;
      space = λ space. omega (arith, c.loop-k.invariant.space space, long, c.lower_set.ensures.capacity);
      marked = λ marking.
          let mark = get_or (marks_of marking c.loop-k.marks) i 0 in
          let is = mark_at marking least (marks_of marking c.loop-k.marks) i no_pair 0 (c.loop-k.invariant.marked marking) within in
          let samples : Fits w64 c.lost_of-lost.result.samples = search rules in
          let groups : Fits w64 c.lost_of-lost.result.groups = search rules in
          rw change (elim c.if-lower_set.branch [
            | then-lower_set w ↦
                subst (AreMarkedBy marking (set least i new)) (sym (ap (marks_of marking) w.marks-is ∙ w.lower.ensures.lowered marking))
                (marked_set marking least (marks_of marking c.loop-k.marks) i new _ (c.loop-k.invariant.marked marking)
                (mark_lowered marking old.rows new.rows rows mark c.lost_of-lost.result
                (lost_fits marking c.lost_of-lost.result samples.fits groups.fits) is
                (subst (λ m. AreGroups (IsSample m) rows c.lost_of-lost.result.samples) (sym n) c.lost_of-lost.ensures.samples)
                c.lost_of-lost.ensures.groups (c.lower_set.ensures.outside rows others w.if-lower_set.true)))
            | else-lower_set w ↦
                subst (AreMarkedBy marking (set least i new)) (sym (ap (marks_of marking) w.marks-is))
                (same_marked marking least (marks_of marking c.loop-k.marks) i no_pair new (c.loop-k.invariant.marked marking)
                (elim c.lower_set.ensures.same [
                  | inl lower ↦ absurd (true≢false (sym lower ∙ w.if-lower_set.false))
                  | inr kept ↦ kept
                ]))
          ]);
      room = λ room. elim c.if-lower_set.branch [
        | then-lower_set w ↦ subst HaveRoom (sym w.marks-is) (w.lower.ensures.room (c.loop-k.invariant.room room))
        | else-lower_set w ↦ subst HaveRoom (sym w.marks-is) (c.loop-k.invariant.room room)
      ];
      done =
          ap (λ l. answers_of (take (i + 1) l)) change
          ∙ lowered_more
          (to_z w64 (of_z w64 c.args.answer)) rows first least i old new within was
          c.loop-k.invariant.left (read_is least i old within refl) (c.lower_set.ensures.lowered rows others) c.loop-k.invariant.done;
      left = ap (drop (i + 1)) change ∙ set_after least first i old new within was c.loop-k.invariant.left;
    }

pub returns : goal.returns
returns c =
    let i = c.loop-k.k in
    let same : to_z w64 (of_z w64 c.args.answer) ≡ c.args.answer = to_z-of_z w64 c.args.answer c.ranges.answer in
    record {
      n = c.loop-k.invariant.n;
      marked = c.loop-k.invariant.marked;
      space = c.loop-k.invariant.space;
      room = c.loop-k.invariant.room;
      lowered = ap answers_of (sym (take_all i c.loop-k.least.items (omega (arith, c.loop-k.invariant.long)))) ∙ c.loop-k.invariant.done
          ∙ ap (λ l. map (lowered_set (to_z w64 (of_z w64 c.args.answer)) c.args.rows.now.list) (answers_of l))
          (take_all i c.args.least.now.items (omega arith))
          ∙ ap (λ a. map (lowered_set a c.args.rows.now.list) (answers_of c.args.least.now.items)) same;
    }

pub lower-requires : goal.lower-requires
lower-requires c = λ marking.
    let long = marks_length marking c.loop-k.least.items (marks_of marking c.loop-k.marks) (c.loop-k.invariant.marked marking) in
    omega (arith, long, c.loop-k.invariant.long)

pub lower_set-requires : goal.lower_set-requires
lower_set-requires c = record {
  place = omega (arith, c.loop-k.invariant.long);
  same_n = c.loop-k.invariant.n ∙ c.requires.same_n ∙ sym c.flip.ensures.n;
}
