use Rattle.std.proofs.Common.{◌≡◌, true, false, ℤ, ◌+◌, ◌<◌, ◌≤◌, ◌∷◌, ◌++◌, [], length, take, sym, ap, ◌∙◌, subst, refl, arith, to_z, of_z}
use Rattle.std.specs.Prelude.{◌↔◌, IsTrue}
use Rattle.std.specs.List.{AllByRecursion}
use Rattle.std.specs.Int.{w64}
use Rattle.std.proofs.lemmas.Int.{to_z-of_z}
use Rattle.std.proofs.lemmas.List.{map_more}
use Rattle.std.proofs.lemmas.Bool.{true≢false}
use Rattle.audit_types.specs.Rows.{complement}
use Rattle.max_bounds.specs.Maxima.{answer_of, answers_of, pair_at}
use Rattle.max_bounds.specs.Marks.{AreMarkedBy, marks_of}
use Rattle.max_bounds.specs.Outside.{HasWithin}
use Rattle.max_bounds.specs.AnswerLaws.{one_here, read_is}
use Rattle.max_bounds.proofs.MarkedSets.{marks_length}
use Rattle.max_bounds.proofs.SeenSets.{within_until}
use Rattle.max_bounds.proofs.WithinSets.{within-push, none_above, none_of_all}
use Rattle.max_bounds.proofs.within.has_within.Goals as goal

pub next_maybe_within-k-requires-clause-end : goal.next_maybe_within-k-requires-clause-end
next_maybe_within-k-requires-clause-end c =
    let marking = c.lacking_of-lacking.result.marking in
    let long = marks_length marking c.args.least.now.items (marks_of marking c.args.marks.now) (c.requires.marked marking) in
    omega (arith, c.max-end.ensures, c.place_of-first.ensures.at_most, c.end_of.ensures.at_most, long, ap length c.of-marked.ensures)

pub next_maybe_within-k-requires-in-loop-k-clause-end : goal.next_maybe_within-k-requires-in-loop-k-clause-end
next_maybe_within-k-requires-in-loop-k-clause-end c =
    let marking = c.lacking_of-lacking.result.marking in
    let long = marks_length marking c.args.least.now.items (marks_of marking c.args.marks.now) (c.requires.marked marking) in
    omega (arith, c.max-end.ensures, c.place_of-first.ensures.at_most, c.end_of.ensures.at_most, long, ap length c.of-marked.ensures)

pub loop-k-init : goal.loop-k-init
loop-k-init c =
    let least = c.args.least.now.items in
    let rows = c.args.rows.now.list in
    let value : ℤ = to_z w64 (of_z w64 c.args.answer) in
    let marking = c.lacking_of-lacking.result.marking in
    let is = subst (AreMarkedBy marking least) (sym c.of-marked.ensures) (c.requires.marked marking) in
    let same_n = subst (λ m. AllByRecursion (λ p. p.rows.n ≡ m) c.args.least.now.items) c.requires.same_n c.n.ensures.same_n in
    record {
      in_range = c.next_maybe_within-k.ensures.within;
      none = within_until marking least c.of-marked.result.now c.args.rows.now.n rows c.lacking_of-lacking.result.bits is same_n
          c.lacking_of-lacking.ensures (λ i. (c.type_inv.marked i).fits) value c.place_of-first.result c.next_maybe_within-k.result
          c.next_maybe_within-k.ensures.later
          (omega (arith, c.next_maybe_within-k.ensures.within, c.max-end.ensures, c.place_of-first.ensures.at_most, c.end_of.ensures.at_most))
          c.next_maybe_within-k.ensures.shown (none_above rows value least c.place_of-first.result c.place_of-first.ensures.place.front);
    }

pub returns-then-is_within : goal.returns-then-is_within
returns-then-is_within c =
    let least = c.args.least.now.items in
    let rows = c.args.rows.now.list in
    let value : ℤ = to_z w64 (of_z w64 c.args.answer) in
    let k = c.loop-k.k in
    let x = pair_at least k in
    let within : k < length least =
    omega (arith, c.loop-k-test.true, c.max-end.ensures, c.place_of-first.ensures.at_most, c.end_of.ensures.at_most) in
    let others : c.flip.new.self.list ≡ complement c.flip.new.self.n rows = c.flip.ensures.others ∙ ap (λ m. complement m rows) (sym c.flip.ensures.n) in
    let found : HasWithin (answers_of least) rows value =
    (answer_of x, one_here least k x within (read_is least k (pair_at least k) within refl), (c.is_within.ensures rows others).0 c.if-is_within.true) in
    subst (λ v. IsTrue true ↔ HasWithin (answers_of least) rows v) (to_z-of_z w64 c.args.answer c.ranges.answer) ((λ yes. found), (λ is. refl))

pub loop-k-preserved : goal.loop-k-preserved
loop-k-preserved c =
    let least = c.args.least.now.items in
    let rows = c.args.rows.now.list in
    let value : ℤ = to_z w64 (of_z w64 c.args.answer) in
    let k = c.loop-k.k in
    let next = c.next_maybe_within-k-in-loop-k in
    let x = pair_at least k in
    let marking = c.lacking_of-lacking.result.marking in
    let is = subst (AreMarkedBy marking least) (sym c.of-marked.ensures) (c.requires.marked marking) in
    let ends : c.max-end.result ≤ length least = omega (arith, c.max-end.ensures, c.place_of-first.ensures.at_most, c.end_of.ensures.at_most) in
    let within : k < length least = omega (arith, c.loop-k-test.true, ends) in
    let others : c.flip.new.self.list ≡ complement c.flip.new.self.n rows = c.flip.ensures.others ∙ ap (λ m. complement m rows) (sym c.flip.ensures.n) in
    let seen = answers_of (take k least) in
    let more : answers_of (take (k + 1) least) ≡ seen ++ answer_of x ∷ [] =
    map_more answer_of least k x within ∙ ap (λ y. seen ++ answer_of y ∷ []) (sym (read_is least k (pair_at least k) within refl)) in
    let same_n = subst (λ m. AllByRecursion (λ p. p.rows.n ≡ m) c.args.least.now.items) c.requires.same_n c.n.ensures.same_n in
    record {
      in_range = next.ensures.within;
      none = within_until marking least c.of-marked.result.now c.args.rows.now.n rows c.lacking_of-lacking.result.bits is same_n
          c.lacking_of-lacking.ensures (λ i. (c.type_inv.marked i).fits) value (k + 1) next.result next.ensures.later
          (omega (arith, next.ensures.within, ends)) next.ensures.shown
          (λ found. within-push seen (answer_of x) rows value c.loop-k.invariant.none
          (λ held. true≢false (sym ((c.is_within.ensures rows others).1 held) ∙ c.if-is_within.false))
          (subst (λ l. HasWithin l rows value) more found));
    }

pub returns : goal.returns
returns c =
    let least = c.args.least.now.items in
    let rows = c.args.rows.now.list in
    let value : ℤ = to_z w64 (of_z w64 c.args.answer) in
    subst (λ v. IsTrue false ↔ HasWithin (answers_of least) rows v) (to_z-of_z w64 c.args.answer c.ranges.answer) (
      (λ no. absurd (true≢false (sym no))),
      (λ found. absurd (none_of_all rows value least c.loop-k.k c.end_of.result (omega (arith, c.loop-k-test.false, c.max-end.ensures))
          c.end_of.ensures.end.rest c.loop-k.invariant.none found)),
    )
