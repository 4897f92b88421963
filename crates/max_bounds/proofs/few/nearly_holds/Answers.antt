use Rattle.std.proofs.Common.{◌≡◌, ◌<◌, ◌≤◌, true, false, not, length, rules, SFits, suc, ◌+◌, ◌∷◌, ◌++◌, [], take, drop, take_all, sym, ap, ◌∙◌, subst, refl, arith}
use Rattle.std.specs.Prelude.{◌↔◌, IsTrue}
use Rattle.std.specs.List.{AllByRecursion}
use Rattle.std.specs.Int.{w64}
use Rattle.std.proofs.lemmas.Int.{to_z-of_z}
use Rattle.std.proofs.lemmas.List.{map_more}
use Rattle.std.proofs.lemmas.Bool.{true≢false}
use Rattle.audit_types.specs.Rows.{complement}
use Rattle.max_bounds.specs.Maxima.{answer_of, answers_of, pair_at}
use Rattle.max_bounds.specs.AnswerLaws.{read_is}
use Rattle.max_bounds.specs.Kept.{Descend}
use Rattle.max_bounds.specs.Marks.{AreMarkedBy, marks_of}
use Rattle.max_bounds.specs.Outside.{HasWithin}
use Rattle.max_bounds.specs.Few.{HasNearlyHeld}
use Rattle.max_bounds.proofs.MarkedSets.{marks_length}
use Rattle.max_bounds.proofs.SeenSets.{enough_until}
use Rattle.max_bounds.proofs.NearlyHeld.{AreSeen, none_seen, seen_more, none_held, held_never, held_here, not_held}
use Rattle.max_bounds.proofs.Descending.{descends_after, answers_split}
use Rattle.max_bounds.proofs.few.nearly_holds.Goals as goal

pub loop-k-init : goal.loop-k-init
loop-k-init c =
    let least = c.args.least.now.items in
    let marking = c.lacking_of-lacking.result.marking in
    let is = subst (AreMarkedBy marking least) (sym c.of-marked.ensures) (c.requires.marked marking) in
    let long = marks_length marking least (marks_of marking c.args.marks.now) (c.requires.marked marking) in
    let first = c.next_maybe_few-k in
    let within : first.result ≤ length least = omega (arith, first.ensures.within, long, ap length c.of-marked.ensures) in
    let people = c.args.people.now in
    let rows = c.args.rows.now in
    let same_n = subst (λ m. AllByRecursion (λ p. p.rows.n ≡ m) c.args.least.now.items) c.requires.same_n c.n.ensures.same_n in
    record {
      same_n = c.new-left.ensures.n ∙ c.n-3.ensures.n;
      in_range = within;
      seen = enough_until marking least c.of-marked.result.now rows.n rows.list c.lacking_of-lacking.result.bits is same_n
          c.lacking_of-lacking.ensures (λ i. (c.type_inv.marked i).fits) people.people people.n c.n-2.ensures.counted c.enough-enough.result 0 first.result
          c.enough-enough.ensures (omega arith) within first.ensures.shown (none_seen people.people rows.list);
    }

pub next_maybe_few-k-requires-in-loop-k : goal.next_maybe_few-k-requires-in-loop-k
next_maybe_few-k-requires-in-loop-k c =
    let marking = c.lacking_of-lacking.result.marking in
    let long = marks_length marking c.args.least.now.items (marks_of marking c.args.marks.now) (c.requires.marked marking) in
    omega (arith, long, ap length c.of-marked.ensures)

pub returns-in-Nothing : goal.returns-in-Nothing
returns-in-Nothing c =
    let people = c.args.people.now.people in
    let least = c.args.least.now.items in
    let rows = c.args.rows.now.list in
    let k = c.loop-k.k in
    let inside : k < length least = omega arith in
    let pair = pair_at least k in
    let here_is = read_is least k pair inside refl in
    let x = answer_of pair in
    let seen = answers_of (take k least) in
    let others : c.flip.new.self.list ≡ complement c.flip.new.self.n rows = c.flip.ensures.others ∙ ap (λ m. complement m rows) (sym c.flip.ensures.n) in
    let rest = answers_of (drop (suc k) least) in
    let split : answers_of least ≡ seen ++ x ∷ rest = answers_split least k pair inside here_is in
    let low = descends_after seen x rest (subst Descend split c.requires.descend) in (
      λ yes. absurd (true≢false (sym yes)),
      λ held. absurd (held_never people seen rows x rest low c.loop-k.invariant.seen (c.in-Nothing.ensures.left rows others)
          (subst (λ l. HasNearlyHeld people (λ a. a.rows) l rows) split held)),
    )

pub returns-in-Few : goal.returns-in-Few
returns-in-Few c =
    let people = c.args.people.now.people in
    let least = c.args.least.now.items in
    let rows = c.args.rows.now.list in
    let k = c.loop-k.k in
    let inside : k < length least = omega arith in
    let pair = pair_at least k in
    let here_is = read_is least k pair inside refl in
    let x = answer_of pair in
    let seen = answers_of (take k least) in
    let others : c.flip.new.self.list ≡ complement c.flip.new.self.n rows = c.flip.ensures.others ∙ ap (λ m. complement m rows) (sym c.flip.ensures.n) in
    let rest = answers_of (drop (suc k) least) in
    let split : answers_of least ≡ seen ++ x ∷ rest = answers_split least k pair inside here_is in
    let low = descends_after seen x rest (subst Descend split c.requires.descend) in
    let fits : SFits w64 c.answer.result = search rules in
    let told = subst (λ v. IsTrue c.has_within.result ↔ HasWithin (answers_of least) rows v) (to_z-of_z w64 c.answer.result fits ∙ c.answer.ensures)
    c.has_within.ensures in
    let left = c.in-Few.ensures.left rows others in (
      λ yes. subst (λ l. HasNearlyHeld people (λ a. a.rows) l rows) (sym split) (held_here people seen rows x rest low c.loop-k.invariant.seen left.0 left.1
          (λ within. true≢false (sym yes ∙ ap not (told.1 (subst (λ l. HasWithin l rows x.value) (sym split) within))))),
      λ held. elim c.has_within.result as (λ b. c.has_within.result ≡ b → not b ≡ true) [
        | true ↦ λ e. absurd (not_held people seen rows x rest low c.loop-k.invariant.seen (subst (λ l. HasWithin l rows x.value) split (told.0 e))
            (subst (λ l. HasNearlyHeld people (λ a. a.rows) l rows) split held))
        | false ↦ λ e. refl
      ] refl,
    )

pub loop-k-preserved : goal.loop-k-preserved
loop-k-preserved c =
    let people = c.args.people.now.people in
    let least = c.args.least.now.items in
    let rows = c.args.rows.now.list in
    let k = c.loop-k.k in
    let inside : k < length least = omega arith in
    let pair = pair_at least k in
    let here_is = read_is least k pair inside refl in
    let next = c.next_maybe_few-k-in-loop-k in
    let x = answer_of pair in
    let seen = answers_of (take k least) in
    let marking = c.lacking_of-lacking.result.marking in
    let is = subst (AreMarkedBy marking least) (sym c.of-marked.ensures) (c.requires.marked marking) in
    let long = marks_length marking least (marks_of marking c.args.marks.now) (c.requires.marked marking) in
    let others : c.flip.new.self.list ≡ complement c.flip.new.self.n rows = c.flip.ensures.others ∙ ap (λ m. complement m rows) (sym c.flip.ensures.n) in
    let more : answers_of (take (k + 1) least) ≡ seen ++ x ∷ [] =
    map_more answer_of least k pair inside ∙ ap (λ y. seen ++ answer_of y ∷ []) (sym here_is) in
    let left = c.in-Enough.ensures.left rows others in
    let within : next.result ≤ length least = omega (arith, next.ensures.within, long, ap length c.of-marked.ensures) in
    let same_n = subst (λ m. AllByRecursion (λ p. p.rows.n ≡ m) c.args.least.now.items) c.requires.same_n c.n.ensures.same_n in
    record {
      same_n = c.in-Enough.ensures.n;
      in_range = within;
      seen = enough_until marking least c.of-marked.result.now c.args.rows.now.n rows c.lacking_of-lacking.result.bits is same_n
          c.lacking_of-lacking.ensures (λ i. (c.type_inv.marked i).fits) people c.args.people.now.n c.n-2.ensures.counted c.enough-enough.result (k + 1)
          next.result c.enough-enough.ensures next.ensures.later within next.ensures.shown
          (subst (λ l. AreSeen people l rows) (sym more) (seen_more people seen rows x c.loop-k.invariant.seen left.0 left.1));
    }

pub returns : goal.returns
returns c =
    let seen = subst (λ l. AreSeen c.args.people.now.people (answers_of l) c.args.rows.now.list)
    (take_all c.loop-k.k c.args.least.now.items (omega arith)) c.loop-k.invariant.seen in (
      (λ yes. absurd (true≢false (sym yes))),
      (λ held. absurd (none_held c.args.people.now.people (answers_of c.args.least.now.items) c.args.rows.now.list seen held)),
    )
