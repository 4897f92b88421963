use Rattle.std.proofs.Common.{◌≡◌, ◌<◌, inl, inr, arith, refl, sym, ap, ◌∙◌, subst}
use Rattle.std.specs.Prelude.{◌↔◌, IsTrue, false}
use Rattle.std.proofs.Math.Path.{fun_ext}
use Rattle.std.proofs.lemmas.Bool.{true≢false}
use Rattle.audit_types.specs.Extremes.{upper_bound, IsConsistent}
use Rattle.max_bounds.specs.Maxima.{Maxima, answers_of}
use Rattle.max_bounds.specs.Reaching.{bound_at}
use Rattle.max_bounds.specs.Few.{HasFewPeople, HasFewHighest, IsFewByExtremes}
use Rattle.max_bounds.proofs.DangerCases.{decides, held_answer, consistent, not_consistent}
use Rattle.max_bounds.proofs.bounds.Bounds.leaves_few.Goals as goal

pub returns-then-self-eq0 : goal.returns-then-self-eq0
returns-then-self-eq0 c =
    let kept = c.self.invariant in
    let answers = answers_of c.self.inside.pairs.items in
    let sets = answers_of c.self.inside.least.items in
    subst (λ (m : Maxima). IsTrue false ↔ IsFewByExtremes c.args.people.now.people m.answers c.args.rows.now.list) c.self.view_is (
      (λ yes. absurd (true≢false (sym yes))),
      (λ told. absurd (not_consistent answers c.self.inside.counts.items c.self.inside.fewest sets kept.tells (omega arith) told.consistent)),
    )

pub has_few-requires-clause-consistent : goal.has_few-requires-clause-consistent
has_few-requires-clause-consistent c =
    subst (λ (m : Maxima). IsConsistent m.answers) c.self.view_is
    (consistent (answers_of c.self.inside.pairs.items) c.self.inside.counts.items c.self.inside.fewest
    (answers_of c.self.inside.least.items) c.self.invariant.tells (omega arith))

pub returns-then-has_few : goal.returns-then-has_few
returns-then-has_few c = (
  λ yes. record {
    consistent = subst (λ (m : Maxima). IsConsistent m.answers) c.self.view_is
        (consistent (answers_of c.self.inside.pairs.items) c.self.inside.counts.items c.self.inside.fewest
        (answers_of c.self.inside.least.items) c.self.invariant.tells (omega arith));
    cause = inl (c.has_few.ensures.0 c.if-has_few.true);
  },
  λ told. refl,
)

pub nearly_holds-requires : goal.nearly_holds-requires
nearly_holds-requires c =
    let same_n : c.self.inside.n ≡ c.args.rows.now.n = ap (λ (m : Maxima). m.n) c.self.view_is ∙ sym c.requires.same_n in
    record {
      same_n = c.self.invariant.same_n_least ∙ same_n;
      descend = c.self.invariant.descend;
      marked = c.self.invariant.marked;
    }

pub returns-then-few_highest_of : goal.returns-then-few_highest_of
returns-then-few_highest_of c =
    let kept = c.self.invariant in
    let people = c.args.people.now.people in
    let answers = answers_of c.self.inside.pairs.items in
    let bounds : bound_at c.deref-2.result.now ≡ upper_bound answers = ap bound_at c.deref-2.ensures.value ∙ fun_ext kept.bounds in
    let some : 0 < c.self.inside.fewest = omega arith in
    subst (λ (m : Maxima). IsTrue c.few_highest_of.result ↔ IsFewByExtremes people m.answers c.args.rows.now.list) c.self.view_is (
      (λ yes. record {
        consistent = consistent answers c.self.inside.counts.items c.self.inside.fewest (answers_of c.self.inside.least.items) kept.tells some;
        cause = inr (inl (subst (λ u. HasFewHighest people u c.args.rows.now.list) bounds (c.few_highest_of.ensures.0 yes)));
      }),
      (λ told. c.if-few_highest_of.true),
    )

pub returns-else-few_highest_of : goal.returns-else-few_highest_of
returns-else-few_highest_of c =
    let kept = c.self.invariant in
    let people = c.args.people.now.people in
    let answers = answers_of c.self.inside.pairs.items in
    let counts = c.self.inside.counts.items in
    let sets = answers_of c.self.inside.least.items in
    let rows = c.args.rows.now.list in
    let bounds : bound_at c.deref-2.result.now ≡ upper_bound answers = ap bound_at c.deref-2.ensures.value ∙ fun_ext kept.bounds in
    let some : 0 < c.self.inside.fewest = omega arith in
    let none : HasFewPeople people answers → ⊥ =
    λ few. true≢false (sym (c.has_few.ensures.1 (subst (λ (m : Maxima). HasFewPeople people m.answers) c.self.view_is few)) ∙ c.if-has_few.false) in
    subst (λ (m : Maxima). IsTrue c.nearly_holds.result ↔ IsFewByExtremes people m.answers rows) c.self.view_is (
      (λ yes. record {
        consistent = consistent answers counts c.self.inside.fewest sets kept.tells some;
        cause = inr (inr (held_answer answers counts c.self.inside.fewest sets kept.tells c.self.inside.n kept.are_rows people rows
            (c.nearly_holds.ensures.0 yes)));
      }),
      (λ told. c.nearly_holds.ensures.1 (decides answers counts c.self.inside.fewest sets kept.tells c.self.inside.n kept.are_rows people rows none told
          (λ highest. true≢false (sym (c.few_highest_of.ensures.1 (subst (λ u. HasFewHighest people u rows) (sym bounds) highest))
          ∙ c.if-few_highest_of.false)))),
    )
