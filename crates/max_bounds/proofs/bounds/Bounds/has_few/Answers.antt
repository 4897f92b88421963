use Rattle.std.proofs.Common.{◌≡◌, [], arith, sym, ap, ◌∙◌, subst}
use Rattle.std.specs.Prelude.{◌↔◌, IsTrue, false}
use Rattle.std.proofs.lemmas.Bool.{true≢false}
use Rattle.audit_types.specs.Extremes.{IsConsistent}
use Rattle.max_bounds.specs.Maxima.{Maxima, answers_of}
use Rattle.max_bounds.specs.Few.{HasFewPeople, HasNearlyHeld}
use Rattle.max_bounds.proofs.DangerCases.{none_few, few_of_set, set_of_few}
use Rattle.max_bounds.proofs.bounds.Bounds.has_few.Goals as goal

pub returns-then-enough-self : goal.returns-then-enough-self
returns-then-enough-self c =
    let kept = c.self.invariant in
    let people = c.args.people.now.people in
    let answers = answers_of c.self.inside.pairs.items in
    subst (λ (m : Maxima). IsTrue false ↔ HasFewPeople people m.answers) c.self.view_is (
      (λ yes. absurd (true≢false (sym yes))),
      (λ few. absurd (none_few answers c.self.inside.counts.items c.self.inside.fewest (answers_of c.self.inside.least.items) kept.tells
          c.self.inside.n kept.are_rows people c.args.people.now.n c.n-n.ensures.counted (omega (arith, c.enough.ensures, c.if-enough-self.true)) few)),
    )

pub nearly_holds-requires : goal.nearly_holds-requires
nearly_holds-requires c =
    let same_n : c.self.inside.n ≡ c.args.people.now.n = ap (λ (m : Maxima). m.n) c.self.view_is ∙ sym c.requires.people in
    record {
      same_n = c.self.invariant.same_n_least ∙ same_n ∙ sym c.n-n.ensures.n ∙ sym c.new-none.ensures.n;
      descend = c.self.invariant.descend;
      marked = c.self.invariant.marked;
    }

pub returns : goal.returns
returns c =
    let kept = c.self.invariant in
    let people = c.args.people.now.people in
    let answers = answers_of c.self.inside.pairs.items in
    let counts = c.self.inside.counts.items in
    let sets = answers_of c.self.inside.least.items in
    let all : IsConsistent answers = subst (λ (m : Maxima). IsConsistent m.answers) (sym c.self.view_is) c.requires.consistent in
    let told : IsTrue c.nearly_holds.result ↔ HasNearlyHeld people (λ a. a.rows) sets [] =
    subst (λ l. IsTrue c.nearly_holds.result ↔ HasNearlyHeld people (λ a. a.rows) sets l) c.new-none.ensures.empty
    c.nearly_holds.ensures in
    subst (λ (m : Maxima). IsTrue c.nearly_holds.result ↔ HasFewPeople people m.answers) c.self.view_is (
      (λ yes. few_of_set answers counts c.self.inside.fewest sets kept.tells c.self.inside.n kept.are_rows people (told.0 yes)),
      (λ few. told.1 (set_of_few answers counts c.self.inside.fewest sets kept.tells c.self.inside.n kept.are_rows people all few)),
    )
