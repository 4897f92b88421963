use Rattle.std.proofs.Common.{◌≡◌, ◌∙◌, ◌≤◌, ℕ, List, [], length, refl, sym, ap, subst}
use Rattle.std.specs.Prelude.{All}
use Rattle.std.specs.List.{AllByRecursion}
use Rattle.audit_types.specs.declared.records.Answered.{Answered}
use Rattle.audit_types.specs.declared.records.Protected.{Protected}
use Rattle.audit_types.specs.Limits.{most_groups}
use Rattle.audit_types.specs.Rows.{AreRows}
use Rattle.audit_types.specs.Column.{Answer, known_max, guarding}
use Rattle.audit_types.specs.Headcount.{Counted, CountPeople, Headcount}
use Rattle.max_audit.specs.Laws.{HasBadCandidate}
use Rattle.max_bounds.specs.Few.{HasFewPeople}
use Rattle.audit_types.specs.History.{FitsShape, IsProtected, Protection, answers_of}
use Rattle.denial_proof.specs.Denied.{IsUnsafeSum}
use Rattle.denial_proof.proofs.ByKind.{of_column, sum_is, sum_is_narrow, sum_is_wide, max_is, max_is_narrow}
use Rattle.denial_proof.proofs.UnsafeSums.{records_same_n, records_are_rows, entries_same_n}
use Rattle.denial_proof.proofs.prover.Prover.prove.Goals as goal

pub invariant_of-facts-clause-records : goal.invariant_of-facts-clause-records
invariant_of-facts-clause-records c =
    subst (λ (n : ℕ). AllByRecursion (λ (r : Answered). r.rows.n ≡ n) c.history-history.result.now) (sym (c.n.ensures.n ∙ c.in-Sum-Sums.ensures.n))
    (records_same_n c.args.core.now.setting c.history-history.result.now c.history-history.ensures.fit)

pub invariant_of-facts-clause-entries : goal.invariant_of-facts-clause-entries
invariant_of-facts-clause-entries c =
    let shape = c.args.core.now.setting.shape in
    let groups = c.protected-protected.result.now.groups in
    subst (λ (n : ℕ). AllByRecursion (λ (p : Protected). p.rows.n ≡ n) groups) (sym (c.n.ensures.n ∙ c.in-Sum-Sums.ensures.n))
    (entries_same_n shape groups
    (subst (λ (p : Protection). All (IsProtected shape) p.groups) (sym c.protected-protected.ensures.is) c.protected-protected.ensures.fit.0))

pub invariant_of-facts-clause-same_n : goal.invariant_of-facts-clause-same_n
invariant_of-facts-clause-same_n c = c.requires.question.same_n ∙ sym (c.n.ensures.n ∙ c.in-Sum-Sums.ensures.n)

pub prove_sum-requires-clause-same_n : goal.prove_sum-requires-clause-same_n
prove_sum-requires-clause-same_n c = c.n.ensures.n

pub prove_sum-requires-clause-rows : goal.prove_sum-requires-clause-rows
prove_sum-requires-clause-rows c =
    subst (λ (n : ℕ). AllByRecursion (λ (r : Answered). AreRows n r.rows.list) c.history-history.result.now) (sym c.in-Sum-Sums.ensures.n)
    (records_are_rows c.args.core.now.setting c.history-history.result.now c.history-history.ensures.fit)

pub prove_sum-requires-clause-answers : goal.prove_sum-requires-clause-answers
prove_sum-requires-clause-answers c = c.in-Sum-Sums.ensures.answers ∙ ap (answers_of c.args.asked.now.column) (sym c.history-history.ensures.is)

pub prove_sum-requires-clause-few_groups : goal.prove_sum-requires-clause-few_groups
prove_sum-requires-clause-few_groups c = subst (λ (p : Protection). length p.groups ≤ most_groups)
    (sym c.protected-protected.ensures.is) c.protected-protected.ensures.fit.1

pub prove_sum-requires-clause-people : goal.prove_sum-requires-clause-people
prove_sum-requires-clause-people c =
    subst (λ (n : ℕ). CountPeople n c.protected-protected.result.now.people) (sym c.in-Sum-Sums.ensures.n)
    (subst (λ (p : Protection). CountPeople c.args.core.now.setting.shape.rows p.people) (sym c.protected-protected.ensures.is)
    c.protected-protected.ensures.fit.2)

pub prove_sum-requires-clause-denied : goal.prove_sum-requires-clause-denied
prove_sum-requires-clause-denied c =
    let setting = c.args.core.now.setting in
    let history = c.args.core.now.history in
    let fit = subst (λ (list : List Answered). All (λ (r : Answered). FitsShape setting.shape r.column r.rows) list) c.history-history.ensures.is
    c.history-history.ensures.fit in
    let unsafe = c.denied_sums.ensures setting history c.args.asked.now fit c.protected-protected.ensures.fit c.requires.legal c.requires.question
    c.in-Sum-Sums.ensures.own_kind c.requires.denied in
    of_column setting history c.args.asked.now c.in-Sum-Sums.sums.now.n c.history-history.result.now c.in-Sum-Sums.ensures.n c.history-history.ensures.is
    c.protected-protected.result.now c.protected-protected.ensures.is
    (λ n list groups. IsUnsafeSum n c.in-Sum-Sums.sums.now.width list groups c.args.asked.now)
    (subst (λ (width : ℕ). IsUnsafeSum setting.shape.rows width history setting.protected c.args.asked.now)
    (sym (c.in-Sum-Sums.ensures.width refl)) unsafe)

pub prove_max-requires-clause-same_n : goal.prove_max-requires-clause-same_n
prove_max-requires-clause-same_n c = c.requires.question.same_n ∙ sym c.in-Max-Maxima.ensures.n

pub prove_max-requires-clause-some : goal.prove_max-requires-clause-some
prove_max-requires-clause-some c = c.requires.question.some

pub prove_max-requires-clause-few : goal.prove_max-requires-clause-few
prove_max-requires-clause-few c = subst (λ (list : List Answered). length list ≤ 65536) (sym c.history-history.ensures.is) c.requires.legal.legal.few

pub prove_max-requires-clause-records : goal.prove_max-requires-clause-records
prove_max-requires-clause-records c =
    subst (λ (n : ℕ). AllByRecursion (λ (r : Answered). r.rows.n ≡ n) c.history-history.result.now) (sym c.in-Max-Maxima.ensures.n)
    (records_same_n c.args.core.now.setting c.history-history.result.now c.history-history.ensures.fit)

pub prove_max-requires-clause-answers : goal.prove_max-requires-clause-answers
prove_max-requires-clause-answers c = c.in-Max-Maxima.ensures.answers ∙ ap (answers_of c.args.asked.now.column) (sym c.history-history.ensures.is)

pub over-requires-clause-within : goal.over-requires-clause-within
over-requires-clause-within c =
    let people = c.rows.ensures ∙ ap (λ (p : Protection). p.people) c.protected-protected.ensures.is in
    subst (λ (k : ℕ). length c.rows.result.now.people.counts ≤ k) (sym (c.n-in-Max-Maxima.ensures.n ∙ c.requires.question.same_n))
    (subst (λ (p : Headcount). length p.counts ≤ c.args.core.now.setting.shape.rows) (sym people) c.protected-protected.ensures.fit.2.within)

pub prove_max-requires-clause-people : goal.prove_max-requires-clause-people
prove_max-requires-clause-people c =
    ap (λ (x : Counted). x.n) c.in_ok-people-in-Max-Maxima.ensures ∙ c.n-in-Max-Maxima.ensures.n ∙ c.requires.question.same_n ∙ sym c.in-Max-Maxima.ensures.n

pub prove_max-requires-clause-none_few : goal.prove_max-requires-clause-none_few
prove_max-requires-clause-none_few c =
    let setting = c.args.core.now.setting in
    let history = c.args.core.now.history in
    let fit = subst (λ (list : List Answered). All (λ (r : Answered). FitsShape setting.shape r.column r.rows) list) c.history-history.ensures.is
    c.history-history.ensures.fit in
    let unsafe = c.denied_maxima.ensures setting history c.args.asked.now fit c.protected-protected.ensures.fit c.requires.legal c.requires.question
    c.in-Max-Maxima.ensures.own_kind c.requires.denied in
    let people = ap (λ (x : Counted). x.people) c.in_ok-people-in-Max-Maxima.ensures ∙ c.rows.ensures
    ∙ ap (λ (p : Protection). p.people) c.protected-protected.ensures.is in
    subst (λ (p : Headcount). ¬ (HasFewPeople p c.in-Max-Maxima.maxima.now.answers)) (sym people)
    (subst (λ (answers : List Answer). ¬ (HasFewPeople setting.protected.people answers)) (sym c.in-Max-Maxima.ensures.answers) unsafe.none_few)

pub prove_max-requires-clause-dangerous : goal.prove_max-requires-clause-dangerous
prove_max-requires-clause-dangerous c =
    let setting = c.args.core.now.setting in
    let history = c.args.core.now.history in
    let fit = subst (λ (list : List Answered). All (λ (r : Answered). FitsShape setting.shape r.column r.rows) list) c.history-history.ensures.is
    c.history-history.ensures.fit in
    let unsafe = c.denied_maxima.ensures setting history c.args.asked.now fit c.protected-protected.ensures.fit c.requires.legal c.requires.question
    c.in-Max-Maxima.ensures.own_kind c.requires.denied in
    let people = ap (λ (x : Counted). x.people) c.in_ok-people-in-Max-Maxima.ensures ∙ c.rows.ensures
    ∙ ap (λ (p : Protection). p.people) c.protected-protected.ensures.is in
    let rows = c.args.asked.now.rows.list in
    subst (λ (p : Headcount). HasBadCandidate (guarding (known_max c.in-Max-Maxima.maxima.now.n c.in-Max-Maxima.maxima.now.answers) p []) rows) (sym people)
    (subst (λ (n : ℕ). HasBadCandidate (guarding (known_max n c.in-Max-Maxima.maxima.now.answers) setting.protected.people []) rows)
    (sym c.in-Max-Maxima.ensures.n)
    (subst (λ (answers : List Answer). HasBadCandidate (guarding (known_max setting.shape.rows answers) setting.protected.people []) rows)
    (sym c.in-Max-Maxima.ensures.answers) unsafe.bad))

pub returns-in-Sum-Sums : goal.returns-in-Sum-Sums
returns-in-Sum-Sums c =
    let setting = c.args.core.now.setting in
    let history = c.args.core.now.history in
    let asked = c.args.asked.now in
    let n = c.in-Sum-Sums.sums.now.n in
    let same_n = c.in-Sum-Sums.ensures.n in
    let same = c.history-history.ensures.is in
    let guard = c.protected-protected.ensures.is in
    let sums = c.in-Sum-Sums.ensures.own_kind in
    let is = sum_is setting history asked n _ same_n same _ guard sums c.prove_sum.result c.prove_sum.ensures.is in record {
      canonical = is.0;
      proof = is.1;
      wide = λ fault. sum_is_wide setting history asked n _ same_n same _ guard sums (c.prove_sum.ensures.wide fault);
      narrow = sum_is_narrow setting history asked n _ same_n same _ guard sums c.prove_sum.result c.prove_sum.ensures.narrow;
    }

pub returns-in_ok-prove_max-in-Max-Maxima : goal.returns-in_ok-prove_max-in-Max-Maxima
returns-in_ok-prove_max-in-Max-Maxima c =
    let setting = c.args.core.now.setting in
    let history = c.args.core.now.history in
    let asked = c.args.asked.now in
    let n = c.in-Max-Maxima.maxima.now.n in
    let same_n = c.in-Max-Maxima.ensures.n in
    let same = c.history-history.ensures.is in
    let maxima = c.in-Max-Maxima.ensures.own_kind in
    let people = ap (λ (x : Counted). x.people) c.in_ok-people-in-Max-Maxima.ensures ∙ c.rows.ensures
    ∙ ap (λ (p : Protection). p.people) c.protected-protected.ensures.is in
    let is = max_is setting history asked n _ same_n same maxima _ people _ c.in_ok-prove_max-in-Max-Maxima.ensures in record {
      canonical = is.0;
      proof = is.1;
      wide = λ fault. absurd cc;
      narrow = max_is_narrow setting history asked n _ same_n same maxima;
    }
