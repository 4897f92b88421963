use Rattle.std.proofs.Common.{◌∙◌, ◌<◌, ℕ, sym, subst, arith}
use Rattle.std.specs.List.{AllByRecursion}
use Rattle.audit_types.specs.ListLaws.{all-weaker}
use Rattle.denial_proof.specs.Weights.{own_rows}
use Rattle.denial_proof.specs.Certificates.{IsAsker}
use Rattle.denial_proof.proofs.KeptFew.{kept_few}
use Rattle.denial_proof.proofs.SumParts.{few_askers, few_sets, independent_for, room_for, target_spanned}
use Rattle.denial_proof.proofs.Tests.{some_weaker}
use Rattle.denial_proof.proofs.sums.prove_sum.Goals as goal

pub prove_told-requires-clause-own : goal.prove_told-requires-clause-own
prove_told-requires-clause-own c =
    let n = c.args.sums.now.n in
    let history = c.args.facts.now.history.now in
    let protected = c.args.facts.now.protected.now in
    let asked = c.args.facts.now.asked.now in
    let places = c.args.marks.now.places.items in
    let target = c.in-Some.told.target in
    let own = c.in-Some.told.own in
    let first = rw c.in-Some.is at c.in_ok-told.ensures.some in
    let below = all-weaker (IsAsker n protected.people) (λ q. q < n) (λ q is. is.below) (own_rows own) first.told.askers in
    subst (λ (k : ℕ). AllByRecursion (λ q. q < k) (own_rows own)) (sym (c.args.facts.now.same_n ∙ c.requires.same_n)) below

pub prove_told-requires-clause-room : goal.prove_told-requires-clause-room
prove_told-requires-clause-room c =
    let n = c.args.sums.now.n in
    let history = c.args.facts.now.history.now in
    let protected = c.args.facts.now.protected.now in
    let asked = c.args.facts.now.asked.now in
    let places = c.args.marks.now.places.items in
    let target = c.in-Some.told.target in
    let own = c.in-Some.told.own in
    let first = rw c.in-Some.is at c.in_ok-told.ensures.some in
    let independent = independent_for c.pinned_rows.ensures.spanned_or_moved n history asked c.requires.rows places c.requires.marks.kept protected
    c.requires.people c.requires.denied.new target own first in
    rw (c.args.facts.now.same_n, c.requires.same_n)
    (some_weaker (λ form marked. room_for n protected.people.own places own _ form (few_sets n history places asked.rows.list own independent)
    (few_askers n protected.people own first.told.askers) marked) c.args.marks.now.form c.requires.marks.marked)

pub prove_told-requires-clause-few : goal.prove_told-requires-clause-few
prove_told-requires-clause-few c =
    let few = kept_few c.args.sums.now.n c.args.facts.now.asked.now.column c.args.facts.now.history.now c.args.marks.now.places.items c.requires.marks.kept
    c.args.facts.now.asked.now.rows.list c.requires.denied.new in
    let same = c.args.facts.now.same_n ∙ c.requires.same_n in
    omega arith

pub prove_told-requires-clause-first : goal.prove_told-requires-clause-first
prove_told-requires-clause-first c =
    let n = c.args.sums.now.n in
    let history = c.args.facts.now.history.now in
    let protected = c.args.facts.now.protected.now in
    let asked = c.args.facts.now.asked.now in
    let places = c.args.marks.now.places.items in
    let target = c.in-Some.told.target in
    let own = c.in-Some.told.own in
    let first = rw c.in-Some.is at c.in_ok-told.ensures.some in
    first

pub prove_told-requires-clause-independent : goal.prove_told-requires-clause-independent
prove_told-requires-clause-independent c =
    let n = c.args.sums.now.n in
    let history = c.args.facts.now.history.now in
    let protected = c.args.facts.now.protected.now in
    let asked = c.args.facts.now.asked.now in
    let places = c.args.marks.now.places.items in
    let target = c.in-Some.told.target in
    let own = c.in-Some.told.own in
    let first = rw c.in-Some.is at c.in_ok-told.ensures.some in
    let independent = independent_for c.pinned_rows.ensures.spanned_or_moved n history asked c.requires.rows places c.requires.marks.kept protected
    c.requires.people c.requires.denied.new target own first in
    independent

pub prove_told-requires-clause-askers : goal.prove_told-requires-clause-askers
prove_told-requires-clause-askers c =
    let n = c.args.sums.now.n in
    let history = c.args.facts.now.history.now in
    let protected = c.args.facts.now.protected.now in
    let asked = c.args.facts.now.asked.now in
    let places = c.args.marks.now.places.items in
    let target = c.in-Some.told.target in
    let own = c.in-Some.told.own in
    let first = rw c.in-Some.is at c.in_ok-told.ensures.some in
    few_askers n protected.people own first.told.askers

pub prove_told-requires-clause-spanned : goal.prove_told-requires-clause-spanned
prove_told-requires-clause-spanned c =
    let n = c.args.sums.now.n in
    let history = c.args.facts.now.history.now in
    let protected = c.args.facts.now.protected.now in
    let asked = c.args.facts.now.asked.now in
    let places = c.args.marks.now.places.items in
    let target = c.in-Some.told.target in
    let own = c.in-Some.told.own in
    let first = rw c.in-Some.is at c.in_ok-told.ensures.some in
    (target_spanned c.pinned_rows.ensures.spanned_or_moved n history asked c.requires.rows places c.requires.marks.kept protected c.requires.people
    c.requires.denied.new target own first)

pub unreachable-requires : goal.unreachable-requires
unreachable-requires c = rw c.in-None.is at c.in_ok-told.ensures.none
