use Rattle.std.proofs.Common.{◌≡◌, ℕ, [], SFits, rules, sym, ap, ◌∙◌, subst}
use Rattle.std.specs.Int.{w128}
use Rattle.std.specs.List.{AllByRecursion}
use Rattle.std.proofs.lemmas.Int.{to_z-of_z}
use Rattle.audit_types.specs.declared.records.Answered.{Answered}
use Rattle.audit_types.specs.Rows.{AreRows}
use Rattle.audit_types.specs.Headcount.{CountPeople, AreFew}
use Rattle.audit_types.specs.Column.{IsWellFormed, known_max}
use Rattle.max_bounds.specs.Maxima.{Maxima, and_answer}
use Rattle.max_audit.specs.Witnesses.{highest}
use Rattle.denial_proof.specs.FewRows.{AreRowsNamed}
use Rattle.denial_proof.proofs.CanonicalMaxima.{name_after, canonical_from}
use Rattle.denial_proof.proofs.maxima.prove_few.Goals as goal

pub unreachable-requires : goal.unreachable-requires
unreachable-requires c =
    let n = c.args.maxima.now.n in
    let few = c.args.bad.now.few in
    let formed : IsWellFormed (known_max n c.args.maxima.now.answers) = record
    { are_rows = c.bounds-bounds.ensures.well_formed.are_rows; some = c.bounds-bounds.ensures.well_formed.some } in
    let are : AreRows n c.args.asked.now.rows.list = subst (λ (k : ℕ). AreRows k c.args.asked.now.rows.list) c.requires.same_n c.n-n.ensures.are_rows in
    let count = subst (λ (k : ℕ). CountPeople k c.args.people.now.people) c.requires.people c.n.ensures.counted in
    let name = name_after n c.args.people.now.people count c.args.maxima.now.answers c.args.asked.now.rows.list c.args.bad.now.answer few formed are
    c.requires.some c.requires.first c.requires.least in
    c.in_default.ensures.none (subst (λ (k : ℕ). AreRowsNamed k few) (sym (c.n-n.ensures.n ∙ c.requires.same_n)) name.are_rows)

pub first_pair-pair-requires-clause-records : goal.first_pair-pair-requires-clause-records
first_pair-pair-requires-clause-records c =
    subst (λ (b : Maxima). AllByRecursion (λ (r : Answered). r.rows.n ≡ b.n) c.args.history.now) (sym c.bounds-bounds.ensures.exact) c.requires.records

pub first_pair-pair-requires-clause-few : goal.first_pair-pair-requires-clause-few
first_pair-pair-requires-clause-few c =
    let n = c.args.maxima.now.n in
    let people = c.args.people.now.people in
    let formed : IsWellFormed (known_max n c.args.maxima.now.answers) = record
    { are_rows = c.bounds-bounds.ensures.well_formed.are_rows; some = c.bounds-bounds.ensures.well_formed.some } in
    let are : AreRows n c.args.asked.now.rows.list = subst (λ (k : ℕ). AreRows k c.args.asked.now.rows.list) c.requires.same_n c.n-n.ensures.are_rows in
    let count = subst (λ (k : ℕ). CountPeople k people) c.requires.people c.n.ensures.counted in
    let name = name_after n people count c.args.maxima.now.answers c.args.asked.now.rows.list c.args.bad.now.answer c.args.bad.now.few formed are
    c.requires.some c.requires.first c.requires.least in
    subst (AreFew people []) (sym (c.in-Some.ensures.some.2 ∙ name.named)) c.requires.least.are_few

pub returns : goal.returns
returns c =
    let n = c.args.maxima.now.n in
    let people = c.args.people.now.people in
    let history = c.args.history.now in
    let answers = c.args.maxima.now.answers in
    let rows = c.args.asked.now.rows.list in
    let items = c.in_ok-list.list.items in
    let answer = c.args.bad.now.answer in
    let fits : SFits w128 answer = search rules in
    let value = to_z-of_z w128 answer fits in
    let listed = rw value at c.in_ok-list.ensures in
    let high : items ≡ highest n (and_answer answers rows answer) = listed
    ∙ ap (λ (b : Maxima). highest b.n (and_answer b.answers rows answer)) c.bounds-bounds.ensures.exact in
    let formed : IsWellFormed (known_max n answers) = record
    { are_rows = c.bounds-bounds.ensures.well_formed.are_rows; some = c.bounds-bounds.ensures.well_formed.some } in
    let are : AreRows n rows = subst (λ (k : ℕ). AreRows k rows) c.requires.same_n c.n-n.ensures.are_rows in
    let count = subst (λ (k : ℕ). CountPeople k people) c.requires.people c.n.ensures.counted in
    rw value
    (canonical_from c.others_are_free.ensures.highest n people count history c.args.asked.now answers answer c.args.bad.now.few c.in-Some.few.list
    c.first_pair-pair.result items c.requires.answers formed are c.requires.some c.requires.first c.requires.least high c.in-Some.ensures.some.2
    (rw value at c.first_pair-pair.ensures))
