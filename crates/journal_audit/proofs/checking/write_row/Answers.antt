use Rattle.std.proofs.Common.{◌≡◌, ℕ, ℤ, pos, ◌<◌, ◌<ℤ◌, ◌≢◌, List, sym, ap, ◌∙◌, subst, arith}
use Rattle.std.proofs.lemmas.Bool.{false≢true}
use Rattle.std.specs.List.{AllByRecursion}
use Rattle.audit_types.specs.Truth.{number_at}
use Rattle.sum_audit.specs.Sets.{sets_of}
use Rattle.witness_check.specs.Directions.{lists_of, MovesRow}
use Rattle.journal_audit.specs.Texts.{direction_line}
use Rattle.journal_audit.proofs.checking.write_row.Goals as goal

not_zero : (x : ℤ) → pos 0 <ℤ x → x ≢ pos 0
not_zero x positive none = grind arith

pub sum_witness-requires-clause-row : goal.sum_witness-requires-clause-row
sum_witness-requires-clause-row c = c.requires.row

pub sum_witness-requires-clause-free : goal.sum_witness-requires-clause-free
sum_witness-requires-clause-free c = c.requires.free

pub check_direction-requires-clause-same_n : goal.check_direction-requires-clause-same_n
check_direction-requires-clause-same_n c = subst (λ n. AllByRecursion (λ s. s.n ≡ n) c.args.sets.now) (sym c.n.ensures.n) c.requires.same_n

pub check_direction-requires-clause-row : goal.check_direction-requires-clause-row
check_direction-requires-clause-row c = subst (λ n. c.args.row < n) (sym c.n.ensures.n) c.requires.row

pub unreachable-requires : goal.unreachable-requires
unreachable-requires c =
    let sums = c.args.sums.now in
    let d = c.in_ok-direction.direction.items in
    let form = c.basis-form.result.now.rows in
    let is = c.in_ok-direction.ensures.canonical form c.basis-form.ensures.form in
    let moves : MovesRow sums.n (sets_of sums.answers) c.args.row d = record {
      direction = is.direction;
      small = c.in_ok-direction.ensures.small;
      moves = not_zero (number_at d c.args.row) is.positive;
    } in
    let here = subst (λ (l : List ℤ). MovesRow c.n.result (lists_of c.args.sets.now) c.args.row l) (sym c.deref.ensures.value)
    (subst (λ (n : ℕ). MovesRow n (lists_of c.args.sets.now) c.args.row d) (sym c.n.ensures.n)
    (subst (λ (sets : List (List ℕ)). MovesRow sums.n sets c.args.row d) (sym c.requires.sets) moves)) in
    false≢true (c.if-not-check_direction.ensures.exact.1 here)

pub returns : goal.returns
returns c =
    let form = c.basis-form.result.now.rows in
    let reduced = c.basis-form.ensures.form in (
      form,
      reduced,
      (
        c.in_ok-direction.direction.items,
        c.in_ok-direction.ensures.canonical form reduced,
        c.in_ok-write_direction.ensures ∙ ap (λ (d : List ℤ). direction_line c.args.name.now c.args.row d) c.deref-2.ensures.value,
      ),
    )
