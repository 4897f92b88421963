use Rattle.std.proofs.Common.{◌≡◌, ◌≢◌, ℕ, ◌<◌, ℤ, List, [], sym, ap, ◌∙◌, subst}
use Rattle.std.specs.List.{AllByRecursion}
use Rattle.std.proofs.lemmas.Bool.{false≢true}
use Rattle.audit_types.specs.Column.{Answer, Known, Agrees, known_max}
use Rattle.audit_types.specs.Truth.{truth}
use Rattle.audit_types.specs.declared.shapes.Kind.TheVariants.{Max}
use Rattle.audit_types.specs.History.{answers_of}
use Rattle.witness_check.specs.Pairs.{ShowsFree}
use Rattle.journal_audit.proofs.checking.check_row.Goals as goal

pub max_witness-requires : goal.max_witness-requires
max_witness-requires c = record { row = c.requires.row; consistent = c.requires.consistent; free = c.requires.free }

pub check_pair-requires-clause-same_n : goal.check_pair-requires-clause-same_n
check_pair-requires-clause-same_n c =
    subst (λ n. AllByRecursion (λ r. r.rows.n ≡ n) c.args.list.now) (sym (c.n-n.ensures.exact ∙ ap (λ b. b.n) c.bounds.ensures.exact)) c.requires.same_n

pub check_pair-requires-clause-row : goal.check_pair-requires-clause-row
check_pair-requires-clause-row c = subst (λ n. c.args.row < n) (sym (c.n-n.ensures.exact ∙ ap (λ b. b.n) c.bounds.ensures.exact)) c.requires.row

-- what agrees with all that is known of a column of maxima agrees with its answers
agrees_with : (known : Known) (n : ℕ) (answers : List Answer) (w : List ℤ) → known.kind ≡ Max → known.n ≡ n → known.answers ≡ answers → Agrees known w →
    Agrees (known_max n answers) w
agrees_with known n answers w kind same_n same_answers agrees = record {
  one_each = agrees.one_each ∙ same_n;
  same =
      subst (λ (l : List Answer). AllByRecursion (λ a. truth Max w a.rows ≡ a.value) l) same_answers
      (subst (λ k. AllByRecursion (λ a. truth k w a.rows ≡ a.value) known.answers) kind agrees.same);
}

pub unreachable-requires : goal.unreachable-requires
unreachable-requires c =
    let known = c.args.maxima.now in
    let answers = answers_of c.args.column c.args.list.now in
    let n = c.n-n.result in
    let row = c.args.row in
    let pair = c.in_ok-pair.ensures in
    let n_is : known.n ≡ n = sym (c.n-n.ensures.exact ∙ ap (λ b. b.n) c.bounds.ensures.exact) in
    let agrees = λ (w : List ℤ). λ (all : Agrees known w). agrees_with known n answers w c.bounds.ensures.maxima n_is c.requires.answers all in
    let here : ShowsFree (known_max n answers) row c.in_ok-pair.pair.lo.items c.in_ok-pair.pair.hi.items = record {
      lo_agrees = agrees c.in_ok-pair.pair.lo.items pair.agree.0;
      hi_agrees = agrees c.in_ok-pair.pair.hi.items pair.agree.1;
      some = subst (λ (l : List Answer). AllByRecursion (λ a. a.rows ≢ []) l) c.requires.answers c.bounds.ensures.well_formed.some;
      differ = pair.differ;
    } in
    let lo = subst (λ (l : List ℤ). ShowsFree (known_max n answers) row l c.in_ok-pair.pair.hi.items) (sym c.deref.ensures.value) here in
    let both = subst (λ (l : List ℤ). ShowsFree (known_max n answers) row c.deref.result.now l) (sym c.deref-2.ensures.value) lo in
    false≢true (c.if-not-check_pair.ensures.exact.1 both)
