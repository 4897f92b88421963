use Rattle.std.proofs.Common.{◌≡◌, ◌<◌, length, get_or, sym, ◌∙◌, subst, arith}
use Rattle.std.specs.Prelude.{false, None}
use Rattle.std.proofs.lemmas.Bool.{false≢true}
use Rattle.std.proofs.lemmas.List.{get_or-map, length-map}
use Rattle.audit_types.specs.Form.{set_row}
use Rattle.sum_basis.specs.Growth.{SpansAfter}
use Rattle.sum_basis.specs.declared.keeping.KeptSet.{KeptSet}
use Rattle.sum_basis.proofs.keeping.spans_one_kept.Goals as goal

pub returns : goal.returns
returns c = (
  λ yes. absurd (false≢true yes),
  λ found.
      let set = found.0 in
      let k = found.1.0 in
      let d : KeptSet = record { rows = record { n = 0; list = set }; known = false; list = None } in
      let long = length-map c.args.kept.now (λ (s : KeptSet). s.rows.list) in
      let inside : k < length c.args.kept.now = let below = found.1.1 in omega arith in
      let is : (get_or c.args.kept.now k d).rows.list ≡ set = sym (get_or-map (λ (s : KeptSet). s.rows.list) c.args.kept.now k d set inside) ∙ found.1.2 in
      absurd (c.loop-set.invariant k d (omega arith) (let ends = c.loop-set-test.false in omega arith)
      (subst (λ list. SpansAfter c.args.form.now c.args.left.now (set_row c.args.form.now.n list)) (sym is) found.2)),
)
