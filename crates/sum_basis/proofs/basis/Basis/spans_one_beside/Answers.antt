use Rattle.std.proofs.Common.{◌≡◌, ◌<◌, length, get_or, sym, ◌∙◌, subst, arith}
use Rattle.std.proofs.lemmas.Bool.{false≢true}
use Rattle.std.proofs.lemmas.List.{get_or-map, length-map}
use Rattle.audit_types.specs.Rows.{Rows}
use Rattle.sum_basis.specs.Asking.{SpansBeside}
use Rattle.sum_basis.proofs.basis.Basis.spans_one_beside.Goals as goal

pub returns : goal.returns
returns c = (
  λ yes. absurd (false≢true yes),
  λ found.
      let set = found.0 in
      let k = found.1.0 in
      let d : Rows = record { n = 0; list = set } in
      let long = length-map c.args.apart.now (λ (s : Rows). s.list) in
      let inside : k < length c.args.apart.now = let below = found.1.1 in omega arith in
      let is : (get_or c.args.apart.now k d).list ≡ set = sym (get_or-map (λ (s : Rows). s.list) c.args.apart.now k d set inside) ∙ found.1.2 in
      absurd (c.loop-set.invariant k d (omega arith) (let ends = c.loop-set-test.false in omega arith)
      (subst (λ list. SpansBeside c.args.self.now c.args.several.now.list list) (sym is) found.2)),
)
