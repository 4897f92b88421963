use Rattle.std.proofs.Common.{ℕ, List, sym, subst, inr, arith}
use Rattle.std.specs.Prelude.{Bool, IsTrue}
use Rattle.std.proofs.lemmas.Result.{IfOk-weaker}
use Rattle.audit_types.specs.Form.{set_row}
use Rattle.sum_basis.specs.Alike.{AreAlikeAfter, IsSetAlike}
use Rattle.sum_basis.specs.Reach.{AreSmallEntries}
use Rattle.sum_basis.specs.declared.sparse.FreeEntry.{FreeEntry}
use Rattle.sum_basis.proofs.Residues.{residue_of_left}
use Rattle.sum_basis.proofs.SmallEntries.{new_small}
use Rattle.sum_basis.proofs.suspects.is_set_alike.Goals as goal

pub key_of-requires-clause-entries : goal.key_of-requires-clause-entries
key_of-requires-clause-entries c =
    let left = rw c.in-Some.is at c.requires.set in
    subst (λ (n : ℕ). AreSmallEntries n c.deref.result.now) (sym c.requires.weights)
    (subst (AreSmallEntries c.args.form.now.n) (sym c.deref.ensures.value)
    (new_small c.args.form.now c.in-Some.entries.items (inr (left.1.0, left.1.1.zeros))))

pub are_alike-requires-clause-entries : goal.are_alike-requires-clause-entries
are_alike-requires-clause-entries c =
    let left = rw c.in-Some.is at c.requires.set in
    subst (λ (n : ℕ). AreSmallEntries n c.deref-2.result.now) (sym c.columns-columns.ensures.columns)
    (subst (AreSmallEntries c.args.form.now.n) (sym c.deref-2.ensures.value)
    (new_small c.args.form.now c.in-Some.entries.items (inr (left.1.0, left.1.1.zeros))))

pub are_alike-requires-clause-new : goal.are_alike-requires-clause-new
are_alike-requires-clause-new c =
    subst (λ (n : ℕ). AreSmallEntries n c.args.list.now) (sym c.columns-columns.ensures.columns)
    (new_small c.args.form.now c.args.list.now c.requires.list)

pub returns : goal.returns
returns c =
    let form = c.args.form.now in
    let left = rw c.in-Some.is at c.requires.set in
    let found = c.in-Some-asker_with_key.ensures in
    IfOk-weaker c.are_alike.result (λ (alike : Bool). IsTrue alike → AreAlikeAfter c.args.list.now c.deref-2.result.now c.deref-3.result.now)
    (λ (alike : Bool). IsTrue alike → IsSetAlike form c.args.list.now c.args.several.now.list c.args.set.now.rows.list)
    (λ alike h yes. record {
      own = c.in-Some-asker_with_key.q;
      below = omega (arith, found.0);
      single = found.1;
      row = c.in-Some-other_row.field-0;
      inside = c.in-Some-other_row.ensures.0;
      other = c.in-Some-other_row.ensures.1;
      entries = c.in-Some.entries.items;
      others = c.in_ok-own.own.items;
      first = residue_of_left form (set_row form.n c.args.set.now.rows.list) c.in-Some.entries c.columns-columns.ensures.form left.1;
      second = c.in_ok-own.ensures.residue;
      alike =
          subst (λ (es : List FreeEntry). AreAlikeAfter c.args.list.now es c.in_ok-own.own.items) c.deref-2.ensures.value
          (subst (λ (es : List FreeEntry). AreAlikeAfter c.args.list.now c.deref-2.result.now es) c.deref-3.ensures.value (h yes));
    }) c.are_alike.ensures
