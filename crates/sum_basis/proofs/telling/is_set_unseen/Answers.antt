use Rattle.std.proofs.Common.{ℕ, List, sym, ap, ◌∙◌, subst, inr}
use Rattle.std.specs.Prelude.{not}
use Rattle.std.proofs.lemmas.Bool.{false≢true}
use Rattle.audit_types.specs.Form.{set_row}
use Rattle.sum_basis.specs.Points.{IsPointAfter}
use Rattle.sum_basis.specs.Reach.{AreSmallEntries}
use Rattle.sum_basis.specs.declared.sparse.FreeEntry.{FreeEntry}
use Rattle.sum_basis.proofs.Residues.{residue_of_left}
use Rattle.sum_basis.proofs.SmallEntries.{new_small}
use Rattle.sum_basis.proofs.telling.is_set_unseen.Goals as goal

pub key_of-requires-clause-entries : goal.key_of-requires-clause-entries
key_of-requires-clause-entries c =
    let left = rw c.in-Some.is at c.requires.set in
    subst (λ (n : ℕ). AreSmallEntries n c.deref.result.now) (sym c.requires.weights)
    (subst (AreSmallEntries c.args.form.now.n) (sym c.deref.ensures.value)
    (new_small c.args.form.now c.in-Some.entries.items (inr (left.1.0, left.1.1.zeros))))

pub returns-in-Some-key_of : goal.returns-in-Some-key_of
returns-in-Some-key_of c = λ yes.
    let form = c.args.form.now in
    let left = rw c.in-Some.is at c.requires.set in
    let found = c.in-Some-key_of.ensures in
    record {
      key = c.in-Some-key_of.key;
      is = record {
        entries = c.in-Some.entries.items;
        residue = residue_of_left form (set_row form.n c.args.set.now.rows.list) c.in-Some.entries c.columns.ensures.form left.1;
        point = found.0;
        point_is =
            subst (λ (es : List FreeEntry). IsPointAfter c.args.weights.now c.args.list.now es found.0) c.deref.ensures.value found.1;
        key_is = found.2;
      };
      unseen = λ seen. false≢true (sym (ap not (c.has.ensures.1 seen)) ∙ yes);
    }
