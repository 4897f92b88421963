use Rattle.std.proofs.Common.{◌≡◌, ◌≢◌, ℕ, ◌<◌, pos, List, [], length, get_or, set, refl, sym, ap, ◌∙◌, subst, inl, inr, arith, get_or-set_other, get_or-set_same}
use Rattle.std.specs.Prelude.{false, Vec}
use Rattle.std.specs.declared.alloc.Global.{Global}
use Rattle.std.proofs.lemmas.Bool.{cases_eq}
use Rattle.std.proofs.lemmas.List.{length-set}
use Rattle.std.proofs.lemmas.List.Elements.{All-from_recursion}
use Rattle.audit_types.specs.Rows.{has_row}
use Rattle.audit_types.specs.Form.{pivot}
use Rattle.sum_basis.specs.Keys.{IsNewPoint}
use Rattle.sum_basis.specs.Reach.{AreSmallEntries}
use Rattle.sum_basis.specs.declared.points.Point.{Point}
use Rattle.sum_basis.specs.declared.sparse.FreeEntry.{FreeEntry}
use Rattle.sum_basis.proofs.ColumnLists.{first_is_free, not_added, own_elsewhere}
use Rattle.sum_basis.proofs.SmallEntries.{new_small}
use Rattle.sum_basis.proofs.column_keys.forget_touched.Goals as goal

abbrev none : FreeEntry
none = record { place = 0; value = pos 0 }

pub new_point-new-requires : goal.new_point-new-requires
new_point-new-requires c =
    subst (λ (n : ℕ). AreSmallEntries n c.args.list.now) (sym (ap length c.deref.ensures.value ∙ c.requires.kept.weights.one_each))
    (new_small c.args.form.now c.args.list.now (inr c.requires.list))

pub loop-k-init : goal.loop-k-init
loop-k-init c =
    let form = c.args.form.now in
    let list = c.args.list.now in
    let kept = c.args.kept.now in
    let are = c.requires.kept in
    let place = (get_or list 0 none).place in
    let first = first_is_free form list c.requires.list none in
    let inside : place < length kept.heads.items = omega (arith, first.0, are.heads_each) in
    let before = λ (q : ℕ) (below : q < form.n) (h : has_row c.add.new.self.list q ≡ false).
    not_added kept.unknown.n kept.unknown.list place q (omega (arith, below, are.columns))
    (sym (ap (λ (l : List ℕ). has_row l q) c.add.ensures.added) ∙ h) in
    record {
      weights = refl;
      foreseen = record {
        weights = are.weights;
        points_each = are.points_each;
        heads_each = length-set kept.heads.items place (pos 0) ∙ are.heads_each;
        keys_each = are.keys_each;
        columns = c.add.ensures.n ∙ are.columns;
        own = are.own;
        known = λ q below h.
            let known = are.known q below (before q below h).0 in
            record { point = known.point; key = known.key };
        first = λ q below h. own_elsewhere form list c.requires.list none q (before q below h).1;
        first_head = λ q some. elim (cases_eq place q) [
          | inl same ↦
              subst (λ (i : ℕ). get_or (set kept.heads.items place (pos 0)) i (pos 0) ≡ pos 0) same (rw get_or-set_same refl)
          | inr apart ↦ absurd (some (own_elsewhere form list c.requires.list none q apart))
        ];
        untouched = λ k below h. absurd (omega arith);
        foreseen = λ k below. absurd (omega arith);
        rest = λ k upto below head entries free.
            let apart : pivot (get_or form.rows k []) ≢ place =
            All-from_recursion (λ other. pivot other ≢ place) form.rows first.1 k [] below in
            are.rows k below (rw get_or-set_other at head) entries free;
      };
    }

pub foresee-requires-clause-new : goal.foresee-requires-clause-new
foresee-requires-clause-new c =
    subst (λ (w : Vec Point Global). IsNewPoint w.items c.args.list.now c.new_point-new.result) (sym c.loop-k.invariant.weights)
    (subst (λ (w : List Point). IsNewPoint w c.args.list.now c.new_point-new.result) c.deref.ensures.value c.new_point-new.ensures)
