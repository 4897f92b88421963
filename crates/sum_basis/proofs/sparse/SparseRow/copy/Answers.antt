use Rattle.std.proofs.Common.{List, ◌∷◌, ap, ◌∙◌, rules}
use Rattle.std.specs.Prelude.{FitsSigned}
use Rattle.std.specs.Int.{w128}
use Rattle.std.proofs.lemmas.Int.{to_z-of_z}
use Rattle.sum_basis.specs.declared.sparse.FreeEntry.{FreeEntry}
use Rattle.sum_basis.proofs.sparse.SparseRow.copy.Goals as goal

pub returns-clause-same : goal.returns-clause-same
returns-clause-same c =
    let head : FitsSigned w128 c.args.self.now.head = search rules in
    let items = c.in_ok-copy_list.ensures.same ∙ c.deref.ensures.value in
    rw (to_z-of_z w128 c.args.self.now.head head)
    (ap (λ (l : List FreeEntry). record { place = c.args.self.now.pivot; value = c.args.self.now.head } ∷ l) items)

pub returns-clause-kept : goal.returns-clause-kept
returns-clause-kept c =
    let head : FitsSigned w128 c.args.self.now.head = search rules in
    let same = to_z-of_z w128 c.args.self.now.head head in
    let items = c.in_ok-copy_list.ensures.same ∙ c.deref.ensures.value in
    record {
      listed = rw (same, items) c.requires.listed;
      leading = rw same c.requires.leading;
      bounded = rw (same, items) c.requires.bounded;
      room = c.in_ok-copy_list.ensures.room;
    }
