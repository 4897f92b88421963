use Rattle.std.proofs.Common.{◌≡◌, List, [], get_or, sym, ap, ◌∙◌, subst}
use Rattle.std.proofs.lemmas.List.{get_or-map}
use Rattle.std.proofs.lemmas.Option.{slice_get_within}
use Rattle.audit_types.specs.declared.records.Protected.{Protected}
use Rattle.audit_types.specs.ListLaws.{all-get_or}
use Rattle.denial_proof.specs.declared.proof_parts.Target.TheVariants.{Group}
use Rattle.denial_proof.specs.Certificates.{IsTarget}
use Rattle.denial_proof.proofs.targets.rows_of.Goals as goal

pub only_row-requires-clause-row : goal.only_row-requires-clause-row
only_row-requires-clause-row c = (rw c.in-Row.is at c.requires.target).0

pub returns-in-Group-clause-n : goal.returns-in-Group-clause-n
returns-in-Group-clause-n c =
    let is : IsTarget c.args.n c.args.protected.now c.args.column c.args.told.own (Group c.in-Group.place) =
    subst (IsTarget c.args.n c.args.protected.now c.args.column c.args.told.own) c.in-Group.is c.requires.target in
    subst (λ (list : List Protected). (get_or list c.in-Group.place c.index-groups-place.result).rows.n ≡ c.args.n) (sym c.groups.ensures)
    (all-get_or (λ (p : Protected). p.rows.n ≡ c.args.n) c.args.protected.now.groups c.in-Group.place c.index-groups-place.result c.requires.same_n
    (slice_get_within c.args.protected.now.groups c.in-Group.place is.entry is.there))

pub returns-in-Group-clause-rows : goal.returns-in-Group-clause-rows
returns-in-Group-clause-rows c =
    let is : IsTarget c.args.n c.args.protected.now c.args.column c.args.told.own (Group c.in-Group.place) =
    subst (IsTarget c.args.n c.args.protected.now c.args.column c.args.told.own) c.in-Group.is c.requires.target in
    rw c.in-Group.is
    (ap (λ (list : List Protected). (get_or list c.in-Group.place c.index-groups-place.result).rows.list) c.groups.ensures
    ∙ sym (get_or-map (λ (p : Protected). p.rows.list) c.args.protected.now.groups c.in-Group.place c.index-groups-place.result []
    (slice_get_within c.args.protected.now.groups c.in-Group.place is.entry is.there)))
