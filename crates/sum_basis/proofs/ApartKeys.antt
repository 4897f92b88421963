-- Sets whose keys are apart from those of columns, by those that were seen.
use Rattle.std.proofs.Common.{◌≡◌, ℕ, ◌<◌, List, get_or, map, subst}
use Rattle.std.specs.Prelude.{false, All}
use Rattle.std.proofs.lemmas.List.Elements.{All-contains, All-map}
use Rattle.audit_types.specs.Rows.{has_row}
use Rattle.sum_basis.specs.Basis.{Echelon}
use Rattle.sum_basis.specs.Points.{AreSetsApart}
use Rattle.sum_basis.specs.Keys.{IsSeen, HasUnseenKey}
use Rattle.sum_basis.specs.declared.keeping.KeptSet.{KeptSet}
use Rattle.sum_basis.specs.declared.points.Point.{Point}
use Rattle.sum_basis.specs.declared.seen.Seen.{Seen}
use Rattle.sum_basis.specs.declared.sparse.FreeEntry.{FreeEntry}

-- the rows of sets with keys that weren't seen have keys apart
pub sets_apart : (form : Echelon) (weights : List Point) (new : List FreeEntry) (several keys : List ℕ) (seen : Seen) (kept : List KeptSet) →
    ((j : ℕ) → j < form.n → has_row several j ≡ false → IsSeen seen (get_or keys j 0)) →
    All (λ (s : KeptSet). HasUnseenKey form weights new seen s.rows.list) kept →
    AreSetsApart form weights new several keys (map (λ (s : KeptSet). s.rows.list) kept)
sets_apart form weights new several keys seen kept askers_seen unseen set there =
    let own = All-contains (HasUnseenKey form weights new seen) (map (λ (s : KeptSet). s.rows.list) kept) set
    (All-map (HasUnseenKey form weights new seen) (λ (s : KeptSet). s.rows.list) kept unseen) there in
    record { key = own.key; key_is = own.is; apart = λ j below single same. own.unseen (subst (IsSeen seen) same (askers_seen j below single)) }
