-- Facts on what is guarded if no asker is in the table.
use Rattle.std.proofs.Common.{◌≡◌, ◌≢◌, ℕ, ◌≤◌, true, List, [], ◌∷◌, ◌++◌, map, length, append-nil, refl, subst, arith}
use Rattle.std.specs.Prelude.{◌↔◌, Contains}
use Rattle.audit_types.specs.Rows.{has_row}
use Rattle.audit_types.specs.RowLaws.{has_first}
use Rattle.audit_types.specs.Form.{set_row, InSpan}
use Rattle.audit_types.specs.Direction.{IsPinned, IsPinnedFor}
use Rattle.audit_types.specs.Column.{Known, AreOwn}
use Rattle.audit_types.specs.Headcount.{AreFew}
use Rattle.audit_types.specs.Judgement.{PinSomeNumber, SpanSomeGroup}

-- who may know the number of no row knows none
pub nobody : (own : List ℕ) → length own ≤ 0 → own ≡ []
nobody [] few = refl
nobody (q ∷ own) few = absurd (omega arith)

-- a list that isn't empty has a row
pub some_row : (rows : List ℕ) → rows ≢ [] → (r : ℕ) × (has_row rows r ≡ true)
some_row [] some = absurd (some refl)
some_row (r ∷ rows) some = (r, has_first r rows)

module _ (known : Known) (outside : known.people.own ≡ 0) where
  -- no asker knows a number
  pub none_own : (own : List ℕ) → AreOwn known own → own ≡ []
  none_own own are = nobody own (subst (λ most. length own ≤ most) outside are.1)

  pub are_none : AreOwn known []
  are_none = (tt, omega arith, tt)

  -- sets pin a number exactly if they pin that of a row of few people
  pub outsiders_pin : (sets : List (List ℕ)) → PinSomeNumber known sets ↔ ((row : ℕ) × AreFew known.people [] (row ∷ []) × IsPinned known.n sets row)
  outsiders_pin sets = (
    λ found.
        let none = none_own found.own found.are_own in
        let pin = subst (λ own. IsPinnedFor known.n sets own found.row) none found.pinned in
        (found.row, subst (λ own. AreFew known.people own (found.row ∷ [])) none found.guarded, record { below = pin.below; still = λ d direction. pin.still d direction tt }),
    λ found. record {
      own = [];
      are_own = are_none;
      row = found.0;
      guarded = found.1;
      pinned = record { below = found.2.below; other = refl; still = λ d direction zeros. found.2.still d direction };
    },
  )

  -- and what they span with her numbers they span
  pub outsiders_span : (sets : List (List ℕ)) → SpanSomeGroup known sets →
      (group : List ℕ) × Contains known.groups group × InSpan (map (set_row known.n) sets) (set_row known.n group)
  outsiders_span sets found = (
    found.group,
    found.one,
    subst (λ l. InSpan (map (set_row known.n) l) (set_row known.n found.group)) (append-nil sets)
        (subst (λ own. InSpan (map (set_row known.n) (sets ++ map (λ q. q ∷ []) own)) (set_row known.n found.group)) (none_own found.own found.are_own) found.spanned),
  )
