-- What was legal for a table is legal for one that comes after it.
use Rattle.std.proofs.Common.{◌≡◌, ℕ, ℤ, inl, inr, List, [], map, take, refl, sym, ◌∙◌, ap, subst, arith}
use Rattle.std.specs.Prelude.{Contains}
use Rattle.std.proofs.lemmas.Bool.{cases_lt}
use Rattle.audit_types.specs.declared.shapes.Kind.{Kind}
use Rattle.audit_types.specs.declared.shapes.Kind.TheVariants.{Sum, Max}
use Rattle.audit_types.specs.declared.shapes.Shape.{Shape}
use Rattle.audit_types.specs.declared.records.Answered.{Answered}
use Rattle.audit_types.specs.declared.records.Protected.{Protected}
use Rattle.audit_types.specs.declared.records.Verdict.TheVariants.{Released}
use Rattle.audit_types.specs.Column.{Known, IsGuarded, number, greatest, total, IsDangerous, with_groups}
use Rattle.audit_types.specs.Judgement.{IsDecision, IsWithinWidthFor, sets_with}
use Rattle.audit_types.specs.Reach.{IsWithinBounds}
use Rattle.audit_types.specs.Widening.{over, widened, protection_among, first_rows}
use Rattle.audit_types.specs.History.{Protection, Table, Secrets, AreSecrets, IsLegal, groups_of, known_of, setting_of}
use Rattle.audit_core.specs.WideningLaws.{LegalStays}
use Rattle.table_load.specs.Database.{Database, IsDatabase, table_in}
use Rattle.audit_session.specs.HistoryFacts.{over_own}
use Rattle.audit_session.specs.Lives.{Follows}
use Rattle.audit_session.specs.Laws.{KeepsNumbers, KeepsGroups}
use Rattle.audit_session.proofs.WholeTables.{whole_table}

-- ---- fewer groups

-- what is released stays released if fewer groups are protected
module _ (known : Known) (groups : List (List ℕ)) (fewer : (group : List ℕ) → Contains groups group → Contains known.groups group) where
  abbrev less : Known
  less = with_groups known groups

  guarded_more : (own : List ℕ) {value : List ℤ → ℤ} → IsGuarded less own value → IsGuarded known own value
  guarded_more own (number row below other few) = number row below other few
  guarded_more own (greatest rows maxima are some others few) = greatest rows maxima are some others few
  guarded_more own (total group row there inside other) = total group row (fewer group there) inside other

  danger_more : (rows : List ℕ) → IsDangerous less rows → IsDangerous known rows
  danger_more rows d = record {
    w = d.w;
    agrees = record { one_each = d.agrees.one_each; same = d.agrees.same };
    own = d.own;
    are_own = d.are_own;
    value = d.value;
    guarded = guarded_more d.own d.guarded;
    disclosed = λ v gives also.
        d.disclosed v (record { agrees = record { one_each = gives.agrees.one_each; same = gives.agrees.same }; same = gives.same }) also;
  }

  within_same : (kind : Kind) (rows : List ℕ) → IsWithinWidthFor kind known rows → IsWithinWidthFor kind less rows
  within_same Sum rows (form, reduced, within) =
      let near : IsWithinBounds less (sets_with less rows) form =
      record { narrow = within.narrow; near = λ value guarded. within.near value (guarded_more [] guarded) } in
      (form, reduced, near)
  within_same Max rows within = within

  released_less : (rows : List ℕ) → IsDecision known rows Released → IsDecision less rows Released
  released_less rows d = (within_same known.kind rows d.0, λ bad. d.1 (danger_more rows bad))

-- so a legal history stays legal
fewer_groups : (shape : Shape) (protected : Protection) (groups : List Protected) (secrets : Secrets) (history : List Answered) →
    ((column : ℕ) (group : List ℕ) → Contains (groups_of column protected.groups) group → Contains (groups_of column groups) group) →
    IsLegal (record { setting = setting_of shape (record protected { groups = groups }); secrets = secrets }) history →
    IsLegal (record { setting = setting_of shape protected; secrets = secrets }) history
fewer_groups shape protected groups secrets history fewer legal = record {
  few = legal.few;
  each = λ i r here.
      let old = legal.each i r here in
      record {
        fits = old.fits;
        true_answer = old.true_answer;
        released = released_less (known_of (setting_of shape (record protected { groups = groups })) (take i history) r.column)
            (groups_of r.column protected.groups) (fewer r.column) r.rows.list old.released;
      };
}

-- ---- a table that comes after another

pub followers_stay : LegalStays → (base later : Database) (history : List Answered) → IsDatabase later →
    AreSecrets later.secret.shape later.secret.lists → Follows base later → KeepsNumbers base later → KeepsGroups base later →
    IsLegal (table_in base) history → IsLegal (table_in later) (widened later.secret.shape.rows history)
followers_stay stay base later history database are follows numbers keeps legal =
    let m = base.secret.shape.rows in
    let n = later.secret.shape.rows in
    let table = table_in later in
    let same_columns : IsLegal (record { setting = setting_of (over m later.secret.shape) base.protected; secrets = base.secret.lists }) history =
    subst (λ (s : Shape). IsLegal (record { setting = setting_of s base.protected; secrets = base.secret.lists }) history) follows.columns legal in
    let same_numbers : IsLegal (record { setting = setting_of (over m later.secret.shape) base.protected; secrets = map (take m) later.secret.lists }) history =
    subst (λ (ls : Secrets). IsLegal (record { setting = setting_of (over m later.secret.shape) base.protected; secrets = ls }) history) numbers
    same_columns in
    let same_guard : IsLegal (record {
      setting = setting_of (over m later.secret.shape) (record (protection_among m later.protected) { groups = base.protected.groups });
      secrets = map (take m) later.secret.lists;
    }) history =
    subst (λ (p : Protection). IsLegal (record { setting = setting_of (over m later.secret.shape) p; secrets = map (take m) later.secret.lists }) history)
    keeps.1
    same_numbers in
    let front : IsLegal (first_rows m table) history =
    fewer_groups (over m later.secret.shape) (protection_among m later.protected) base.protected.groups (map (take m) later.secret.lists) history keeps.0
    same_guard in
    elim (cases_lt m n) [
      | inl lt ↦ stay (first_rows m table) table history database.protected (lt, refl) front
      | inr ge ↦
          let same : m ≡ n = omega (arith, ge, follows.rows) in
          let whole : first_rows m table ≡ table = ap (λ k. first_rows k table) same ∙ whole_table table are database.protected in
          let all : IsLegal table history = subst (λ (t : Table). IsLegal t history) whole front in
          subst (λ (h : List Answered). IsLegal table h) (sym (over_own table history all)) all
    ]
