use Rattle.std.proofs.Common.{◌≡◌, ℕ, List, [], ap, rules, subst, sym, ◌∙◌}
use Rattle.std.specs.Prelude.{option_map}
use Rattle.audit_types.specs.Headcount.{headcount}
use Rattle.audit_types.specs.History.{Protection}
use Rattle.audit_types.specs.Rows.{Rows}
use Rattle.audit_types.specs.declared.records.Protected.{Protected}
use Rattle.schema_json.specs.Columns.{Column, Guards}
use Rattle.table_load.specs.Cells.{FitsSchema, IsPublic, PublicView, counts_of}
use Rattle.set_index.specs.declared.index.GuardPart.TheVariants as guard
use Rattle.set_index.specs.Groups.{AreEntries, IsFirstBad, IsFirstBadGroup, Protects}
use Rattle.set_index.proofs.GroupLaws.{no_entries_are_protected, sound_only}
use Rattle.set_index.proofs.index.Index.new.Goals as goal

-- what is guarded, with these entries
abbrev guarded : List Column → PublicView → Guards → List Protected → Protection
guarded columns public guards entries = record {
  groups = entries;
  people = headcount (counts_of columns public) guards.fewest guards.own;
  width = guards.width;
  reach = guards.reach;
}

-- ---- before the groups are known

pub invariant_of-index : goal.invariant_of-index
invariant_of-index c =
    let columns = c.args.schema.columns in
    let guards = c.args.schema.guards in
    let none = c.in_ok-protected.ensures.guard ∙ ap (guarded columns c.args.public guards) c.new.ensures.items in
    record {
      fits = c.requires;
      sorts = c.in-Ok.ensures;
      protected = no_entries_are_protected c.groups_of_a_schema.ensures.fit columns c.args.public guards c.in_ok-protected.protected
          c.count-count.ensures.columns c.requires c.rows-rows.ensures.is c.width-width.ensures.guards c.rows-rows.ensures.whole none;
      only = tt;
      all = c.rows-rows.ensures.whole;
    }

pub invariant_of-index-2 : goal.invariant_of-index-2
invariant_of-index-2 c =
    let columns = c.args.schema.columns in
    let guards = c.args.schema.guards in
    let none = c.in_ok-protected.ensures.guard ∙ ap (guarded columns c.args.public guards) c.new.ensures.items in
    record {
      fits = c.requires;
      sorts = c.in-Ok.ensures;
      protected = no_entries_are_protected c.groups_of_a_schema.ensures.fit columns c.args.public guards c.in_ok-protected.protected
          c.count-count.ensures.columns c.requires c.rows-rows.ensures.is c.width-width.ensures.guards c.rows-rows.ensures.whole none;
      only = c.in_ok-index-inside.ensures.n;
      all = c.rows-rows.ensures.whole;
    }

-- ---- with the entries of the groups

pub invariant_of-index-3 : goal.invariant_of-index-3
invariant_of-index-3 c =
    let columns = c.args.schema.columns in
    let guards = c.args.schema.guards in
    let asked : PublicView = record c.args.public { only = option_map (λ (rows : Rows). rows.list) c.in_ok-index-inside.field-0 } in
    let public = c.rows-rows.ensures.is in
    let is : IsPublic asked = record { some = public.some; at_most = public.at_most; columns = public.columns } in
    let fits : FitsSchema columns asked = c.requires in
    let made = c.in_ok-index-inside-2.field-0 in
    let kept = c.in_ok-index-inside-2.ensures.guard in
    let protects : Protects columns asked guards made = (
      subst (AreEntries columns asked 0 guards.groups) (sym (ap (λ (p : Protection). p.groups) kept)) c.in_ok-groups.ensures.entries,
      ap (λ (p : Protection). p.people) kept,
      ap (λ (p : Protection). p.width) kept,
      ap (λ (p : Protection). p.reach) kept,
      c.in_ok-index-inside.ensures.asks,
    ) in
    record {
      fits = c.requires;
      sorts = c.in-Ok.ensures;
      protected = c.groups_of_a_schema.ensures.fit columns asked guards made c.count-count.ensures.columns fits is c.width-width.ensures.guards protects;
      only = c.in_ok-index-inside.ensures.n;
      all = c.rows-rows.ensures.whole;
    }

pub returns-in_err-groups-clause-bad : goal.returns-in_err-groups-clause-bad
returns-in_err-groups-clause-bad c = λ part is.
    let columns = c.args.schema.columns in
    let guards = c.args.schema.guards in
    let told : (place : ℕ) × (part ≡ guard.Group place) × IsFirstBadGroup columns guards.groups place = search rules in
    subst (IsFirstBad columns guards) (sym told.1) (sound_only columns guards.only _ c.in_ok-index-inside.ensures.asks, told.2)
