use Rattle.std.proofs.Common.{rules, ap, sym, subst, ◌∙◌}
use Rattle.std.specs.Prelude.{IfSome}
use Rattle.audit_types.specs.declared.records.Verdict.TheVariants.{DeniedUnsafe, DeniedWide}
use Rattle.audit_types.specs.Rows.{IsRowsOf}
use Rattle.audit_types.specs.History.{IsProtected, setting_of}
use Rattle.audit_core.specs.Columns.{known_in}
use Rattle.audit_core.proofs.Blamed.{all_of, is_released, is_denied, is_judged_released, is_judged_denied}
use Rattle.audit_core.proofs.ProtectedGroups.{no_groups, none_from, rows_of_group}
use Rattle.audit_core.proofs.SeenColumns.{known_at}
use Rattle.audit_core.proofs.all_columns.Core.is_released_with.Goals as goal

pub probe_with-requires-clause-same_n : goal.probe_with-requires-clause-same_n
probe_with-requires-clause-same_n c =
    let own = known_at c.args.self.now (setting_of c.self.inside.shape c.self.inside.protected) c.self.inside.history.items c.self.inside.columns.items
    c.self.view_is c.self.invariant
    c.args.asked.now.column c.index.result.now c.requires.fits.column_below c.index.ensures in
    c.requires.fits.same_n ∙ sym (ap (λ k. k.n) own)

pub probe_with-requires-clause-apart : goal.probe_with-requires-clause-apart
probe_with-requires-clause-apart c =
    let own = known_at c.args.self.now (setting_of c.self.inside.shape c.self.inside.protected) c.self.inside.history.items c.self.inside.columns.items
    c.self.view_is c.self.invariant
    c.args.asked.now.column c.index.result.now c.requires.fits.column_below c.index.ensures in
    c.set_of-apart.ensures.fit (known_in c.index.result.now).n
    (subst (λ n. IfSome c.args.group (λ p. IsRowsOf n p.now.rows)) (sym (ap (λ k. k.n) own))
    (rows_of_group c.args.self.now.setting.shape c.args.group c.requires.group))

pub probe_with-requires-clause-sums : goal.probe_with-requires-clause-sums
probe_with-requires-clause-sums c = λ max.
    let own = known_at c.args.self.now (setting_of c.self.inside.shape c.self.inside.protected) c.self.inside.history.items c.self.inside.columns.items
    c.self.view_is c.self.invariant
    c.args.asked.now.column c.index.result.now c.requires.fits.column_below c.index.ensures in
    none_from c.set_of-apart.result.now (c.set_of-apart.ensures.set
    ∙ no_groups c.args.self.now.setting.shape c.args.asked.now.column _ (all_of (IsProtected c.args.self.now.setting.shape) c.args.group c.requires.group)
    (sym (ap (λ k. k.kind) own) ∙ max))

pub returns-in-Released : goal.returns-in-Released
returns-in-Released c =
    let own = known_at c.args.self.now (setting_of c.self.inside.shape c.self.inside.protected) c.self.inside.history.items c.self.inside.columns.items
    c.self.view_is c.self.invariant
    c.args.asked.now.column c.index.result.now c.requires.fits.column_below c.index.ensures in
    record {
      judged = is_judged_released c.args.self.now c.args.asked.now (known_in c.index.result.now) c.requires.fits.column_below own _ _ c.set_of-apart.ensures.set
          (search rules);
      decided = is_released c.args.self.now c.args.asked.now (known_in c.index.result.now) c.requires.fits.column_below own _ _ c.set_of-apart.ensures.set
          (search rules);
    }

pub returns-in-DeniedUnsafe : goal.returns-in-DeniedUnsafe
returns-in-DeniedUnsafe c =
    let own = known_at c.args.self.now (setting_of c.self.inside.shape c.self.inside.protected) c.self.inside.history.items c.self.inside.columns.items
    c.self.view_is c.self.invariant
    c.args.asked.now.column c.index.result.now c.requires.fits.column_below c.index.ensures in
    record {
      judged = is_judged_denied c.args.self.now c.args.asked.now (known_in c.index.result.now) c.requires.fits.column_below own _ _ c.set_of-apart.ensures.set
          c.sets_have_one_form.ensures DeniedUnsafe (λ same. absurd cc) (search rules);
      decided = is_denied c.args.self.now c.args.asked.now (known_in c.index.result.now) c.requires.fits.column_below own _ _ c.set_of-apart.ensures.set
          c.sets_have_one_form.ensures DeniedUnsafe (λ same. absurd cc) (search rules);
    }

pub returns-in-DeniedWide : goal.returns-in-DeniedWide
returns-in-DeniedWide c =
    let own = known_at c.args.self.now (setting_of c.self.inside.shape c.self.inside.protected) c.self.inside.history.items c.self.inside.columns.items
    c.self.view_is c.self.invariant
    c.args.asked.now.column c.index.result.now c.requires.fits.column_below c.index.ensures in
    record {
      judged = is_judged_denied c.args.self.now c.args.asked.now (known_in c.index.result.now) c.requires.fits.column_below own _ _ c.set_of-apart.ensures.set
          c.sets_have_one_form.ensures DeniedWide (λ same. absurd cc) (search rules);
      decided = is_denied c.args.self.now c.args.asked.now (known_in c.index.result.now) c.requires.fits.column_below own _ _ c.set_of-apart.ensures.set
          c.sets_have_one_form.ensures DeniedWide (λ same. absurd cc) (search rules);
    }
