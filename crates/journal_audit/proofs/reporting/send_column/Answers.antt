use Rattle.std.proofs.Common.{◌≡◌, ◌<◌, sym, subst}
use Rattle.audit_types.specs.Shapes.{columns}
use Rattle.audit_types.specs.History.{Setting}
use Rattle.audit_types.specs.declared.shapes.Kind.TheVariants.{Sum, Max}
use Rattle.audit_core.specs.Audited.{Audited}
use Rattle.audit_core.specs.Columns.{HasItsPart}
use Rattle.journal_audit.specs.Reports.{contents_of}
use Rattle.journal_audit.proofs.reporting.send_column.Goals as goal

pub column-requires : goal.column-requires
column-requires g c = subst (λ (s : Setting). c.args.column < columns s.shape) (sym c.core.ensures.setting) c.requires.below

pub send_rows-requires : goal.send_rows-requires
send_rows-requires g c =
    let core : c.core.result.now ≡ contents_of c.args.store.now =
    λ i. record { setting = c.core.ensures.setting i; history = c.core.ensures.same c.requires.usable i } in
    let part = subst (λ (audited : Audited). HasItsPart audited c.args.column Sum c.in-Sum.sums.now) core c.in-Sum.ensures in
    record { named = c.requires.named; is = c.requires.is; below = c.requires.below; part = part }

pub send_highest-requires : goal.send_highest-requires
send_highest-requires g c =
    let core : c.core.result.now ≡ contents_of c.args.store.now =
    λ i. record { setting = c.core.ensures.setting i; history = c.core.ensures.same c.requires.usable i } in
    let part = subst (λ (audited : Audited). HasItsPart audited c.args.column Max c.in-Max.maxima.now) core c.in-Max.ensures in
    record { named = c.requires.named; is = c.requires.is; below = c.requires.below; part = part }
