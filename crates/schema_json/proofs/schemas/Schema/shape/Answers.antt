use Rattle.std.proofs.Common.{sym, subst, ap, ◌∙◌, List, ℕ, Some}
use Rattle.audit_types.specs.Shapes.{IsShape, columns, kind_at}
use Rattle.schema_json.proofs.ValidShapes.{shape_is_valid, shape_counts, shape_names}
use Rattle.schema_json.proofs.schemas.Schema.shape.Goals as goal

pub returns-clause-valid : goal.returns-clause-valid
returns-clause-valid c =
    let P : List ℕ → Type 0 = λ kinds. IsShape (record { rows = c.args.rows; kinds = kinds }) in
    subst P (sym c.kinds.ensures.kinds) (shape_is_valid c.args.self.now.columns c.args.rows c.requires.some c.requires.at_most)

pub returns-clause-secrets : goal.returns-clause-secrets
returns-clause-secrets c =
    ap (λ kinds. columns (record { rows = c.args.rows; kinds = kinds })) c.kinds.ensures.kinds
    ∙ shape_counts c.args.self.now.columns c.args.rows c.kinds.ensures.columns

pub returns-clause-kinds : goal.returns-clause-kinds
returns-clause-kinds c = λ place k is.
    shape_names c.args.self.now.columns c.args.rows c.kinds.ensures.columns place k is
    ∙ ap (λ kinds. Some (kind_at (record { rows = c.args.rows; kinds = kinds }) k)) (sym c.kinds.ensures.kinds)
