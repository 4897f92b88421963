-- A table's shape has the number of rows that it was made with.
use Rattle.std.proofs.Common.{◌≡◌, ◌∙◌, ℕ, List, sym, ap}
use Rattle.audit_types.specs.declared.shapes.Shape.{Shape}
use Rattle.schema_json.specs.Columns.{Column}
use Rattle.schema_json.specs.SecretShape.{shape_of}
use Rattle.session_calls.proofs.reports.report.Goals as goal

shape_of_its_rows : (shape : Shape) (columns : List Column) (rows : ℕ) → shape ≡ shape_of columns rows → shape ≡ shape_of columns shape.rows
shape_of_its_rows shape columns rows is = is ∙ ap (λ r. shape_of columns r) (sym (ap (λ (s : Shape). s.rows) is))

pub send_report-requires : goal.send_report-requires
send_report-requires c = shape_of_its_rows _ c.in_ok-schema.schema.columns c.in-Ok.table.public.rows c.in-Ok.ensures.shape
