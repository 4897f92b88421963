use Rattle.std.proofs.Common.{◌≡◌, ◌∙◌, ◌<◌, List, [], length, Err, arith, ap, subst}
use Rattle.std.proofs.lemmas.Option.{slice_get_within}
use Rattle.std.proofs.lemmas.Result.{IfOk-from_err}
use Rattle.audit_types.specs.History.{Protection}
use Rattle.schema_json.specs.Columns.{Column, Group, Guards, no_guards}
use Rattle.table_load.specs.Cells.{PublicView, whole}
use Rattle.drill_case.specs.Tables.{drill_columns}
use Rattle.set_index.specs.declared.index.GuardPart.{GuardPart}
use Rattle.set_index.specs.declared.index.GuardPart.TheVariants as part
use Rattle.set_index.specs.Groups.{Protects, IsFirstBad}
use Rattle.drill_case.specs.Drills.{drill_protection}
use Rattle.drill_case.proofs.drilling.answer_table.Goals as goal

-- of nothing nothing has a fault
none_bad : (columns : List Column) (found : GuardPart) → IsFirstBad columns no_guards found → ⊥
none_bad columns part.Only bad = bad tt
none_bad columns (part.Group place) bad = let inside : place < length {A = Group} [] = slice_get_within [] place bad.1.at bad.1.stands in omega (arith, inside)

pub unreachable-requires : goal.unreachable-requires
unreachable-requires c =
    let schema = c.args.schema in
    none_bad schema.columns c.in-Bad.part
    (subst (λ (guards : Guards). IsFirstBad schema.columns guards c.in-Bad.part) c.requires.guards
    (c.in-Err.ensures.bad c.in-Bad.part (ap (λ f. Err f) c.in-Bad.is)))

-- no group is guarded, and each row is of one person
none_guarded : (columns : List Column) (public : PublicView) (guards : Guards) (protected : Protection) → columns ≡ drill_columns → guards ≡ no_guards →
    Protects columns public guards protected →
    protected ≡ drill_protection
none_guarded columns public guards protected drills none protects =
    let alone = subst (λ (g : Guards). Protects drill_columns public g protected) none
    (subst (λ (l : List Column). Protects l public guards protected) drills protects) in
    λ i. record { groups = alone.0 i; people = alone.1 i; width = alone.2 i; reach = alone.3 i }

-- and each row may be asked of
none_left : (columns : List Column) (public : PublicView) (guards : Guards) (protected : Protection) → guards ≡ no_guards →
    Protects columns public guards protected →
    public ≡ whole public
none_left columns public guards protected none protects =
    let alone = subst (λ (g : Guards). Protects columns public g protected) none protects in
    λ i. record { rows = public.rows; columns = public.columns; only = alone.4 i }

pub answer_lines-requires-clause-public : goal.answer_lines-requires-clause-public
answer_lines-requires-clause-public c =
    none_left c.args.schema.columns c.in-Ok.index.public c.args.schema.guards c.in-Ok.index.protected c.requires.guards c.in-Ok.ensures.entries
    ∙ c.in-Ok.ensures.public ∙ c.requires.public

pub answer_lines-requires-clause-none : goal.answer_lines-requires-clause-none
answer_lines-requires-clause-none c =
    none_guarded c.args.schema.columns c.in-Ok.index.public c.args.schema.guards c.in-Ok.index.protected c.requires.columns c.requires.guards
    c.in-Ok.ensures.entries

-- ---- the lines were not answered

pub returns-in_err-answer_lines : goal.returns-in_err-answer_lines
returns-in_err-answer_lines c = record {
  rows = IfOk-from_err _ _ c.from_residual.ensures.0;
  replies = IfOk-from_err _ _ c.from_residual.ensures.0;
  short = IfOk-from_err _ _ c.from_residual.ensures.0;
}
