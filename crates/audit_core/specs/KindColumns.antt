-- Facts on what is known of a column, by its kind.
use Rattle.std.proofs.Common.{◌≡◌, ℕ, List, [], ap, ◌∙◌}
use Rattle.audit_types.specs.declared.records.Answered.{Answered}
use Rattle.audit_types.specs.declared.shapes.Kind.{Kind}
use Rattle.audit_types.specs.declared.shapes.Kind.TheVariants.{Sum, Max}
use Rattle.audit_types.specs.Headcount.{Headcount}
use Rattle.audit_types.specs.Shapes.{kind_at}
use Rattle.audit_types.specs.Column.{Answer, Known, known_sum, known_max, guarding, with_bounds}
use Rattle.audit_types.specs.History.{Setting, answers_of, groups_of, known_of}

-- what is known of a column of this kind, with what is guarded of it
abbrev pub known_as : Kind → ℕ → Headcount → List (List ℕ) → ℕ → ℕ → List Answer → Known
known_as kind n people groups width reach answers =
    record { kind = kind; n = n; answers = answers; groups = groups; people = people; width = width; reach = reach }

-- the same of a column in a setting, if it is of this kind and has these groups
abbrev pub known_in_setting : Setting → List Answer → Kind → List (List ℕ) → Known
known_in_setting setting answers kind groups =
    known_as kind setting.shape.rows setting.protected.people groups setting.protected.width setting.protected.reach answers

pub known_sums : (setting : Setting) (history : List Answered) (column : ℕ) → kind_at setting.shape column ≡ Sum →
    known_of setting history column
    ≡ with_bounds (guarding (known_sum setting.shape.rows (answers_of column history)) setting.protected.people (groups_of column setting.protected.groups))
    setting.protected.width setting.protected.reach
known_sums setting history column sums =
    ap (λ kind. known_in_setting setting (answers_of column history) kind (groups_of column setting.protected.groups)) sums

pub known_maxima : (setting : Setting) (history : List Answered) (column : ℕ) → kind_at setting.shape column ≡ Max →
    groups_of column setting.protected.groups ≡ [] →
    known_of setting history column
    ≡ with_bounds (guarding (known_max setting.shape.rows (answers_of column history)) setting.protected.people []) setting.protected.width setting.protected.reach
known_maxima setting history column maxima none =
    ap (λ kind. known_in_setting setting (answers_of column history) kind (groups_of column setting.protected.groups)) maxima
    ∙ ap (known_in_setting setting (answers_of column history) Max) none
