-- What is within the bounds of a table is within the greatest ones, whatever is guarded: no form is wider, and no change is of more rows than all.
use Rattle.std.proofs.Common.{ℕ, ◌≤◌, List, []}
use Rattle.audit_types.specs.declared.shapes.Kind.{Kind}
use Rattle.audit_types.specs.declared.shapes.Kind.TheVariants.{Sum, Max}
use Rattle.audit_types.specs.declared.records.Answered.{Answered}
use Rattle.audit_types.specs.Column.{Known}
use Rattle.audit_types.specs.Headcount.{one_person_each}
use Rattle.audit_types.specs.Judgement.{IsWithinWidthFor, sets_with}
use Rattle.audit_types.specs.Limits.{most_rows, most_width}
use Rattle.audit_types.specs.WidthLaws.{narrow_by_more, changes_by_more}
use Rattle.audit_types.specs.History.{Setting, IsPossibleHistory, setting_of}
use Rattle.implied_records.specs.Kept.{no_groups}

-- what is known of a column, if one person stands behind each row and no group is protected, at the greatest bounds
abbrev pub at_greatest : Known → Known
at_greatest known = record known { groups = []; people = one_person_each; width = most_width; reach = most_rows }

pub within_greatest : (kind : Kind) (known : Known) (rows : List ℕ) → known.n ≤ most_rows → known.width ≤ most_width → IsWithinWidthFor kind known rows →
    IsWithinWidthFor kind (at_greatest known) rows
within_greatest Sum known rows few narrow (form, reduced, within) = (
  form,
  reduced,
  record {
    narrow = narrow_by_more known.width most_width narrow form within.narrow;
    near = λ value guarded changes. changes_by_more known.n (sets_with known rows) form known.n most_rows value few changes;
  },
)
within_greatest Max known rows few narrow within = tt

-- numbers that give the answers give them whatever is guarded
pub possible_still : (setting : Setting) (history : List Answered) → IsPossibleHistory setting history →
    IsPossibleHistory (setting_of setting.shape no_groups) history
possible_still setting history possible = (
  possible.0,
  possible.1,
  λ column below. record { one_each = (possible.2 column below).one_each; same = (possible.2 column below).same },
)
