use Rattle.std.proofs.Common.{ap, sym, ◌∙◌, ℕ, List}
use Rattle.audit_types.specs.Rows.{Rows, has_row}
use Rattle.audit_types.specs.Words.{has_bit}
use Rattle.audit_types.specs.RowLaws.{rows_that_agree, rows-again, none_above}
use Rattle.audit_types.specs.WordLaws.{has-view}
use Rattle.audit_types.proofs.rows.RowSet.over.Goals as goal

pub invariant_of-result : goal.invariant_of-result
invariant_of-result c = record {
  some = c.requires.some;
  at_most = c.requires.at_most;
  words_are = c.self.invariant.words_are;
  ranges = c.self.invariant.ranges;
  none_above = λ r above. sym (has-view c.self.inside.n c.self.inside.words c.self.invariant r) ∙ ap (λ (s : Rows). has_row s.list r) c.self.view_is
      ∙ none_above 0 c.args.n c.args.self.now.list c.requires.rows r above;
}

pub returns : goal.returns
returns c =
    ap (λ (l : List ℕ). record { n = c.args.n; list = l })
    (rows_that_agree (has_bit c.self.inside.words) (has_row c.args.self.now.list) c.args.n
    (λ r l. sym (has-view c.self.inside.n c.self.inside.words c.self.invariant r) ∙ ap (λ (s : Rows). has_row s.list r) c.self.view_is)
    ∙ rows-again c.args.n c.args.self.now.list c.requires.rows)
