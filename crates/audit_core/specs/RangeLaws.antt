-- What is open in one sense is open in each weaker one.
use Rattle.std.specs.Prelude.{ℤ, List}
use Rattle.audit_types.specs.Column.{Known}
use Rattle.audit_core.specs.Ranges.{StaysOpen}

-- if what may be by the first may be by the second, a column that stays open by the first does by the second
pub stays_open_by : (May Might : (List ℤ → Type 0) → Type 0) → ((Is : List ℤ → Type 0) → May Is → Might Is) → (known : Known) (w : List ℤ) →
    StaysOpen May known w → StaysOpen Might known w
stays_open_by May Might also known w open_by = record {
  sums = λ own value are_own guarded sums.
      let found = open_by.sums own value are_own guarded sums in
      (found.0, found.1, λ low high k inside far. let both = found.2 low high k inside far in (also _ both.0, also _ both.1));
  maxima = λ own row low high x are_own below other few maxima inside above under answers.
      also _ (open_by.maxima own row low high x are_own below other few maxima inside above under answers);
}
