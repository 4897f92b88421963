-- What comes first of a legal history is legal.
use Rattle.std.proofs.Common.{◌≡◌, ℕ, ◌<◌, List, length, get_or, take, Some, sym, ap, subst, ◌∙◌, arith, length-take}
use Rattle.std.specs.Prelude.{slice_get}
use Rattle.std.specs.List.{All}
use Rattle.std.proofs.lemmas.List.{take-take, get_or-take}
use Rattle.std.proofs.lemmas.Option.{slice_get_within, get_or_from_slice_get, slice_get-get_or}
use Rattle.audit_types.specs.declared.records.Answered.{Answered}
use Rattle.audit_types.specs.History.{Table, FitsShape, IsLegal, IsLegalRecord}

-- the first records of a legal history are legal
pub legal_front : (table : Table) (history : List Answered) (k : ℕ) → IsLegal table history → IsLegal table (take k history)
legal_front table history k legal = record {
  few = omega (arith, legal.few, length-take k history);
  each = λ i r here.
      let inside : i < length (take k history) = slice_get_within (take k history) i r here in
      let lt : i < k = omega (arith, inside, length-take k history) in
      let there : slice_get history i ≡ Some r = slice_get-get_or history i r (omega (arith, inside, length-take k history))
      ∙ ap (λ x. Some x) (sym (get_or-take k history i r lt) ∙ get_or_from_slice_get (take k history) i r r here) in
      subst (λ h. IsLegalRecord table h r) (sym (take-take i k history (omega (arith, lt)))) (legal.each i r there);
}

-- its records fit the table
pub legal_fits : (table : Table) (history : List Answered) → IsLegal table history → All (λ r. FitsShape table.setting.shape r.column r.rows) history
legal_fits table history legal k d lt = (legal.each k (get_or history k d) (slice_get-get_or history k d lt)).fits
