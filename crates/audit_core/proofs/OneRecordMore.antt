-- A record that may follow a legal history keeps it legal.
use Rattle.std.proofs.Common.{[], ◌∷◌, arith, length-append, inl, inr}
use Rattle.audit_core.specs.Laws.{LegalGrows}
use Rattle.audit_core.proofs.Places.{old_or_new}

pub legal_grows : LegalGrows
legal_grows table history r legal few next = record {
  few = omega (arith, length-append history (r ∷ []));
  each = λ i s here. elim (old_or_new history r i s here) [
    | inl (old, same) ↦ rw same (legal.each i s old)
    | inr (new, same, last) ↦ rw (same, ← new) next
  ];
}
