-- The lines that show why a question is denied.
use Rattle.std.specs.Prelude.{ℕ, ℤ, Bool, true, false, List, [], ◌++◌, map, codes, decimal, Option, Some, None}
use Rattle.std.specs.Fmt.{signed_decimal}
use Rattle.line_wire.specs.CommaLists.{with_commas, at_place, stated, bounds}
use Rattle.line_wire.specs.declared.question.Take.{Take}
use Rattle.line_wire.specs.declared.question.Take.TheVariants as take
use Rattle.denial_proof.specs.declared.proof_parts.Target.{Target}
use Rattle.denial_proof.specs.declared.proof_parts.Target.TheVariants.{Row, Group}
use Rattle.denial_proof.specs.declared.proof_parts.OwnShare.{OwnShare}
use Rattle.denial_proof.specs.declared.few_rows.FewRows.{FewRows}
use Rattle.denial_proof.specs.declared.few_rows.FewRows.TheVariants.{One, Beside, Several}
use Rattle.denial_proof.specs.declared.proof_parts.Term.{Term}
use Rattle.denial_proof.specs.declared.proof_parts.Proof.{Proof}
use Rattle.denial_proof.specs.declared.proof_parts.Proof.TheVariants.{Sum, Max}

-- what a sum would give away
abbrev pub target_text : Target → List ℕ
target_text (Row row) = codes "\"row\":" ++ decimal row
target_text (Group place) = codes "\"group\":" ++ decimal place

-- the row whose number the asker knows, with its share, if there is one
abbrev pub share_text : Option OwnShare → List ℕ
share_text None = []
share_text (Some s) = codes ",\"own\":" ++ decimal s.own ++ codes ",\"share\":" ++ signed_decimal s.share

-- the rows that alone can have an answer: one, one beside an asker's own, or several
abbrev pub few_text : FewRows → List ℕ
few_text (One row) = codes "\"row\":" ++ decimal row
few_text (Beside row own) = codes "\"row\":" ++ decimal row ++ codes ",\"own\":" ++ decimal own
few_text (Several rows) = codes "\"rows\":[" ++ with_commas (map decimal rows.list) ++ codes "]"

-- how often the set of a record is counted, after the record's place
abbrev pub term_text : Term → List ℕ
term_text term = at_place term.place term.times

-- the answer that the rows alone can have: a record's, by its place, or the asked one
abbrev pub pair_text : Option ℕ → List ℕ
pair_text (Some place) = decimal place
pair_text None = codes "\"asked\""

-- the line of a sum
abbrev pub sum_line : Target → Option OwnShare → ℤ → List Term → ℤ → List ℕ
sum_line target share times terms asked =
    codes "{\"verdict\":\"unsafe\"," ++ target_text target ++ share_text share ++ codes ",\"times\":" ++ signed_decimal times ++ codes ",\"by\":["
    ++ with_commas (map term_text terms) ++ codes "],\"asked\":" ++ signed_decimal asked ++ codes "}\n"

-- the line of a maximum, or of a minimum, whose numbers are kept negated
abbrev pub bound_line : Bool → ℤ → FewRows → Option ℕ → List ℤ → List ℕ
bound_line least answer few pair high =
    codes "{\"verdict\":\"unsafe\",\"answer\":" ++ stated least answer ++ codes "," ++ few_text few ++ codes ",\"pair\":" ++ pair_text pair
    ++ codes "," ++ bounds least high ++ codes "}\n"

-- whether the numbers are kept negated of which this is taken
abbrev pub is_least : Take → Bool
is_least take.Sum = false
is_least take.Avg = false
is_least take.Max = false
is_least take.Min = true

-- the line with a proof of a denial of what is taken
abbrev pub proof_line : Take → Proof → List ℕ
proof_line take (Sum target share times terms asked) = sum_line target share times terms asked
proof_line take (Max answer few pair high) = bound_line (is_least take) answer few pair high

-- the line without one
abbrev pub wide_line : List ℕ
wide_line = codes "{\"verdict\":\"unsafe\",\"proof\":\"wide\"}\n"
