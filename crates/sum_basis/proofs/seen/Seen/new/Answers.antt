use Rattle.std.proofs.Common.{◌%◌, sym, ◌∙◌}
use Rattle.std.proofs.lemmas.Bool.{true≢false}
use Rattle.audit_types.specs.WordLaws.{no_bit}
use Rattle.sum_basis.proofs.seen.Seen.new.Goals as goal

pub returns : goal.returns
returns c = λ key is. true≢false (sym is.low ∙ no_bit 1024 (key % 65536))
