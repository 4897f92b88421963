use Rattle.std.proofs.Common.{refl, arith}
use Rattle.audit_types.specs.Limits.{most_words}
use Rattle.audit_types.specs.WordLaws.{zero_at}
use Rattle.audit_types.proofs.packed.unpack.Goals as goal

pub loop-k-init : goal.loop-k-init
loop-k-init c = record { words_are = refl; done = λ j l. omega (arith, l); left = λ j _. zero_at most_words j }
