-- What a status says of the spare whose run didn't come to it.
use Rattle.std.proofs.Common.{ℕ, List}
use Rattle.auditor_top.specs.declared.status.Object.TheVariants.{Input}
use Rattle.auditor_top.specs.declared.words.Command.{Command}
use Rattle.auditor_top.specs.declared.status.Status.{Status}
use Rattle.auditor_top.specs.declared.status.Refusal.TheVariants.{Disagrees, SpareThere}
use Rattle.auditor_top.specs.declared.status.Status.TheVariants.{Done, Failed, InputLimit, Refused}
use Rattle.auditor_top.specs.Causes.{SpareCause}
use Rattle.auditor_top.specs.Ready.{EndsEarly}

-- a run that ends early says nothing of it
pub spare_unread : (status : Status) (command : Command) (file : List ℕ) → EndsEarly status → SpareCause status command file
spare_unread Done command file early = absurd early
spare_unread (Failed Input) command file early = absurd early
spare_unread InputLimit command file early = absurd early
spare_unread (Refused (Disagrees line due)) command file early = absurd early
spare_unread (Refused SpareThere) command file early = absurd early
spare_unread status command file early = tt
