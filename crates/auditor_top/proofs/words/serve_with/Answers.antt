use Rattle.std.proofs.Common.{rules}
use Rattle.auditor_top.proofs.words.serve_with.Goals as goal

pub returns-in-Some : goal.returns-in-Some
returns-in-Some c = search rules
