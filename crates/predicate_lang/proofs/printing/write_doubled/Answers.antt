use Rattle.std.proofs.Common.{◌++◌, ap}
use Rattle.std.specs.Prelude.{codes, string_bytes}
use Rattle.predicate_lang.proofs.Pushes.{pushed, where_refused}
use Rattle.predicate_lang.proofs.printing.write_doubled.Goals as goal

pub returns : goal.returns
returns c =
    pushed c.push_str-2.result (string_bytes c.push_str-2.new.self) (string_bytes c.push_str.new.self) (codes "''") _ c.push_str-2.ensures.bytes
    (ap (λ xs. xs ++ codes "''") c.in_ok-push_str.ensures.bytes)

pub returns-in_err-push_str : goal.returns-in_err-push_str
returns-in_err-push_str c = where_refused c.from_residual.result _ c.from_residual.ensures.0
