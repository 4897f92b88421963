use Rattle.std.proofs.Common.{refl}
use Rattle.std.specs.Prelude.{string_bytes}
use Rattle.predicate_lang.specs.Trees.{among}
use Rattle.predicate_lang.proofs.Pushes.{then_ok, where_refused}
use Rattle.predicate_lang.proofs.Written.{among_written}
use Rattle.predicate_lang.proofs.printing.write_within.Goals as goal

pub returns : goal.returns
returns c =
    then_ok c.write_literals.result _ _ c.write_literals.ensures
    (λ last. among_written c.args.schema.now.columns (among c.args.column c.args.literals.now) c.args.column c.args.literals.now c.name.result.now
    (string_bytes c.args.out.now) (string_bytes c.push_str.new.self) (string_bytes c.push_str-2.new.self) (string_bytes c.write_literals.new.out)
    refl c.requires.some c.name.ensures c.in_ok-push_str.ensures.bytes c.in_ok-push_str-2.ensures.bytes last)

pub returns-in_err-push_str : goal.returns-in_err-push_str
returns-in_err-push_str c = where_refused c.from_residual.result _ c.from_residual.ensures.0

pub returns-in_err-push_str-2 : goal.returns-in_err-push_str-2
returns-in_err-push_str-2 c = where_refused c.from_residual-in_err-push_str-2.result _ c.from_residual-in_err-push_str-2.ensures.0
