use Rattle.std.proofs.Common.{refl}
use Rattle.predicate_lang.specs.Tokens.{lex_from, front_token}
use Rattle.predicate_lang.proofs.laws.words_at_work.Goals as goal

pub returns-clause-tokens : goal.returns-clause-tokens
unfolding lex_from front_token
returns-clause-tokens c = refl

pub returns-clause-stop : goal.returns-clause-stop
unfolding lex_from front_token
returns-clause-stop c = refl

pub returns-clause-printed : goal.returns-clause-printed
returns-clause-printed c = refl
