use Rattle.std.proofs.Common.{rules}
use Rattle.drill_case.proofs.drilling.answer_over.Goals as goal

pub serve-requires : goal.serve-requires
serve-requires c = record {
  usable = c.requires.usable;
  shape = c.requires.shape;
  stands = λ told. c.requires.stands;
  batch = search rules;
}

pub returns-in-Bench : goal.returns-in-Bench
returns-in-Bench c = tt
