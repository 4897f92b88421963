use Rattle.predicate_lang.proofs.reading.take_tokens.Goals as goal

pub returns-in-Whole : goal.returns-in-Whole
returns-in-Whole c = rw c.in-Whole.is at c.in_ok-end.ensures
