use Rattle.std.proofs.Common.{◌≡◌, ℕ, ◌<◌, ◌^◌, get_or, rules, ap, ◌∙◌}
use Rattle.audit_types.specs.PackedWords.{words_at}
use Rattle.audit_types.specs.Words.{words_over}
use Rattle.audit_types.proofs.PackedSets.{fits, unpacked, rows_are}
use Rattle.audit_types.proofs.row_sets.RowSets.get.Goals as goal

pub words_at-words-requires : goal.words_at-words-requires
words_at-words-requires c =
    rw (c.words_over.ensures, c.deref.ensures.value) (fits c.self.inside c.args.self.now c.self.view_is c.self.invariant c.args.k c.requires)

-- the unpacked words are those of the set
same : (c : goal.After-unpack) (j : ℕ) → get_or c.unpack.result j 0 ≡ get_or (words_at (words_over c.self.inside.n) c.self.inside.words.items c.args.k) j 0
same c j =
    c.unpack.ensures.same j
    ∙ ap (λ xs. get_or xs j 0) (c.words_at-words.ensures ∙ ap (λ w. words_at w c.deref.result.now c.args.k) c.words_over.ensures
    ∙ ap (λ xs. words_at (words_over c.self.inside.n) xs c.args.k) c.deref.ensures.value)

pub with_words-requires : goal.with_words-requires
with_words-requires c =
    let ranges : (j : ℕ) → get_or c.unpack.result j 0 < 2 ^ 64 = λ j. search rules in
    unpacked c.self.inside c.args.self.now c.self.view_is c.self.invariant c.args.k c.unpack.result c.requires c.unpack.ensures.words_are ranges (same c)

pub returns-clause-rows : goal.returns-clause-rows
returns-clause-rows c =
    c.with_words.ensures.rows ∙ rows_are c.self.inside c.args.self.now c.self.view_is c.self.invariant c.args.k c.unpack.result c.requires (same c.before)
