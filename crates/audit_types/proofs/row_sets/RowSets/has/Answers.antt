use Rattle.std.proofs.Common.{sym, ap, ◌∙◌, arith}
use Rattle.audit_types.specs.WordLaws.{tested}
use Rattle.audit_types.specs.Words.{has_bit, words_over}
use Rattle.audit_types.specs.PackedWords.{words_at}
use Rattle.audit_types.proofs.PackedSets.{fits, has-set, length-words_at, same_table, row_within}
use Rattle.audit_types.proofs.row_sets.RowSets.has.Goals as goal

pub words_at-requires : goal.words_at-requires
words_at-requires c =
    rw (c.words_over.ensures, c.deref.ensures.value) (fits c.self.inside c.args.self.now c.self.view_is c.self.invariant c.args.k c.requires.place)

pub bounds-words_at-row : goal.bounds-words_at-row
bounds-words_at-row c =
    let table = same_table c.self.inside c.args.self.now c.self.view_is c.self.invariant in
    rw (c.words_at.ensures, c.words_over.ensures, c.deref.ensures.value)
    (omega (
      arith,
      row_within c.self.inside.n c.args.row (omega (arith, c.requires.row)),
      length-words_at (words_over c.self.inside.n) c.self.inside.words.items c.args.k
          (fits c.self.inside c.args.self.now c.self.view_is c.self.invariant c.args.k c.requires.place),
    ))

pub returns : goal.returns
returns c =
    tested c.words_at.result.now c.args.row
    ∙ ap (λ xs. has_bit xs c.args.row) (c.words_at.ensures ∙ ap (λ w. words_at w c.deref.result.now c.args.k) c.words_over.ensures
    ∙ ap (λ xs. words_at (words_over c.self.inside.n) xs c.args.k) c.deref.ensures.value)
    ∙ sym (has-set c.self.inside c.args.self.now c.self.view_is c.self.invariant c.args.k c.args.row c.requires.place c.requires.row)
