use Rattle.std.proofs.Common.{◌≡◌, ap, ◌∙◌, sym, length}
use Rattle.audit_types.specs.Rows.{Rows, rows_that, intersection}
use Rattle.audit_types.specs.PackedWords.{words_at}
use Rattle.audit_types.specs.Words.{has_bit, words_over}
use Rattle.audit_types.proofs.PackedSets.{fits, get-set, place, same_table, length-words_at}
use Rattle.audit_types.proofs.row_sets.RowSets.put_shared.Goals as goal

pub words_at-requires : goal.words_at-requires
words_at-requires c =
    rw (c.words_over.ensures, c.deref.ensures.value) (fits c.self.inside c.args.self.now c.self.view_is c.self.invariant c.args.k c.requires.place)

-- the words read are those of the set
words : (c : goal.After-words_at) → c.words_at.result.now ≡ words_at (words_over c.self.inside.n) c.self.inside.words.items c.args.k
words c =
    c.words_at.ensures ∙ ap (λ w. words_at w c.deref.result.now c.args.k) c.words_over.ensures
    ∙ ap (λ xs. words_at (words_over c.self.inside.n) xs c.args.k) c.deref.ensures.value

pub put_shared-requires-clause-words : goal.put_shared-requires-clause-words
put_shared-requires-clause-words c =
    let a = c.self.inside in
    let now = c.args.self.now in
    ap length (words c)
    ∙ length-words_at (words_over a.n) a.words.items c.args.k (fits a now c.self.view_is c.self.invariant c.args.k c.requires.place)
    ∙ ap words_over (same_table a now c.self.view_is c.self.invariant ∙ sym c.requires.same_n_shared)

pub returns-clause-both : goal.returns-clause-both
returns-clause-both c =
    let a = c.self.inside in
    let now = c.args.self.now in
    let others = c.args.other.now.list in
    let read = c.words_at.result.now in
    c.put_shared.ensures.both
    ∙ ap (λ m. intersection m (rows_that (has_bit read) m) others) c.requires.same_n_shared
    ∙ ap (λ m. intersection now.n (rows_that (has_bit read) m) others) (sym (same_table a now c.self.view_is c.self.invariant))
    ∙ ap (λ ws. intersection now.n (rows_that (has_bit ws) a.n) others) (words c.before)
    ∙ ap (λ (s : Rows). intersection now.n s.list others)
    (sym (get-set a now c.self.view_is c.args.k (place a now c.self.view_is c.self.invariant c.args.k c.requires.place)))
