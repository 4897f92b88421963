use Rattle.std.proofs.Common.{◌<◌, ◌^◌, length, rules, sym, subst, ap, ◌∙◌, arith}
use Rattle.std.proofs.lemmas.List.{with_items_is}
use Rattle.audit_types.specs.PackedWords.{sets_at, ArePackedWords}
use Rattle.audit_types.proofs.PackedSets.{fits, packed-and, sets-and}
use Rattle.audit_types.proofs.row_sets.RowSets.and_with.Goals as goal

pub overflow_mul-k : goal.overflow_mul-k
overflow_mul-k c =
    let end = fits c.self.inside c.args.self.now c.self.view_is c.self.invariant c.args.k c.requires.place in
    let small : length c.self.inside.words.items < 2 ^ 63 = search rules in
    rw c.words_over-width.ensures (omega arith)

pub and_packed-requires-clause-within : goal.and_packed-requires-clause-within
and_packed-requires-clause-within c =
    rw (c.words_over-width.ensures, c.deref_mut.ensures.value) (fits c.self.inside c.args.self.now c.self.view_is c.self.invariant c.args.k c.requires.place)

pub invariant_of-self : goal.invariant_of-self
invariant_of-self c =
    subst (ArePackedWords c.self.inside.n c.self.inside.len)
    (sym (with_items_is c.self.inside.words c.and_packed.new.words (c.and_packed.ensures.words_are ∙ c.deref_mut.ensures.len)))
    (packed-and c.self.inside c.args.self.now c.self.view_is c.self.invariant c.args.k c.requires.place c.args.other.now c.words.result.now c.requires.same_n
    c.words.ensures.words c.words.ensures.rows c.and_packed.new.words
    (rw c.deref_mut.ensures.value at c.and_packed.ensures.words_are)
    (rw (c.words_over-width.ensures, c.deref_mut.ensures.value) at c.and_packed.ensures.both)
    (rw (c.words_over-width.ensures, c.deref_mut.ensures.value) at c.and_packed.ensures.before)
    (rw (c.words_over-width.ensures, c.deref_mut.ensures.value) at c.and_packed.ensures.after))

pub returns-clause-both : goal.returns-clause-both
returns-clause-both c =
    ap (λ xs. sets_at c.self.inside.n xs c.self.inside.len)
    (with_items_is c.self.inside.words c.and_packed.new.words (c.and_packed.ensures.words_are ∙ c.deref_mut.ensures.len))
    ∙ sets-and c.self.inside c.args.self.now c.self.view_is c.self.invariant c.args.k c.requires.place c.args.other.now c.words.result.now c.requires.same_n
    c.words.ensures.words c.words.ensures.rows c.and_packed.new.words
    (rw c.deref_mut.ensures.value at c.and_packed.ensures.words_are)
    (rw (c.words_over-width.ensures, c.deref_mut.ensures.value) at c.and_packed.ensures.both)
    (rw (c.words_over-width.ensures, c.deref_mut.ensures.value) at c.and_packed.ensures.before)
    (rw (c.words_over-width.ensures, c.deref_mut.ensures.value) at c.and_packed.ensures.after)
