use Rattle.std.proofs.Common.{◌≡◌, ◌+◌, ◌*◌, ◌++◌, ◌≤◌, length, take, rules, sym, subst, ap, ◌∙◌, arith}
use Rattle.std.specs.Prelude.{vec_len}
use Rattle.std.proofs.lemmas.List.{with_items_is, length-append}
use Rattle.audit_types.specs.PackedWords.{sets_at, ArePackedWords}
use Rattle.audit_types.specs.Words.{words_over}
use Rattle.audit_types.proofs.PackedSets.{room, next, some_width, turned, long_own, among_words, joined, joined_sets}
use Rattle.audit_types.proofs.row_sets.RowSets.insert_reserved.Goals as goal

pub unwrap-requires : goal.unwrap-requires
unwrap-requires c =
    let a = c.self.inside in
    let enough = room a c.args.self.now c.self.view_is (some_width a.n c.self.invariant.some) c.requires.room in
    let long : vec_len a.words ≡ length a.words.items = search rules in
    let own : length (take (words_over a.n) c.words.result.now) ≡ words_over a.n =
    long_own a c.args.self.now c.self.view_is c.self.invariant c.args.place c.requires.place c.args.rows.now c.words.result.now c.requires.same_n
    c.words.ensures.words c.words.ensures.rows in
    c.extend_from_slice.ensures.succeeds (rw c.words_over-width.ensures (omega (arith, next a.len (words_over a.n), c.self.invariant.long)))

pub bring_back-requires : goal.bring_back-requires
bring_back-requires c =
    let a = c.self.inside in
    let own : length (take (words_over a.n) c.words.result.now) ≡ words_over a.n =
    long_own a c.args.self.now c.self.view_is c.self.invariant c.args.place c.requires.place c.args.rows.now c.words.result.now c.requires.same_n
    c.words.ensures.words c.words.ensures.rows in
    let within : c.args.place * words_over a.n ≤ length a.words.items =
    among_words a c.args.self.now c.self.view_is c.self.invariant c.args.place c.requires.place c.args.rows.now c.words.result.now c.requires.same_n
    c.words.ensures.words c.words.ensures.rows in
    let grown : c.extend_from_slice.new.self.items ≡ a.words.items ++ take (words_over a.n) c.words.result.now =
    rw (c.unwrap.ensures, c.words_over-width.ensures) at c.extend_from_slice.ensures.items in
    rw (c.words_over-width.ensures, c.deref_mut.ensures.value, grown)
    (omega (arith, length-append a.words.items (take (words_over a.n) c.words.result.now)))

pub invariant_of-self : goal.invariant_of-self
invariant_of-self c =
    let a = c.self.inside in
    let own : length (take (words_over a.n) c.words.result.now) ≡ words_over a.n =
    long_own a c.args.self.now c.self.view_is c.self.invariant c.args.place c.requires.place c.args.rows.now c.words.result.now c.requires.same_n
    c.words.ensures.words c.words.ensures.rows in
    let within : c.args.place * words_over a.n ≤ length a.words.items =
    among_words a c.args.self.now c.self.view_is c.self.invariant c.args.place c.requires.place c.args.rows.now c.words.result.now c.requires.same_n
    c.words.ensures.words c.words.ensures.rows in
    let grown : c.extend_from_slice.new.self.items ≡ a.words.items ++ take (words_over a.n) c.words.result.now =
    rw (c.unwrap.ensures, c.words_over-width.ensures) at c.extend_from_slice.ensures.items in
    let all = with_items_is c.extend_from_slice.new.self c.bring_back.new.words (c.bring_back.ensures.words_are ∙ c.deref_mut.ensures.len)
    ∙ (rw (c.words_over-width.ensures, c.deref_mut.ensures.value, grown) at c.bring_back.ensures.turned)
    ∙ turned a.words.items (take (words_over a.n) c.words.result.now) (c.args.place * words_over a.n) (words_over a.n) within own in
    subst (ArePackedWords a.n (a.len + 1)) (sym all)
    (joined a c.args.self.now c.self.view_is c.self.invariant c.args.place c.requires.place c.args.rows.now c.words.result.now c.requires.same_n
    c.words.ensures.words c.words.ensures.rows)

pub returns-clause-inserted : goal.returns-clause-inserted
returns-clause-inserted c =
    let a = c.self.inside in
    let own : length (take (words_over a.n) c.words.result.now) ≡ words_over a.n =
    long_own a c.args.self.now c.self.view_is c.self.invariant c.args.place c.requires.place c.args.rows.now c.words.result.now c.requires.same_n
    c.words.ensures.words c.words.ensures.rows in
    let within : c.args.place * words_over a.n ≤ length a.words.items =
    among_words a c.args.self.now c.self.view_is c.self.invariant c.args.place c.requires.place c.args.rows.now c.words.result.now c.requires.same_n
    c.words.ensures.words c.words.ensures.rows in
    let grown : c.extend_from_slice.new.self.items ≡ a.words.items ++ take (words_over a.n) c.words.result.now =
    rw (c.unwrap.ensures, c.words_over-width.ensures) at c.extend_from_slice.ensures.items in
    let all = with_items_is c.extend_from_slice.new.self c.bring_back.new.words (c.bring_back.ensures.words_are ∙ c.deref_mut.ensures.len)
    ∙ (rw (c.words_over-width.ensures, c.deref_mut.ensures.value, grown) at c.bring_back.ensures.turned)
    ∙ turned a.words.items (take (words_over a.n) c.words.result.now) (c.args.place * words_over a.n) (words_over a.n) within own in
    ap (λ xs. sets_at a.n xs (a.len + 1)) all
    ∙ joined_sets a c.args.self.now c.self.view_is c.self.invariant c.args.place c.requires.place c.args.rows.now c.words.result.now c.requires.same_n
    c.words.ensures.words c.words.ensures.rows
