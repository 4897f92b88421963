use Rattle.std.proofs.Common.{◌≡◌, get_or, ap, ◌∙◌, sym, subst, arith, length, bit_and}
use Rattle.audit_types.specs.PackedWords.{words_at}
use Rattle.audit_types.specs.Words.{words_over}
use Rattle.audit_types.proofs.PackedSets.{fits, apart_is, length-words_at}
use Rattle.audit_types.proofs.row_sets.RowSets.is_apart.Goals as goal

pub words_at-requires : goal.words_at-requires
words_at-requires c =
    rw (c.words_over.ensures, c.deref.ensures.value) (fits c.self.inside c.args.self.now c.self.view_is c.self.invariant c.args.k c.requires.place)

pub returns : goal.returns
returns c =
    let a = c.self.inside in
    let w = words_over a.n in
    let words : c.words_at.result.now ≡ words_at w a.words.items c.args.k =
    c.words_at.ensures ∙ ap (λ v. words_at v c.deref.result.now c.args.k) c.words_over.ensures ∙ ap (λ xs. words_at w xs c.args.k) c.deref.ensures.value in
    let long : length c.words_at.result.now ≡ w =
    ap length words ∙ length-words_at w a.words.items c.args.k (fits a c.args.self.now c.self.view_is c.self.invariant c.args.k c.requires.place) in
    let b = c.words.result.now in
    let both = apart_is a c.args.self.now c.self.view_is c.self.invariant c.args.k c.requires.place c.args.other.now b c.requires.same_n c.words.ensures.words
    c.words.ensures.rows in (
      λ yes. both.0 (λ j l. subst (λ ws. bit_and (get_or ws j 0) (get_or b j 0) ≡ 0) words (c.are_apart.ensures.0 yes j (omega arith))),
      λ empty. c.are_apart.ensures.1 (λ j l. subst (λ ws. bit_and (get_or ws j 0) (get_or b j 0) ≡ 0) (sym words) (both.1 empty j (omega arith))),
    )
