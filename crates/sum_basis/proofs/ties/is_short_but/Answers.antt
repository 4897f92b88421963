use Rattle.std.proofs.Common.{◌≡◌, Bool, true, false, not, arith, refl, sym, ◌∙◌}
use Rattle.std.proofs.lemmas.Bool.{true≢false}
use Rattle.sum_basis.proofs.TiedRowsBut.{short_none, short_alone, short_one, short_few, short_tells}
use Rattle.sum_basis.proofs.ties.is_short_but.Goals as goal

is_out : (b : Bool) → not b ≡ true → b ≡ false
is_out true e = absurd cc
is_out false e = refl

is_not : (b : Bool) → b ≡ false → not b ≡ true
is_not true e = absurd cc
is_not false e = refl

pub returns-in-0 : goal.returns-in-0
returns-in-0 c = (
  λ yes. short_none c.args.several.now.n c.args.beside.now.list c.args.several.now.list c.args.row.now c.requires.kept
      (sym c.has.ensures ∙ is_out c.has.result yes) (omega (arith, c.in-0.is, c.len.ensures)),
  λ short. is_not c.has.result (c.has.ensures
      ∙ short_alone c.args.several.now.n c.args.beside.now.list c.args.several.now.list c.args.row.now c.requires.kept short
      (omega (arith, c.in-0.is, c.len.ensures))),
)

pub returns-in-1 : goal.returns-in-1
returns-in-1 c = (
  λ yes. short_one c.args.several.now.n c.args.beside.now.list c.args.several.now.list c.args.row.now c.requires.kept
      (omega (arith, c.in-1.is, c.len.ensures)) c.index.result.now c.index.ensures (c.may_tell.ensures.0 yes),
  λ short. c.may_tell.ensures.1 (short_tells c.args.several.now.n c.args.beside.now.list c.args.several.now.list c.args.row.now c.requires.kept short
      c.index.result.now c.index.ensures (omega (arith, c.in-1.is, c.len.ensures))),
)

pub returns-in_default : goal.returns-in_default
returns-in_default c = (
  λ no. absurd (true≢false (sym no)),
  λ short. absurd (let few = short_few c.args.several.now.n c.args.beside.now.list c.args.several.now.list c.args.row.now c.requires.kept short in
      omega (arith, few, c.len.ensures, c.in_default)),
)
