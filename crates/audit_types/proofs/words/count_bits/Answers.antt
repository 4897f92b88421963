use Rattle.std.proofs.Common.{◌≡◌, ◌*◌, get_or, length, sym, ap, ◌∙◌, arith}
use Rattle.std.specs.Int.Count.{ones-le}
use Rattle.audit_types.specs.Rows.{rows_that}
use Rattle.audit_types.specs.RowLaws.{rows_that_longer}
use Rattle.audit_types.specs.Words.{has_bit, words_over}
use Rattle.audit_types.proofs.Counts.{count-none, count-word}
use Rattle.audit_types.proofs.words.count_bits.Goals as goal

pub loop-k-init : goal.loop-k-init
loop-k-init c = record { counted = sym (count-none c.args.words.now); few = omega arith }

pub loop-k-preserved : goal.loop-k-preserved
loop-k-preserved c =
    let fits = c.requires.ranges c.loop-k.k in
    let step = count-word c.args.words.now c.loop-k.k fits in
    let most = ones-le 64 (get_or c.args.words.now c.loop-k.k 0) fits in
    record { counted = omega arith; few = omega arith }

pub returns : goal.returns
returns c =
    let test = has_bit c.args.words.now in
    let whole : c.loop-k.k ≡ words_over c.args.n = omega arith in
    c.loop-k.invariant.counted ∙ ap (λ k. length (rows_that test (64 * k))) whole
    ∙ ap length (rows_that_longer test c.args.n (64 * words_over c.args.n) (omega arith) c.requires.none_above)
