use Rattle.std.proofs.Common.{ℕ, Bool, ◌<◌, sym, ap, ◌∙◌, arith}
use Rattle.std.specs.Prelude.{nat_le}
use Rattle.std.proofs.lemmas.Bool.{le-leb, lt-leb}
use Rattle.std.proofs.lemmas.Grind.{get_or_default_zero}
use Rattle.audit_types.specs.Headcount.{count_at}
use Rattle.audit_types.specs.Rows.{Rows, with_row}
use Rattle.audit_types.specs.HeadcountLaws.{no_rows, with_last, without_last}
use Rattle.audit_types.proofs.counted_rows.crowded.Goals as goal
use Rattle.audit_types.proofs.counted_rows.crowded.Goals.{then-least-counts, else-least-counts}

pub loop-row-init : goal.loop-row-init
loop-row-init c = record { same_n = c.new-rows.ensures.n; so_far = c.new-rows.ensures.empty ∙ sym (no_rows _) }

pub loop-row-preserved : goal.loop-row-preserved
loop-row-preserved c =
    let least = c.args.least in
    let counts = c.args.counts.now in
    let row = c.loop-row.row in
    let below : row < c.args.n = omega (arith, c.loop-row-test.true, c.requires.within) in
    let test : ℕ → Bool = λ r. nat_le least (count_at counts r) in
    let here = get_or_default_zero counts row 1 c.loop-row-test.true in
    let n = c.loop-row.invariant.same_n in
    elim c.if-least-counts.branch [
      | then-least-counts w ↦ record {
        same_n = ap (λ (s : Rows). s.n) w.rows-is ∙ w.add.ensures.n ∙ n;
        so_far = ap (λ (s : Rows). s.list) w.rows-is ∙ w.add.ensures.added ∙ ap (λ m. with_row m c.loop-row.rows.list row) n
            ∙ ap (λ rows. with_row c.args.n rows row) c.loop-row.invariant.so_far ∙ with_last c.args.n test row below
            (le-leb least (count_at counts row) (omega (arith, w.if-least-counts.true, here)));
      }
      | else-least-counts w ↦ record {
        same_n = ap (λ (s : Rows). s.n) w.rows-is ∙ n;
        so_far = ap (λ (s : Rows). s.list) w.rows-is ∙ c.loop-row.invariant.so_far
            ∙ sym (without_last test row (lt-leb least (count_at counts row) (omega (arith, w.if-least-counts.false, here))));
      }
    ]
