use Rattle.std.proofs.Common.{sym, ap, ◌∙◌, arith, cond, ℕ, ◌≡◌, take}
use Rattle.schema_json.specs.Columns.{secret_count}
use Rattle.schema_json.proofs.SecretPlaces.{secrets_more, found_secret}
use Rattle.schema_json.proofs.ValidShapes.{secret_is_of}
use Rattle.schema_json.proofs.schemas.Schema.secret.Goals.{then-is_secret, else-is_secret}
use Rattle.schema_json.proofs.schemas.Schema.secret.Goals as goal

pub loop-k-preserved : goal.loop-k-preserved
loop-k-preserved c =
    let more = secrets_more c.args.self.now.columns c.loop-k.k _ c.role-in-loop-k.ensures in
    let kept = c.loop-k.invariant in
    elim c.if-is_secret.branch [
      | then-is_secret w ↦ let one = ap {B = ℕ} (λ b. cond b 1 0) (sym c.is_secret-in-loop-k.ensures ∙ w.if-is_secret.true) in
          record { counted = omega (arith, w.before-is, more, one, kept.counted); at_most = omega (arith, w.before-is, kept.at_most) }
      | else-is_secret w ↦ let none = ap {B = ℕ} (λ b. cond b 1 0) (sym c.is_secret-in-loop-k.ensures ∙ w.if-is_secret.false) in
          record { counted = omega (arith, w.before-is, more, none, kept.counted); at_most = omega (arith, w.before-is, kept.at_most) }
    ]

pub returns-clause-kind : goal.returns-clause-kind
returns-clause-kind c =
    secret_is_of c.args.self.now.columns c.args.place c.loop-k.before c.count-count.ensures.columns
    (sym (found_secret c.args.self.now.columns c.args.place _ c.loop-k.before c.role.ensures (sym c.is_secret.ensures ∙ c.if-not-is_secret.false) counted))
  where
    counted : c.loop-k.before ≡ secret_count (take c.args.place c.args.self.now.columns)
    counted = c.loop-k.invariant.counted ∙ ap (λ n. secret_count (take n c.args.self.now.columns)) (omega arith)
