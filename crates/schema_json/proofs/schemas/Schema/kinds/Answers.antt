use Rattle.std.proofs.Common.{ap, ◌∙◌, arith}
use Rattle.schema_json.specs.Columns.{is_secret}
use Rattle.schema_json.proofs.ShapeKinds.{kinds_room, byte_of, keeps, puts}
use Rattle.schema_json.proofs.schemas.Schema.kinds.Goals.{in-Text, in-Number, in-Count, in-Sum, in-Max, in-Min}
use Rattle.schema_json.proofs.schemas.Schema.kinds.Goals as goal

pub bounds-kinds-at : goal.bounds-kinds-at
bounds-kinds-at c =
    omega
    (arith, c.loop-k.invariant.at_is, kinds_room c.args.self.now.columns c.loop-k.k _ c.count-k-end.ensures.columns c.role.ensures (ap is_secret c.in-Sum.is))

pub overflow_add-at : goal.overflow_add-at
overflow_add-at c =
    omega
    (arith, c.loop-k.invariant.at_is, kinds_room c.args.self.now.columns c.loop-k.k _ c.count-k-end.ensures.columns c.role.ensures (ap is_secret c.in-Sum.is))

pub bounds-kinds-at-in-Max : goal.bounds-kinds-at-in-Max
bounds-kinds-at-in-Max c =
    omega
    (arith, c.loop-k.invariant.at_is, kinds_room c.args.self.now.columns c.loop-k.k _ c.count-k-end.ensures.columns c.role.ensures (ap is_secret c.in-Max.is))

pub overflow_add-at-in-Max : goal.overflow_add-at-in-Max
overflow_add-at-in-Max c =
    omega
    (arith, c.loop-k.invariant.at_is, kinds_room c.args.self.now.columns c.loop-k.k _ c.count-k-end.ensures.columns c.role.ensures (ap is_secret c.in-Max.is))

pub bounds-kinds-at-in-Min : goal.bounds-kinds-at-in-Min
bounds-kinds-at-in-Min c =
    omega
    (arith, c.loop-k.invariant.at_is, kinds_room c.args.self.now.columns c.loop-k.k _ c.count-k-end.ensures.columns c.role.ensures (ap is_secret c.in-Min.is))

pub overflow_add-at-in-Min : goal.overflow_add-at-in-Min
overflow_add-at-in-Min c =
    omega
    (arith, c.loop-k.invariant.at_is, kinds_room c.args.self.now.columns c.loop-k.k _ c.count-k-end.ensures.columns c.role.ensures (ap is_secret c.in-Min.is))

pub loop-k-preserved : goal.loop-k-preserved
loop-k-preserved c =
    let cs = c.args.self.now.columns in
    let inv = c.loop-k.invariant in
    elim c.match-role.branch [
      | in-Text w ↦ let p = keeps cs c.loop-k.k _ _ _ c.role.ensures (ap byte_of w.in-Text.is) inv in
          record { at_is = w.at-is ∙ p.at_is; kinds_are = w.kinds-is ∙ p.kinds_are }
      | in-Number w ↦ let p = keeps cs c.loop-k.k _ _ _ c.role.ensures (ap byte_of w.in-Number.is) inv in
          record { at_is = w.at-is ∙ p.at_is; kinds_are = w.kinds-is ∙ p.kinds_are }
      | in-Count w ↦ let p = keeps cs c.loop-k.k _ _ _ c.role.ensures (ap byte_of w.in-Count.is) inv in
          record { at_is = w.at-is ∙ p.at_is; kinds_are = w.kinds-is ∙ p.kinds_are }
      | in-Sum w ↦ let p = puts cs c.loop-k.k _ 1 _ _ c.count-k-end.ensures.columns c.role.ensures (ap is_secret w.in-Sum.is) (ap byte_of w.in-Sum.is) inv in
          record { at_is = w.at-is ∙ p.at_is; kinds_are = w.kinds-is ∙ p.kinds_are }
      | in-Max w ↦ let p = puts cs c.loop-k.k _ 2 _ _ c.count-k-end.ensures.columns c.role.ensures (ap is_secret w.in-Max.is) (ap byte_of w.in-Max.is) inv in
          record { at_is = w.at-is ∙ p.at_is; kinds_are = w.kinds-is ∙ p.kinds_are }
      | in-Min w ↦ let p = puts cs c.loop-k.k _ 3 _ _ c.count-k-end.ensures.columns c.role.ensures (ap is_secret w.in-Min.is) (ap byte_of w.in-Min.is) inv in
          record { at_is = w.at-is ∙ p.at_is; kinds_are = w.kinds-is ∙ p.kinds_are }
    ]
