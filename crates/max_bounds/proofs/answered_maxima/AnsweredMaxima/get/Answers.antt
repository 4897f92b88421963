use Rattle.std.proofs.Common.{◌≡◌, ℤ, sym, ap, ◌∙◌, arith, rules, SFits, length}
use Rattle.std.specs.Prelude.{vec_len}
use Rattle.std.specs.Int.{w64}
use Rattle.std.proofs.lemmas.Int.{to_z-of_z}
use Rattle.std.proofs.Common.{get_or}
use Rattle.audit_types.specs.Rows.{Rows}
use Rattle.audit_types.specs.RowSets.{no_rows}
use Rattle.audit_types.specs.ListLaws.{all-get_or}
use Rattle.max_bounds.specs.Maxima.{pair_at}
use Rattle.max_bounds.specs.declared.answered.AnsweredMax.{AnsweredMax}
use Rattle.max_bounds.proofs.MarkedSets.{same_set}
use Rattle.max_bounds.proofs.PairedSets.{within, pair_is, answer_is}
use Rattle.max_bounds.proofs.answered_maxima.AnsweredMaxima.get.Goals as goal

pub index-requires : goal.index-requires
index-requires c =
    let place = within c.self.inside c.args.self.now c.self.view_is c.self.invariant c.args.k c.requires in
    let long : vec_len c.self.inside.answers ≡ length c.self.inside.answers.items = search rules in
    omega (arith, place, long, c.self.invariant)

pub get-requires : goal.get-requires
get-requires c = within c.self.inside c.args.self.now c.self.view_is c.self.invariant c.args.k c.requires

pub returns : goal.returns
returns c =
    let a = c.self.inside in
    let now = c.args.self.now in
    let fits : SFits w64 c.index.result.now = search rules in
    let value = to_z-of_z w64 c.index.result.now fits
    ∙ sym (answer_is a now c.self.view_is c.self.invariant c.args.k c.index.result.now c.requires c.index.ensures) in
    let place = within a now c.self.view_is c.self.invariant c.args.k c.requires in
    let set = get_or a.sets.list c.args.k no_rows in
    let n : set.n ≡ a.sets.n = all-get_or (λ (s : Rows). s.n ≡ a.sets.n) a.sets.list c.args.k no_rows c.n.ensures.same_n place in
    let rows : c.get.result ≡ set = same_set c.get.result set.n set.list (c.get.ensures.n ∙ sym n) c.get.ensures.rows in
    ap (λ (v : ℤ). record { answer = v; rows = c.get.result }) value
    ∙ ap (λ (s : Rows). record { answer = (pair_at now.items c.args.k).answer; rows = s })
    (rows ∙ ap (λ (p : AnsweredMax). p.rows) (sym (pair_is a now c.self.view_is c.self.invariant c.args.k)))
