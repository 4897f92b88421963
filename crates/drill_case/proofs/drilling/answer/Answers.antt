use Rattle.std.proofs.Common.{◌≡◌, ℕ, List, [], Result, Ok, Err, OnOk, ap, sym, ◌∙◌, subst}
use Rattle.audit_types.specs.declared.records.Answered.{Answered}
use Rattle.audit_types.specs.declared.shapes.Shape.{Shape}
use Rattle.audit_types.specs.History.{Protection, Table, AreProtected}
use Rattle.bench_core.specs.BenchContents.{file_of, sent_of}
use Rattle.bench_core.specs.Ends.{IsStop}
use Rattle.journal_form.specs.Journal.{StandsFor}
use Rattle.audit_store.specs.Stores.{IsAsLeft, secrets_of, table_of}
use Rattle.line_wire.specs.Lines.{counted_lines}
use Rattle.audit_session.specs.Ends.{Serves}
use Rattle.table_load.specs.Database.{base_of, secret_table}
use Rattle.audit_session.specs.HistoryFacts.{nothing_is_legal}
use Rattle.drill_case.proofs.drilling.answer.Goals as goal

-- the lines were answered up to some history
up_to_some : {T E : Type 0} (r : Result T E) (last : List Answered) (UpTo : List Answered → Type 0) → OnOk r (UpTo last)
    → OnOk r ((last : List Answered) × UpTo last)
up_to_some (Ok done) last UpTo is = (last, is)
up_to_some (Err fault) last UpTo is = tt

pub new-requires : goal.new-requires
new-requires c = record {
  fit = subst (λ (protected : Protection). AreProtected c.args.secret.shape protected) (sym (c.in_ok-protected.ensures ∙ c.protected.ensures.same))
      (subst (λ (shape : Shape). AreProtected shape c.args.index.now.protected) (sym c.requires.shape) c.protected.ensures.fit);
}

pub answer_over-requires : goal.answer_over-requires
answer_over-requires c = record {
  usable = c.in-Ok.ensures.store.1;
  shape = ap (λ (t : Table). t.setting.shape) (c.in-Ok.ensures.store.0 ∙ c.new.ensures) ∙ c.requires.shape;
  stands = subst (λ (file : List ℕ). IsAsLeft file c.in-Ok.store) (sym c.start.ensures.reads.file) (c.in-Ok.ensures.stands (tt {0}));
  short = c.requires.short;
}

pub returns-in-Ok : goal.returns-in-Ok
returns-in-Ok c =
    let store = c.in-Ok.store in
    let had = c.requires.stands in
    let past = (c.one_reading.ensures (file_of c.args.bench.now) store.secret.shape c.args.secret.shape store.history [] store.journal.gate had.0
    (c.in-Ok.ensures.stands (tt {0})) had.1).1 in
    let result = c.answer_over.result in
    let last = c.answer_over.new.store.history in
    let before = sent_of c.args.bench.now in
    let after = sent_of c.answer_over.new.bench in
    let lines = counted_lines c.args.lines.items in
    let table = base_of c.args.index.now.columns c.args.index.now.public in
    let kept = c.in_ok-protected.ensures ∙ c.protected.ensures.same in
    let same : table_of store ≡ secret_table c.args.secret c.args.index.now.protected =
    c.in-Ok.ensures.store.0 ∙ c.new.ensures ∙ ap (λ (protected : Protection). secret_table c.args.secret protected) kept in
    up_to_some result last
    (λ (last : List Answered). Serves (table c.args.index.now.protected c.args.secret) [] lines last before after)
    (subst (λ (history : List Answered). OnOk result (Serves (table c.args.index.now.protected c.args.secret) history lines last before after)) past
    (subst (λ (t : Table). OnOk result (Serves (table t.setting.protected (secrets_of t)) store.history lines last before after)) same
    (subst (λ (before : List ℕ). OnOk result (Serves (table store.protected store.secret) store.history lines last before after))
    c.start.ensures.reads.sent c.answer_over.ensures)))

-- a journal that stands for a legal history isn't refused
pub unreachable-requires : goal.unreachable-requires
unreachable-requires c =
    let table = c.new.result in
    let stands = subst (λ (t : Table). StandsFor (file_of c.args.bench.now) t.setting.shape []) (sym c.new.ensures) c.requires.stands in
    subst IsStop c.in-Err-Refused.field-0-is (c.in-Err-Refused.ensures.opens [] (tt {0}) stands (nothing_is_legal table))
