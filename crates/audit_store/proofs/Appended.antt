-- Journals that are brought up, group by group.
use Rattle.std.proofs.Common.{◌≡◌, min, inl, inr, ◌⊎◌, ⊎_elim, ℕ, ◌+◌, ◌-◌, ◌*◌, ◌<◌, ◌≤◌, true, List, ◌++◌, length, take, drop, refl, sym, ap, subst, ◌∙◌, arith, append-nil, append_assoc, length-take, length-drop, length-append}
use Rattle.std.proofs.lemmas.Bool.{cases_lt}
use Rattle.std.proofs.lemmas.List.{drop-take, take-take, take-append-drop}
use Rattle.audit_types.specs.declared.shapes.Shape.{Shape}
use Rattle.audit_types.specs.declared.records.Answered.{Answered}
use Rattle.bench_core.specs.declared.bench.Bench.{Ghosts}
use Rattle.bench_core.specs.Calls.{IsQuiet, LeavesOnly}
use Rattle.bench_core.specs.Moments.{started, joins, weakens}
use Rattle.journal_form.specs.Journal.{StandsAt, StandsFor}
use Rattle.answer_journal.specs.Contents.{JournalContents}
use Rattle.answer_journal.specs.Moments.{IsBeforeOrAfter}
use Rattle.audit_store.specs.Twice.{IsBroughtUp, MayAppend, WasAppended}
use Rattle.audit_store.specs.StoreLaws.{four_calls}

-- the first records, and those up to a later place
pub front_and_next : (missing : List Answered) (at end : ℕ) → at ≤ end → take at missing ++ take (end - at) (drop at missing) ≡ take end missing
front_and_next missing at end le =
    let more : at + (end - at) ≡ end = omega (arith, le) in
    ap (λ (l : List Answered). take at missing ++ l) (sym (drop-take at (end - at) missing))
    ∙ ap (λ (l : List Answered). l ++ drop at (take (at + (end - at)) missing)) (sym (take-take at (at + (end - at)) missing (omega arith)))
    ∙ take-append-drop at (take (at + (end - at)) missing)
    ∙ ap (λ (n : ℕ). take n missing) more

-- how many groups of 64 were appended, if so many records were
pub record AreGroupsUpTo (at all groups : ℕ) : Type 0 where
  pub enough : at ≤ 64 * groups
  pub no_more : 64 * groups < at + 64
  pub whole : (at ≡ 64 * groups) ⊎ (at ≡ all)

pub next_group : (at end all groups : ℕ) → AreGroupsUpTo at all groups → at < all → end ≡ min all (at + 64) → AreGroupsUpTo end all (groups + 1)
next_group at end all groups are lt is = elim are.whole [
  | inl same ↦ record {
    enough = omega (arith, same, is);
    no_more = omega (arith, same, is, lt);
    whole = elim (cases_lt all (at + 64)) [ inl last ↦ inr (omega (arith, is, last)) | inr full ↦ inl (omega (arith, is, full, same)) ];
  }
  | inr done ↦ absurd (omega (arith, done, lt))
]

-- if nothing is called the file stands for the history before
pub nothing_brought_up : {D : Type 0} (bench : Ghosts D) (missing : List Answered) (at : D) (shape : Shape) (history : List Answered) (gate : ℕ)
    → ((image sent : List ℕ) → bench.since at (bench.moment at) image sent → bench.leaves at image × (sent ≡ bench.sent at)) → IsQuiet bench at
    → StandsAt (bench.file at) shape history gate → LeavesOnly bench at at (IsBroughtUp shape history missing (bench.sent at))
nothing_brought_up bench missing at shape history gate only_now quiet stands =
    started bench at (IsBroughtUp shape history missing (bench.sent at)) (λ image sent was.
    let now = only_now image sent was in (
      now.1,
      (
        0,
        subst (λ (h : List Answered). StandsFor image shape h) (sym (append-nil history))
            (subst (λ (f : List ℕ). StandsFor f shape history) (sym (quiet image now.0)) (gate, stands)),
      ),
    ))

module _ {D : Type 0} (bench : Ghosts D) (missing : List Answered) (old : D) (first : JournalContents) where
  -- so many of the missing records were appended
  pub record AreAppended (at : ℕ) (now : D) (journal : JournalContents) : Type 0 where
    pub within : at ≤ length missing
    pub usable : journal.usable ≡ true
    pub shape : journal.shape ≡ first.shape
    pub counted : journal.count ≡ first.count + at
    pub stands : (history : List Answered) → bench.told → StandsAt (bench.file old) first.shape history first.gate → length history ≡ first.count
        → StandsAt (bench.file now) journal.shape (history ++ take at missing) journal.gate
    pub moments : (history : List Answered) → bench.told → StandsAt (bench.file old) first.shape history first.gate → length history ≡ first.count →
        IsQuiet bench old
        → LeavesOnly bench old now (IsBroughtUp first.shape history missing (bench.sent old))
    pub quiet : bench.told → IsQuiet bench old → IsQuiet bench now
    pub sent : bench.sent now ≡ bench.sent old
    pub steady : bench.faults now ≡ bench.faults old
    pub groups : ℕ
    pub counts : AreGroupsUpTo at (length missing) groups
    pub ticks : bench.told → bench.moment now ≡ bench.moment old + 4 * groups

  -- none yet
  pub none_appended : ((image sent : List ℕ) → bench.since old (bench.moment old) image sent → bench.leaves old image × (sent ≡ bench.sent old)) → first.usable
      ≡ true → AreAppended 0 old first
  none_appended only_now usable = record {
    within = omega arith;
    usable = usable;
    shape = refl;
    counted = omega arith;
    stands = λ history told stands many. subst (λ (h : List Answered). StandsAt (bench.file old) first.shape h first.gate) (sym (append-nil history)) stands;
    moments = λ history told stands many quiet. nothing_brought_up bench missing old first.shape history first.gate only_now quiet stands;
    quiet = λ told quiet. quiet;
    sent = refl;
    steady = refl;
    groups = 0;
    counts = record { enough = omega arith; no_more = omega arith; whole = inl refl };
    ticks = λ told. omega arith;
  }

  module _ (at end : ℕ) (mid new : D) (journal next : JournalContents) (so_far : AreAppended at mid journal) (le : at ≤ end) (group : List Answered)
      (group_is : group ≡ take (end - at) (drop at missing))
      (keeps : MayAppend bench journal group mid new) where
    -- the history so far, as long as the journal counts
    pub as_counted : (history : List Answered) → length history ≡ first.count → length (history ++ take at missing) ≡ journal.count
    as_counted history many =
        omega (arith, length-append history (take at missing), length-take at missing, so_far.within, so_far.counted, many)

    -- and with the group
    pub up_to_end : (history : List Answered) → (history ++ take at missing) ++ group ≡ history ++ take end missing
    up_to_end history =
        append_assoc history (take at missing) group
        ∙ ap (λ (l : List Answered). history ++ l) (ap (λ (l : List Answered). take at missing ++ l) group_is ∙ front_and_next missing at end le)

    -- while one group more is appended
    pub one_more_moments : (history : List Answered) → bench.told → StandsAt (bench.file old) first.shape history first.gate → length history ≡ first.count →
        IsQuiet bench old
        → LeavesOnly bench old new (IsBroughtUp first.shape history missing (bench.sent old))
    one_more_moments history told stands many quiet =
        let before = history ++ take at missing in
        joins bench old mid new (IsBroughtUp first.shape history missing (bench.sent old)) (so_far.moments history told stands many quiet)
        (weakens bench mid new (IsBeforeOrAfter journal.shape before group (bench.sent mid)) (IsBroughtUp first.shape history missing (bench.sent old))
        (λ image sent is. (
          is.0 ∙ so_far.sent,
          ⊎_elim
              (λ was. (at, subst (λ (s : Shape). StandsFor image s before) so_far.shape was))
              (λ more. (
                end,
                subst (λ (h : List Answered). StandsFor image first.shape h) (up_to_end history)
                    (subst (λ (s : Shape). StandsFor image s (before ++ group)) so_far.shape more),
              ))
              is.1,
        ))
        (keeps before told (so_far.stands history told stands many) (as_counted history many) (so_far.quiet told quiet)))

    -- it was
    pub one_more : end ≡ min (length missing) (at + 64) → at < length missing → WasAppended bench journal next group mid new
        → bench.sent new ≡ bench.sent mid → bench.faults new ≡ bench.faults mid → AreAppended end new next
    one_more is inside appended sent steady =
        let long : length group ≡ end - at = omega (arith, ap length group_is, length-take (end - at) (drop at missing), length-drop at missing, is) in
        let some : 0 < length group = omega (arith, long, is, inside) in
        record {
          within = omega (arith, is);
          usable = appended.usable;
          shape = appended.shape ∙ so_far.shape;
          counted = omega (arith, appended.counted, long, so_far.counted, le);
          stands = λ history told stands many.
              subst (λ (h : List Answered). StandsAt (bench.file new) next.shape h next.gate) (up_to_end history)
              (appended.done (history ++ take at missing) told (so_far.stands history told stands many) (as_counted history many));
          moments = one_more_moments;
          quiet = λ told was. appended.quiet told (so_far.quiet told was);
          sent = sent ∙ so_far.sent;
          steady = steady ∙ so_far.steady;
          groups = so_far.groups + 1;
          counts = next_group at end (length missing) so_far.groups so_far.counts inside is;
          ticks = λ told. omega (arith, appended.ticks told, four_calls group some, so_far.ticks told);
        }
