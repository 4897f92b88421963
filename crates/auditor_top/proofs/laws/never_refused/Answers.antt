use Rattle.std.proofs.Common.{inl, inr, subst}
use Rattle.audit_types.specs.declared.shapes.Shape.{Shape}
use Rattle.audit_types.specs.History.{setting_of}
use Rattle.audit_core.specs.Released.{WereReleased}
use Rattle.journal_form.specs.Journal.{StandsFor}
use Rattle.table_load.specs.Database.{table_in}
use Rattle.auditor_top.proofs.NextRuns.{grows_next}
use Rattle.audit_session.specs.HistoryFacts.{nothing_is_legal}
use Rattle.auditor_top.proofs.laws.never_refused.Goals as goal

pub returns-clause-made : goal.returns-clause-made
returns-clause-made c = λ schema table image base files stands. record { files = files; stands = stands; legal = nothing_is_legal (table_in base) }

pub returns-clause-left : goal.returns-clause-left
returns-clause-left c = λ schema table file image before sent base batch history lines over stops.
    let stands = stops.2.stands_for in (
      _,
      record {
        files = over.files;
        stands = stands;
        legal = (c.stops_are_legal.ensures schema table before image sent base batch history _ lines over.files over.legal stops stands).0;
      },
    )

pub returns-clause-twins : goal.returns-clause-twins
returns-clause-twins c = λ schema table file spare image spare_image before sent spare_before spare_sent base batch main other whole lines over found beside.
    let still = c.stay_together.ensures base batch file spare main other whole lines before sent image spare_before spare_sent spare_image
    (c.sound_files.ensures.database schema table base over.files) over.together found beside in
    (still.1.0, still.1.1, still.0, record { files = over.files; together = still.1.2 })

pub returns-clause-grown : goal.returns-clause-grown
returns-clause-grown c = λ schema table file image before sent base rows history over found.
    elim found.1 [
      | inl stands ↦ inl (record { files = over.files; fewer = over.fewer; stands = stands; legal = over.legal })
      | inr stands ↦ inr (record { files = over.files; stands = stands; legal = over.legal })
    ]

pub returns-clause-grows : goal.returns-clause-grows
returns-clause-grows c = λ schema table image base now runs last files life follows numbers keeps more stands.
    grows_next c.lives.ensures.legal c.followers.ensures schema table image base now runs last files (c.sound_files.ensures.database schema table now files)
    (c.lists_of_secrets.ensures now.secret (c.sound_files.ensures.secret schema table now files)) life follows numbers keeps more stands

pub returns-clause-simulated : goal.returns-clause-simulated
returns-clause-simulated c = λ schema table file public_schema public_table base history over given.
    let is = c.sound_files.ensures.database schema table base over.files in
    let released = c.released_histories.ensures (table_in base) history (c.lists_of_secrets.ensures base.secret (c.sound_files.ensures.secret schema
    table base over.files))
    is.protected over.legal in
    record {
      files = given;
      begins = inr (
        subst (λ (s : Shape). StandsFor file s history) is.shape over.stands,
        subst (λ (s : Shape). WereReleased (setting_of s base.protected) history) is.shape released,
      );
    }
