-- What a life left is taken by the next run, whatever became of what is public.
use Rattle.std.proofs.Common.{◌≡◌, ◌<◌, ℕ, List, ap, subst}
use Rattle.audit_types.specs.declared.records.Answered.{Answered}
use Rattle.audit_types.specs.declared.shapes.Shape.{Shape}
use Rattle.audit_types.specs.Widening.{over, widened}
use Rattle.audit_types.specs.WideningLaws.{widened-widened}
use Rattle.audit_types.specs.History.{AreSecrets, IsLegal}
use Rattle.table_load.specs.Database.{Database, IsDatabase, table_in}
use Rattle.journal_form.specs.Journal.{StandsFor}
use Rattle.audit_session.specs.HistoryFacts.{over_left}
use Rattle.audit_session.specs.Laws.{LivesStayLegal, FollowersStayLegal, KeepsNumbers, KeepsGroups}
use Rattle.audit_session.specs.Lives.{Standing, Run, Follows, IsLife, shape_in, history_over}
use Rattle.auditor_top.specs.Commands.{AreSoundFilesOf, ServesOver, GrowsOver}

module _ (stays : LivesStayLegal) (follow : FollowersStayLegal) (schema table image : List ℕ) (base now : Database) (runs : List Run) (last : Standing)
    (files : AreSoundFilesOf schema table now) (database : IsDatabase now) (are : AreSecrets now.secret.shape now.secret.lists) (life : IsLife base runs last)
    (follows : Follows last.base now) (numbers : KeepsNumbers last.base now) (keeps : KeepsGroups last.base now) where
  -- the history is legal for it
  legal_next : IsLegal (table_in now) (widened now.secret.shape.rows last.history)
  legal_next =
      subst (λ (h : List Answered). IsLegal (table_in now) h) (widened-widened last.base.secret.shape.rows now.secret.shape.rows last.history)
      (follow last.base now (history_over last.base last) database are follows numbers keeps (stays base runs last life))

  -- the journal has its columns
  stands_next : StandsFor image (shape_in last) last.history → StandsFor image (over last.rows now.secret.shape) last.history
  stands_next stands =
      subst (λ (s : Shape). StandsFor image s last.history) (ap (over last.rows) follows.columns) stands

  pub serves_next : last.rows ≡ now.secret.shape.rows → StandsFor image (shape_in last) last.history → ServesOver schema table image now last.history
  serves_next rows stands =
      let here : StandsFor image now.secret.shape last.history =
      subst (λ k. StandsFor image (over k now.secret.shape) last.history) rows (stands_next stands) in
      record {
        files = files;
        stands = here;
        legal = subst (λ (h : List Answered). IsLegal (table_in now) h) (over_left image now.secret.shape last.history here) legal_next;
      }

  pub grows_next : last.rows < now.secret.shape.rows → StandsFor image (shape_in last) last.history →
      GrowsOver schema table image now last.rows last.history
  grows_next fewer stands = record { files = files; fewer = fewer; stands = stands_next stands; legal = legal_next }
