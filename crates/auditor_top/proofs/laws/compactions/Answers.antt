use Rattle.std.proofs.Common.{List, subst, inl, inr}
use Rattle.audit_types.specs.declared.records.Answered.{Answered}
use Rattle.table_load.specs.Database.{table_in}
use Rattle.auditor_top.specs.Compactions.{DecideAlike}
use Rattle.auditor_top.proofs.laws.compactions.Goals as goal

pub returns : goal.returns
returns c = λ schema table before image sent base history found files legal left made stands.
    let secrets = c.lists_of_secrets.ensures base.secret (c.sound_files.ensures.secret schema table base files) in
    let law = c.kept_of_legal.ensures in
    elim left.1 [
      | inl unmade ↦ absurd (unmade made)
      | inr holds ↦
          subst (λ (others : List Answered). DecideAlike (table_in base) history others)
          (c.one_reading.ensures image _ _ _ _ _ _ holds.stands.1 stands.1).1
          (record {
            legal = law.legal (table_in base) history holds.kept secrets legal holds.are;
            alike = λ column rows verdict within. law.decisions (table_in base) history holds.kept column rows verdict secrets legal holds.are within;
          })
    ]
