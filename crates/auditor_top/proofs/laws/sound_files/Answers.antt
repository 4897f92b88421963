use Rattle.auditor_top.proofs.SoundFiles.{MeaningsFit, are_lines, is_database, is_secret}
use Rattle.auditor_top.proofs.laws.sound_files.Goals as goal

pub returns : goal.returns
returns c =
    let fit : MeaningsFit = record {
      schema = c.columns_of_a_schema.ensures;
      secret = c.secrets_of_a_table.ensures.secret;
      public = c.secrets_of_a_table.ensures.public;
      shape = c.secrets_of_a_table.ensures.shape;
      fits = c.secrets_of_a_table.ensures.fits;
      entries = c.groups_of_a_schema.ensures.fit;
      lines = c.lines_of_a_table.ensures;
    } in
    record { database = is_database fit; secret = is_secret fit; lines = are_lines fit }
