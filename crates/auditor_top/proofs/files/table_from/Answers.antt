use Rattle.std.proofs.Common.{◌∙◌, ap, subst, refl}
use Rattle.table_load.specs.Tables.{table_of}
use Rattle.auditor_top.specs.Files.{GivesTable}
use Rattle.auditor_top.proofs.WholeFiles.{same_table, was_read, read_failed, read_wanted, failed_not_bad, wants_not_bad, wants_not_failed, tells_so}
use Rattle.auditor_top.proofs.files.table_from.Goals as goal

-- the bytes were read

pub returns-in-Ok : goal.returns-in-Ok
returns-in-Ok g c = record {
  means = λ told.
      let columns = c.args.schema.now.columns in
      subst (GivesTable c.table_in.result) (ap (table_of columns) c.deref.ensures.value
      ∙ same_table columns _ _ c.in-Ok.bytes.items (c.in-Ok.ensures.bytes told)) c.table_in.ensures.means;
  fits = c.table_in.ensures.fits;
  shape = c.table_in.ensures.shape;
  own = c.table_in.ensures.own;
  fault = tells_so g.P.Source _ _ _ (λ is. absurd (was_read _ is)) (λ is. absurd (c.table_in.ensures.all_read is)) c.in-Ok.ensures.fault;
}

-- a read failed

pub returns-in-Err-Failed : goal.returns-in-Err-Failed
returns-in-Err-Failed g c = record {
  means = λ told. tt;
  fits = tt;
  shape = tt;
  own = failed_not_bad _;
  fault = tells_so g.P.Source _ _ _ (λ is. refl) (λ is. read_failed _ c.in-Err-Failed.field-0-is) c.in-Err-Failed.ensures.fault;
}

-- there was no memory for the bytes

pub returns-in-Err-NoMemory : goal.returns-in-Err-NoMemory
returns-in-Err-NoMemory g c = record {
  means = λ told. tt;
  fits = tt;
  shape = tt;
  own = wants_not_bad _;
  fault = tells_so g.P.Source _ _ _ (λ is. absurd (read_wanted _ c.in-Err-NoMemory.field-0-is is)) (λ is. absurd (wants_not_failed is))
      c.in-Err-NoMemory.ensures.fault;
}
