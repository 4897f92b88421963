use Rattle.table_load.specs.Tables.{table_of}
use Rattle.auditor_top.proofs.Openings.{schema_unopened, table_unopened}
use Rattle.auditor_top.proofs.StepFaults.{not_both}
use Rattle.auditor_top.proofs.opening.open_table.Goals as goal

-- ---- the schema's file gave nothing

pub returns-in-Err : goal.returns-in-Err
returns-in-Err g c =
    let e = c.in-Err.ensures in
    record {
      schema_is = λ told. tt;
      table_is = λ told. tt;
      fits = tt;
      shape = tt;
      refused = schema_unopened g.P.Source table_of c.in-Err.fault _ _ _ e.means e.own e.fault;
      steady = tt;
    }

-- ---- the table's gave nothing

pub returns-in-Err-table_from : goal.returns-in-Err-table_from
returns-in-Err-table_from g c =
    let e = c.in-Err-table_from.ensures in
    record {
      schema_is = λ told. tt;
      table_is = λ told. tt;
      fits = tt;
      shape = tt;
      refused = table_unopened g.P.Source table_of c.in-Err-table_from.fault _ _ _ _ _ c.in-Ok.ensures.means
          (c.in-Ok.ensures.fault.steady (not_both _ _)) e.means e.own e.fault;
      steady = tt;
    }

-- ---- both files were read

pub returns-in-Ok-table_from : goal.returns-in-Ok-table_from
returns-in-Ok-table_from g c =
    let e = c.in-Ok-table_from.ensures in
    record {
      schema_is = c.in-Ok.ensures.means;
      table_is = e.means;
      fits = e.fits;
      shape = e.shape;
      refused = tt;
      steady = (c.in-Ok.ensures.fault.steady (not_both _ _), e.fault.steady (not_both _ _));
    }
