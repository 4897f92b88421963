use Rattle.table_load.specs.Tables.{public_of}
use Rattle.auditor_top.proofs.Openings.{schema_unopened, table_unopened}
use Rattle.auditor_top.proofs.StepFaults.{not_both}
use Rattle.auditor_top.proofs.opening.open_public.Goals as goal

-- ---- the schema's file gave nothing

pub returns-in-Err : goal.returns-in-Err
returns-in-Err g c =
    let e = c.in-Err.ensures in
    record {
      schema_is = λ told. tt;
      public_is = λ told. tt;
      fits = tt;
      refused = schema_unopened g.P.Source public_of c.in-Err.fault _ _ _ e.means e.own e.fault;
      steady = tt;
    }

-- ---- the table's gave nothing

pub returns-in-Err-public_from : goal.returns-in-Err-public_from
returns-in-Err-public_from g c =
    let e = c.in-Err-public_from.ensures in
    record {
      schema_is = λ told. tt;
      public_is = λ told. tt;
      fits = tt;
      refused = table_unopened g.P.Source public_of c.in-Err-public_from.fault _ _ _ _ _ c.in-Ok.ensures.means
          (c.in-Ok.ensures.fault.steady (not_both _ _)) e.means e.own e.fault;
      steady = tt;
    }

-- ---- both files were read

pub returns-in-Ok-public_from : goal.returns-in-Ok-public_from
returns-in-Ok-public_from g c =
    let e = c.in-Ok-public_from.ensures in
    record {
      schema_is = c.in-Ok.ensures.means;
      public_is = e.means;
      fits = e.fits;
      refused = tt;
      steady = (c.in-Ok.ensures.fault.steady (not_both _ _), e.fault.steady (not_both _ _));
    }
