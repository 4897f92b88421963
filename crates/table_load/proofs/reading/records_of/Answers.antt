use Rattle.std.proofs.Common.{◌∙◌, sym, refl, inr}
use Rattle.csv.specs.Reading.{Reached, strip_bom}
use Rattle.table_load.proofs.reading.records_of.Goals as goal

pub returns : goal.returns
unfolding Reached
returns c =
    let made = c.from_reader.ensures in
    let rdr = c.into_byte_records.ensures.rdr in
    record {
      plain = rw rdr (rw (c.flexible.ensures, c.has_headers.ensures) at made.trim ∙ c.new.ensures.trim);
      ready = rw rdr (inr (inr (rw (c.flexible.ensures, c.has_headers.ensures) at made.has_headers, made.headers)));
      flexible = rw rdr (rw c.flexible.ensures at made.flexible);
      turns = c.into_byte_records.ensures.left;
      as_usual = rw rdr (rw (c.flexible.ensures, c.has_headers.ensures) at made.config ∙ c.new.ensures.config);
      left = strip_bom c.args.bytes.now;
      source = rw rdr made.source;
      reached = rw rdr (sym made.state, refl);
    }
