use Rattle.std.proofs.Common.{sym, ◌∙◌}
use Rattle.std.proofs.lemmas.Bool.{le-ltb}
use Rattle.std.proofs.lemmas.Bool.{false≢true}
use Rattle.schema_json.proofs.FirstFault.{schema_value, schema_no_value}
use Rattle.schema_json.specs.ValueLaws.{value_of-read, value_of-none}
use Rattle.schema_json.proofs.FaultsOfColumns.{reads_along}
use Rattle.schema_json.proofs.reading.read_schema.Goals as goal

pub returns-in-Ok : goal.returns-in-Ok
returns-in-Ok c =
    let value = value_of-read c.args.bytes.now _ c.in-Ok.ensures.ok.0 c.in-Ok.ensures.ok.1 in
    reads_along _ c.args.bytes.now _ (schema_value c.args.bytes.now _ (le-ltb _ _ c.if-bytes-gt-MOST_SCHEMA.false) value) c.schema_of_value.ensures

pub returns-else-is_memory : goal.returns-else-is_memory
returns-else-is_memory c =
    schema_no_value c.args.bytes.now (le-ltb _ _ c.if-bytes-gt-MOST_SCHEMA.false)
    (value_of-none c.args.bytes.now (c.in-Err.ensures.err (λ m. false≢true (sym c.if-is_memory.false ∙ c.is_memory.ensures.1 m))))
