use Rattle.std.proofs.Common.{◌||◌, length, take, drop, ◌-◌, sym, ap, ◌∙◌}
use Rattle.schema_json.specs.Columns.{repeats}
use Rattle.schema_json.proofs.RepeatedNames.{columns_of_entries, repeats_next}
use Rattle.schema_json.proofs.reading.repeats_a_name.Goals as goal

pub returns-then-has_name : goal.returns-then-has_name
returns-then-has_name c =
    let left = c.names.left.now in
    let later = take (length left - 1) (drop 1 left) in
    sym (c.names.invariant
    ∙ repeats_next left c.column-item.result c.as_str.result.now c.in-len1-up.len_at_least c.column-item.is c.as_str.ensures.value
    ∙ ap (λ b. b || repeats (columns_of_entries later)) (sym c.has_name.ensures ∙ c.if-has_name.true))

pub names-preserved : goal.names-preserved
names-preserved c =
    let left = c.names.left.now in
    let later = take (length left - 1) (drop 1 left) in
    c.names.invariant
    ∙ repeats_next left c.column-item.result c.as_str.result.now c.in-len1-up.len_at_least c.column-item.is c.as_str.ensures.value
    ∙ ap (λ b. b || repeats (columns_of_entries later)) (sym c.has_name.ensures ∙ c.if-has_name.false)
