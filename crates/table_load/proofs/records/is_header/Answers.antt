use Rattle.std.proofs.Common.{◌≡◌, ◌<◌, ◌+◌, true, false, get_or, sym, ap, ◌∙◌, arith, length, drop, []}
use Rattle.std.specs.Prelude.{◌&&◌}
use Rattle.std.specs.Str.{bytes_eq}
use Rattle.std.proofs.lemmas.Bool.{and_left, not-true, not-false}
use Rattle.std.proofs.Math.ListN.{drop_of_length-le}
use Rattle.csv.specs.Records.{fields_of}
use Rattle.table_load.specs.Reading.{is_in_file, file_columns, names_are}
use Rattle.table_load.proofs.FileRoles.{columns_without, no_name_left, names_from, names_end}
use Rattle.table_load.proofs.records.is_header.Goals.{then-k-len-via-then-k-len, then-k-len-via-else-k-len+then-ne, then-has+else-k-len+else-ne, else-has}
use Rattle.table_load.proofs.records.is_header.Goals as goal

pub returns-then-k-len : goal.returns-then-k-len
returns-then-k-len c =
    let cs = c.args.schema.now.columns in
    let fields = fields_of c.args.row.now in
    let k = c.loop-place.k in
    let place = c.loop-place.place in
    let within : place < length cs = omega (arith, c.count-place-end.ensures.count) in
    let in_file : is_in_file c.args.which c.role.result ≡ true = sym c.has.ensures ∙ c.if-has.true in
    elim c.then-k-len.branch [
      | then-k-len-via-then-k-len w ↦
          sym
          (c.loop-place.invariant.same ∙ no_name_left c.args.which cs place c.role.result fields k within c.role.ensures in_file
          (omega (arith, c.len.ensures, w.if-k-len.true)))
      | then-k-len-via-else-k-len+then-ne w ↦
          let in_fields : k < length fields = omega (arith, c.len.ensures, w.if-k-len.false) in
          let differs : bytes_eq (get_or fields k []) w.name.result.now ≡ false =
          rw (w.field.ensures, w.as_bytes.ensures.value) at
          (not-true (bytes_eq w.field.result.now w.as_bytes.result.now) (sym w.ne.ensures ∙ w.if-ne.true)) in
          sym
          (c.loop-place.invariant.same ∙ names_from c.args.which cs place c.role.result w.name.result.now fields k within in_fields c.role.ensures in_file
          w.name.ensures ∙ and_left _ _ differs)
    ]

pub loop-place-preserved : goal.loop-place-preserved
loop-place-preserved c =
    let cs = c.args.schema.now.columns in
    let fields = fields_of c.args.row.now in
    let k = c.loop-place.k in
    let place = c.loop-place.place in
    let within : place < length cs = omega (arith, c.count-place-end.ensures.count) in
    elim c.if-has.branch [
      | then-has+else-k-len+else-ne w ↦
          let in_file : is_in_file c.args.which c.role.result ≡ true = sym c.has.ensures ∙ w.if-has.true in
          let in_fields : k < length fields = omega (arith, w.len.ensures, w.if-k-len.false) in
          let named : bytes_eq (get_or fields k []) w.name.result.now ≡ true =
          rw (w.field.ensures, w.as_bytes.ensures.value) at
          (not-false (bytes_eq w.field.result.now w.as_bytes.result.now) (sym w.ne.ensures ∙ w.if-ne.false)) in
          record {
            same = rw w.k-is (
                c.loop-place.invariant.same
                ∙ names_from c.args.which cs place c.role.result w.name.result.now fields k within in_fields c.role.ensures in_file w.name.ensures
                ∙ ap (λ b. b && names_are (drop (k + 1) fields) (file_columns c.args.which (drop (place + 1) cs))) named
                );
            at_most = omega (arith, w.k-is, in_fields);
          }
      | else-has w ↦
          let not_in_file : is_in_file c.args.which c.role.result ≡ false = sym c.has.ensures ∙ w.if-has.false in
          record {
            same =
                rw w.k-is (c.loop-place.invariant.same ∙ ap (names_are (drop k fields))
                (columns_without c.args.which cs place c.role.result within c.role.ensures not_in_file));
            at_most = omega (arith, w.k-is, c.loop-place.invariant.at_most);
          }
    ]

pub returns : goal.returns
returns c =
    let cs = c.args.schema.now.columns in
    let fields = fields_of c.args.row.now in
    let done = drop_of_length-le cs {i = c.loop-place.place} (omega (arith, c.count-place-end.ensures.count)) in
    rw c.len-2.ensures (sym (
    c.loop-place.invariant.same
    ∙ ap (λ cols. names_are (drop c.loop-place.k fields) (file_columns c.args.which cols)) done
    ∙ names_end fields c.loop-place.k c.loop-place.invariant.at_most
    ))
