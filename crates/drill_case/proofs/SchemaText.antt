-- The bytes of a drill's schema mean its columns, and say nothing of what is guarded.
use Rattle.std.proofs.Common.{◌≡◌, ◌≢◌, ℕ, List, Result, Ok, refl, sym, ◌∙◌, subst, codes}
use Rattle.std.specs.Str.{is_utf8, chars}
use lib.Utf8.{encode}
use Rattle.json.specs.Json.{value}
use Rattle.json.specs.Lex.{punctuate, lex}
use Rattle.json.specs.Text.{content}
use Rattle.schema_json.specs.Columns.{SchemaView, no_guards}
use Rattle.schema_json.specs.Reading.{schema_of, value_of, column_of, columns_of, guards_of, groups_in, items_at, IsFaultOf}
use Rattle.schema_json.specs.declared.faults.SchemaFault.{SchemaFault}
use Rattle.schema_json.specs.declared.faults.SchemaFault.TheVariants.{TooLong, NotJson, Shape, BadName, Repeated, TooMany, NoMemory}
use Rattle.drill_case.specs.Tables.{drill_columns}

abbrev schema_text : List ℕ
schema_text =
    codes "{\"columns\":[{\"name\":\"band\",\"is\":\"number\"},{\"name\":\"age\",\"is\":\"number\"},{\"name\":\"pay\",\"is\":\"sum\"},{\"name\":\"best\",\"is\":\"max\"}]}"

-- the schema of every drill
abbrev pub drill_meant : SchemaView
drill_meant = record { columns = drill_columns; guards = no_guards }

pub means : schema_of schema_text ≡ Ok drill_meant
unfolding value_of column_of columns_of guards_of groups_in items_at is_utf8 chars encode value punctuate lex content
means = refl

-- a good schema has no fault but running out of memory
good : {X : Type 0} (fault : SchemaFault) (schema : SchemaView) → IsFaultOf fault (Ok schema) → fault ≢ NoMemory → X
good TooLong schema is other = cc
good NotJson schema is other = cc
good Shape schema is other = cc
good BadName schema is other = cc
good Repeated schema is other = cc
good TooMany schema is other = cc
good NoMemory schema is other = absurd (other refl)

pub no_fault : {X : Type 0} (fault : SchemaFault) → IsFaultOf fault (schema_of schema_text) → fault ≢ NoMemory → X
no_fault fault is other = good fault drill_meant (subst (IsFaultOf fault) means is) other

same : (a b : SchemaView) → (let r : Result SchemaView SchemaFault = Ok a in r) ≡ Ok b → a ≡ b
same a b is = cc

pub same_schema : (schema : SchemaView) → schema_of schema_text ≡ Ok schema → schema ≡ drill_meant
same_schema schema is = same schema drill_meant (sym is ∙ means)
