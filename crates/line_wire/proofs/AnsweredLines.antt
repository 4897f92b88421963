-- What a question is answered, its line is answered.
use Rattle.std.proofs.Common.{◌≡◌, ℕ, List, Option, Some, None, Result, Ok, Err, true, refl, sym, ap, ◌∙◌, subst}
use Rattle.std.specs.Prelude.{IfOk, IfErr, option_and_then}
use Rattle.std.proofs.lemmas.Option.{none-some, same_Some}
use Rattle.serde_json.specs.Data.{Data}
use Rattle.schema_json.specs.Columns.{Column}
use Rattle.schema_json.specs.Reading.{value_of}
use Rattle.schema_json.specs.SecretShape.{HasSecret}
use Rattle.predicate_lang.specs.Trees.{Tree, tree_of, fits}
use Rattle.predicate_lang.specs.declared.trees.Pred.{Pred}
use Rattle.predicate_lang.specs.Places.{Means}
use Rattle.line_wire.specs.Questions.{Written, counted, taken, text_of, question_in, question_of}
use Rattle.line_wire.specs.Requests.{CanBeAsked, IsWithin, Requests, Refuses, Asks, Reads, IsRequest, column_fault, kind_for, secret_of}
use Rattle.line_wire.specs.Answers.{Answers, FindsColumn, HasNoValue, IsTaken, ReadsCondition}
use Rattle.line_wire.specs.declared.question.Take.{Take}
use Rattle.line_wire.specs.declared.question.Take.TheVariants as take
use Rattle.line_wire.specs.declared.request.Request.{Request}
use Rattle.line_wire.specs.declared.request.Request.TheVariants as request
use Rattle.line_wire.specs.declared.request.LineFault.{LineFault}
use Rattle.line_wire.specs.declared.request.LineFault.TheVariants as fault

-- a line writes what its value writes
pub written_by : (line : List ℕ) (d : Data) (o : Option Written) → value_of line ≡ Some d → question_in d ≡ o → question_of line ≡ o
written_by line d o is writes = ap (option_and_then question_in) is ∙ writes

-- what is taken of the column that a question names is its request
taken_is : (columns : List Column) (k : Take) (name text : List ℕ) (c : ℕ) (t : Tree) (r : Request) → IsTaken k c t r → secret_of columns name ≡ Some c →
    IsRequest columns (taken k name text) t r
taken_is columns take.Sum name text c t (request.Sum d p) is found = (found ∙ ap Some (sym is.0), is.1)
taken_is columns take.Avg name text c t (request.Avg d p) is found = (found ∙ ap Some (sym is.0), is.1)
taken_is columns take.Max name text c t (request.Max d p) is found = (found ∙ ap Some (sym is.0), is.1)
taken_is columns take.Min name text c t (request.Min d p) is found = (found ∙ ap Some (sym is.0), is.1)
taken_is columns k name text c t r is found = absurd is

-- what is read of a count's condition answers it
pub counted_is : (columns : List Column) (text : List ℕ) (p : Pred) → ReadsCondition columns text (Ok p) → Answers columns (counted text) (Ok (request.Count p))
counted_is columns text p read = record { tree = tree_of p; good = refl; means = read; is = refl }

-- and a fault of it answers the count so
pub counted_fault : (columns : List Column) (text : List ℕ) (f : LineFault) → ReadsCondition columns text (Err f) → Answers columns (counted text) (Err f)
counted_fault columns text fault.Line read = read
counted_fault columns text fault.Column read = absurd read
counted_fault columns text fault.Kind read = absurd read
counted_fault columns text (fault.Condition at) read = (refl, read)
counted_fault columns text fault.NoMemory read = tt

-- a column that was found and a condition that was read answer what is taken of them
pub taken_answers : (columns : List Column) (k : Take) (name text : List ℕ) (c : ℕ) (p : Pred) (r : Request) → FindsColumn columns k name (Ok c)
    → ReadsCondition columns text (Ok p) → IsTaken k c (tree_of p) r → Answers columns (taken k name text) (Ok r)
taken_answers columns k name text c p r found read is =
    record { tree = tree_of p; good = found.0; means = read; is = taken_is columns k name text c (tree_of p) r is found.1 }

-- if the column was found, a fault of the condition answers so
pub taken_fault : (columns : List Column) (k : Take) (name text : List ℕ) (c : ℕ) (f : LineFault) → FindsColumn columns k name (Ok c)
    → ReadsCondition columns text (Err f) → Answers columns (taken k name text) (Err f)
taken_fault columns k name text c fault.Line found read = read
taken_fault columns k name text c fault.Column found read = absurd read
taken_fault columns k name text c fault.Kind found read = absurd read
taken_fault columns k name text c (fault.Condition at) found read = (found.0, read)
taken_fault columns k name text c fault.NoMemory found read = tt

-- what is taken of a column that answers it can be asked
pub taken_can : (columns : List Column) (k : Take) (c : ℕ) (p : Pred) (r : Request) → IsTaken k c (tree_of p) r → HasSecret columns c (kind_for k)
    → fits columns (tree_of p) ≡ true → CanBeAsked columns r
taken_can columns take.Sum c p (request.Sum d q) is has fit =
    (subst (λ n. HasSecret columns n (kind_for take.Sum)) (sym is.0) has, ap (fits columns) is.1 ∙ fit)
taken_can columns take.Avg c p (request.Avg d q) is has fit =
    (subst (λ n. HasSecret columns n (kind_for take.Avg)) (sym is.0) has, ap (fits columns) is.1 ∙ fit)
taken_can columns take.Max c p (request.Max d q) is has fit =
    (subst (λ n. HasSecret columns n (kind_for take.Max)) (sym is.0) has, ap (fits columns) is.1 ∙ fit)
taken_can columns take.Min c p (request.Min d q) is has fit =
    (subst (λ n. HasSecret columns n (kind_for take.Min)) (sym is.0) has, ap (fits columns) is.1 ∙ fit)
taken_can columns k c p r is has fit = absurd is

-- a column that isn't found names no byte
pub unfound_within : (columns : List Column) (k : Take) (name : List ℕ) (f : LineFault) (n : ℕ) → FindsColumn columns k name (Err f) → IsWithin n f
unfound_within columns k name fault.Line n is = tt
unfound_within columns k name fault.Column n is = tt
unfound_within columns k name fault.Kind n is = tt
unfound_within columns k name (fault.Condition at) n is = absurd is
unfound_within columns k name fault.NoMemory n is = tt

-- what is wrong with the column that a question names is its first fault
pub unfound : (columns : List Column) (k : Take) (name text : List ℕ) (f : LineFault) → FindsColumn columns k name (Err f) →
    Answers columns (taken k name text) (Err f)
unfound columns k name text fault.Line is = is
unfound columns k name text fault.Column is = is
unfound columns k name text fault.Kind is = is
unfound columns k name text (fault.Condition at) is = absurd is
unfound columns k name text fault.NoMemory is = tt

-- what is answered is what the line means
pub found_of : (columns : List Column) (o : Option Written) (w : Written) (r : Result Request LineFault) → o ≡ Some w → Answers columns w r →
    IfOk r (Requests columns o)
found_of columns o w (Ok q) writes a = record { question = w; tree = a.tree; writes = writes; good = a.good; means = a.means.means; is = a.is }
found_of columns o w (Err f) writes a = tt

-- what the line means is answered
pub only_of : (columns : List Column) (o : Option Written) (w : Written) (r : Result Request LineFault) → o ≡ Some w → Answers columns w r →
    (v : Written) (t : Tree) → Asks columns o v t → Reads columns v t r
only_of columns o w (Ok q) writes a v t asks =
    let same : w ≡ v = same_Some w v (sym writes ∙ asks.writes) in
    let tree : a.tree ≡ t = a.means.single t (subst (λ (u : Written). Means columns (text_of u) t) (sym same) asks.means) in
    subst (λ (u : Written). IsRequest columns u t q) same (subst (λ (x : Tree). IsRequest columns w x q) tree a.is)
only_of columns o w (Err fault.Line) writes a v t asks = a
only_of columns o w (Err fault.Column) writes a v t asks =
    none-some fault.Column (sym (ap (column_fault columns) (same_Some w v (sym writes ∙ asks.writes)) ∙ asks.good) ∙ a)
only_of columns o w (Err fault.Kind) writes a v t asks =
    none-some fault.Kind (sym (ap (column_fault columns) (same_Some w v (sym writes ∙ asks.writes)) ∙ asks.good) ∙ a)
only_of columns o w (Err (fault.Condition at)) writes a v t asks =
    a.1.nothing t (subst (λ (u : Written). Means columns (text_of u) t) (sym (same_Some w v (sym writes ∙ asks.writes))) asks.means)
only_of columns o w (Err fault.NoMemory) writes a v t asks = tt

-- a refusal is the first that holds
pub fault_of : (columns : List Column) (o : Option Written) (w : Written) (r : Result Request LineFault) → o ≡ Some w → Answers columns w r →
    IfErr r (Refuses columns o)
fault_of columns o w (Ok q) writes a = tt
fault_of columns o w (Err fault.Line) writes a = absurd a
fault_of columns o w (Err fault.Column) writes a = ap (option_and_then (column_fault columns)) writes ∙ a
fault_of columns o w (Err fault.Kind) writes a = ap (option_and_then (column_fault columns)) writes ∙ a
fault_of columns o w (Err (fault.Condition at)) writes a = record { question = w; writes = writes; good = a.0; place = a.1.place }
fault_of columns o w (Err fault.NoMemory) writes a = tt

-- a line that writes nothing asks nothing
pub nothing_asked : (columns : List Column) (o : Option Written) → o ≡ None → (v : Written) (t : Tree) → Asks columns o v t → ⊥
nothing_asked columns o none v t asks = go (sym none ∙ asks.writes)
  where
    go : None ≡ Some v → ⊥
    go e = cc

-- a line without a value asks nothing
pub unread_only : (columns : List Column) (line : List ℕ) (f : LineFault) → HasNoValue line f → (v : Written) (t : Tree) → Asks columns (question_of line) v t →
    Reads columns v t (Err f)
unread_only columns line fault.Line none v t asks = nothing_asked columns (question_of line) (ap (option_and_then question_in) none) v t asks
unread_only columns line fault.Column none v t asks = none
unread_only columns line fault.Kind none v t asks = none
unread_only columns line (fault.Condition at) none v t asks = none
unread_only columns line fault.NoMemory none v t asks = tt

-- and is refused for that
pub unread_fault : (columns : List Column) (line : List ℕ) (f : LineFault) → HasNoValue line f → Refuses columns (question_of line) f
unread_fault columns line fault.Line none = ap (option_and_then question_in) none
unread_fault columns line fault.Column none = absurd none
unread_fault columns line fault.Kind none = absurd none
unread_fault columns line (fault.Condition at) none = absurd none
unread_fault columns line fault.NoMemory none = tt

pub unread_within : (line : List ℕ) (f : LineFault) (n : ℕ) → HasNoValue line f → IsWithin n f
unread_within line fault.Line n none = tt
unread_within line fault.Column n none = tt
unread_within line fault.Kind n none = tt
unread_within line (fault.Condition at) n none = absurd none
unread_within line fault.NoMemory n none = tt
