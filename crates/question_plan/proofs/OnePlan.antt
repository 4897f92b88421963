-- A line comes to one plan, whatever is secret.
use Rattle.std.proofs.Common.{◌≡◌, ℕ, List, Option, Some, None, refl, sym, ◌∙◌, ap, subst, arith, inl, inr, option_and_then}
use Rattle.std.proofs.lemmas.Option.{none-some, same_Some}
use Rattle.audit_types.specs.declared.records.Asked.{Asked}
use Rattle.audit_types.specs.Headcount.{people_behind}
use Rattle.schema_json.specs.Columns.{Column}
use Rattle.table_load.specs.Cells.{PublicView, counts_of}
use Rattle.predicate_lang.specs.Trees.{Tree, tree_of}
use Rattle.predicate_lang.specs.Places.{Means, IsPlace}
use Rattle.predicate_lang.specs.Laws.{OneMeaning}
use Rattle.set_index.specs.Asked.{meaning}
use Rattle.line_wire.specs.Lines.{CountedLine, text, long}
use Rattle.line_wire.specs.Questions.{Written, counted, taken, text_of, question_of}
use Rattle.line_wire.specs.Requests.{Requests, Refuses, HasBadCondition, column_fault, IsRequest}
use Rattle.line_wire.specs.declared.question.Take.{Take}
use Rattle.line_wire.specs.declared.question.Take.TheVariants.{Sum, Avg, Max, Min}
use Rattle.line_wire.specs.declared.request.Request.{Request}
use Rattle.line_wire.specs.declared.request.Request.TheVariants as request
use Rattle.line_wire.specs.declared.request.LineFault.{LineFault}
use Rattle.line_wire.specs.declared.request.LineFault.TheVariants as fault
use Rattle.line_wire.specs.declared.reply.Reply.TheVariants as reply
use Rattle.question_plan.specs.declared.planning.Plan.{Plan}
use Rattle.question_plan.specs.declared.planning.Plan.TheVariants.{Ready, Ask}
use Rattle.question_plan.specs.Replies.{IsPlan, plan_of, question_over, refusal}

-- a refusal asks nothing
pub never_asks : {X : Type 0} (f : LineFault) (take : Take) (people : ℕ) (asked : Asked) → refusal f ≡ Some (Ask take people asked) → X
never_asks fault.Line take people asked is = absurd cc
never_asks fault.Column take people asked is = absurd cc
never_asks fault.Kind take people asked is = absurd cc
never_asks (fault.Condition at) take people asked is = absurd cc
never_asks fault.NoMemory take people asked is = absurd cc

-- ---- requests that one question means

module _ (columns : List Column) (counts : List ℕ) (public : PublicView) where
  over_same : (take : Take) (column other : ℕ) (t u : Tree) → column ≡ other → t ≡ u →
      question_over take column public.rows counts (meaning public t) ≡ question_over take other public.rows counts (meaning public u)
  over_same take column other t u one tree =
      ap (λ (c : ℕ). question_over take c public.rows counts (meaning public t)) one
      ∙ ap (λ (v : Tree). question_over take other public.rows counts (meaning public v)) tree

  requests_same : (w : Written) (t : Tree) (r q : Request) → IsRequest columns w t r → IsRequest columns w t q →
      plan_of counts public r ≡ plan_of counts public q
  requests_same (counted condition) t (request.Count p) (request.Count q) r_is q_is =
      ap (λ (u : Tree). Ready (reply.Count (people_behind counts (meaning public u)))) (r_is ∙ sym q_is)
  requests_same (counted condition) t (request.Count p) q r_is q_is = absurd q_is
  requests_same (taken Sum name condition) t (request.Sum c p) (request.Sum d q) r_is q_is =
      over_same Sum c d (tree_of p) (tree_of q) (same_Some c d (sym r_is.0 ∙ q_is.0)) (r_is.1 ∙ sym q_is.1)
  requests_same (taken Sum name condition) t (request.Sum c p) q r_is q_is = absurd q_is
  requests_same (taken Avg name condition) t (request.Avg c p) (request.Avg d q) r_is q_is =
      over_same Avg c d (tree_of p) (tree_of q) (same_Some c d (sym r_is.0 ∙ q_is.0)) (r_is.1 ∙ sym q_is.1)
  requests_same (taken Avg name condition) t (request.Avg c p) q r_is q_is = absurd q_is
  requests_same (taken Max name condition) t (request.Max c p) (request.Max d q) r_is q_is =
      over_same Max c d (tree_of p) (tree_of q) (same_Some c d (sym r_is.0 ∙ q_is.0)) (r_is.1 ∙ sym q_is.1)
  requests_same (taken Max name condition) t (request.Max c p) q r_is q_is = absurd q_is
  requests_same (taken Min name condition) t (request.Min c p) (request.Min d q) r_is q_is =
      over_same Min c d (tree_of p) (tree_of q) (same_Some c d (sym r_is.0 ∙ q_is.0)) (r_is.1 ∙ sym q_is.1)
  requests_same (taken Min name condition) t (request.Min c p) q r_is q_is = absurd q_is
  requests_same question t r q r_is q_is = absurd r_is

-- ---- refusals

no_fault : (o : Option LineFault) (f : LineFault) → o ≡ None → o ≡ Some f → ⊥
no_fault o f first second = let both : None ≡ Some f = sym first ∙ second in cc

module _ (columns : List Column) (o : Option Written) where
  -- the fault of the column that the question names
  abbrev has_fault : LineFault → Type 0
  has_fault f = option_and_then (column_fault columns) o ≡ Some f

  column_twice : (f g : LineFault) → has_fault f → has_fault g → f ≡ g
  column_twice f g first second = let both : Some f ≡ Some g = sym first ∙ second in cc

  -- no line has a column at fault and a good one, or no question
  good_column : (f : LineFault) (w : Written) → has_fault f → o ≡ Some w → column_fault columns w ≡ None → ⊥
  good_column f w bad writes good = no_fault (option_and_then (column_fault columns) o) f (ap (option_and_then (column_fault columns)) writes ∙ good) bad

  no_column : (f : LineFault) → o ≡ None → has_fault f → ⊥
  no_column f none bad = no_fault (option_and_then (column_fault columns) o) f (ap (option_and_then (column_fault columns)) none) bad

  condition_twice : (at other : ℕ) → HasBadCondition columns o at → HasBadCondition columns o other → at ≡ other
  condition_twice at other first second =
      let place = subst (λ (w : Written). IsPlace columns (text_of w) other)
      (same_Some second.question first.question (sym second.writes ∙ first.writes)) second.place in
      omega (arith, first.place.least other place.refuses, place.least at first.place.refuses)

  -- a question has one first fault
  same_fault : (f g : LineFault) (a b : Plan) → Refuses columns o f → Refuses columns o g → refusal f ≡ Some a → refusal g ≡ Some b → f ≡ g
  same_fault fault.NoMemory g a b first second a_is b_is = absurd cc
  same_fault f fault.NoMemory a b first second a_is b_is = absurd cc
  same_fault fault.Line fault.Line a b first second a_is b_is = refl
  same_fault fault.Line fault.Column a b first second a_is b_is = absurd (no_column fault.Column first second)
  same_fault fault.Line fault.Kind a b first second a_is b_is = absurd (no_column fault.Kind first second)
  same_fault fault.Line (fault.Condition n) a b first second a_is b_is = absurd (none-some second.question (sym first ∙ second.writes))
  same_fault fault.Column fault.Line a b first second a_is b_is = absurd (no_column fault.Column second first)
  same_fault fault.Column fault.Column a b first second a_is b_is = refl
  same_fault fault.Column fault.Kind a b first second a_is b_is = column_twice fault.Column fault.Kind first second
  same_fault fault.Column (fault.Condition n) a b first second a_is b_is = absurd (good_column fault.Column second.question first second.writes second.good)
  same_fault fault.Kind fault.Line a b first second a_is b_is = absurd (no_column fault.Kind second first)
  same_fault fault.Kind fault.Column a b first second a_is b_is = column_twice fault.Kind fault.Column first second
  same_fault fault.Kind fault.Kind a b first second a_is b_is = refl
  same_fault fault.Kind (fault.Condition n) a b first second a_is b_is = absurd (good_column fault.Kind second.question first second.writes second.good)
  same_fault (fault.Condition m) fault.Line a b first second a_is b_is = absurd (none-some first.question (sym second ∙ first.writes))
  same_fault (fault.Condition m) fault.Column a b first second a_is b_is = absurd (good_column fault.Column first.question second first.writes first.good)
  same_fault (fault.Condition m) fault.Kind a b first second a_is b_is = absurd (good_column fault.Kind first.question second first.writes first.good)
  same_fault (fault.Condition m) (fault.Condition n) a b first second a_is b_is = ap (λ (at : ℕ). fault.Condition at) (condition_twice m n first second)

  one_fault : (f g : LineFault) (a b : Plan) → Refuses columns o f → Refuses columns o g → refusal f ≡ Some a → refusal g ≡ Some b → a ≡ b
  one_fault f g a b first second a_is b_is = let both : Some a ≡ Some b = sym a_is ∙ ap refusal (same_fault f g a b first second a_is b_is) ∙ b_is in cc

  -- and none if it is asked
  asked_or_refused : OneMeaning → (f : LineFault) (a : Plan) (r : Request) → Refuses columns o f → refusal f ≡ Some a → Requests columns o r → ⊥
  asked_or_refused meanings fault.Line a r refuses is asks = none-some asks.question (sym refuses ∙ asks.writes)
  asked_or_refused meanings fault.Column a r refuses is asks = good_column fault.Column asks.question refuses asks.writes asks.good
  asked_or_refused meanings fault.Kind a r refuses is asks = good_column fault.Kind asks.question refuses asks.writes asks.good
  asked_or_refused meanings (fault.Condition at) a r refuses is asks =
      meanings.none columns (text_of refuses.question) asks.tree at
      (subst (λ (w : Written). Means columns (text_of w) asks.tree)
      (same_Some asks.question refuses.question (sym asks.writes ∙ refuses.writes)) asks.means) refuses.place.refuses
  asked_or_refused meanings fault.NoMemory a r refuses is asks = cc

-- ---- lines

module _ (meanings : OneMeaning) (columns : List Column) (public : PublicView) where
  one_request : (o : Option Written) (r q : Request) → Requests columns o r → Requests columns o q →
      plan_of (counts_of columns public) public r ≡ plan_of (counts_of columns public) public q
  one_request o r q first second =
      let one = same_Some second.question first.question (sym second.writes ∙ first.writes) in
      let means = subst (λ (w : Written). Means columns (text_of w) second.tree) one second.means in
      let tree = meanings.tree columns (text_of first.question) second.tree first.tree means first.means in
      let is = subst (λ (w : Written). IsRequest columns w first.tree q) one (subst (λ (t : Tree). IsRequest columns second.question t q) tree second.is) in
      requests_same columns (counts_of columns public) public first.question first.tree r q first.is is

  pub one_plan : (line : CountedLine) (p q : Plan) → IsPlan columns public line p → IsPlan columns public line q → p ≡ q
  one_plan long p q first second = first ∙ sym second
  one_plan (text line) p q (inl first) (inl second) =
      one_fault columns (question_of line) first.fault second.fault p q first.refuses second.refuses first.told second.told
  one_plan (text line) p q (inl first) (inr second) =
      absurd (asked_or_refused columns (question_of line) meanings first.fault p second.request first.refuses first.told second.requests)
  one_plan (text line) p q (inr first) (inl second) =
      absurd (asked_or_refused columns (question_of line) meanings second.fault q first.request second.refuses second.told first.requests)
  one_plan (text line) p q (inr first) (inr second) =
      first.plan_is ∙ one_request (question_of line) first.request second.request first.requests second.requests ∙ sym second.plan_is
