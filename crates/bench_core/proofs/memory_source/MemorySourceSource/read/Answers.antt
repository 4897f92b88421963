use Rattle.std.proofs.Common.{rules, ◌≡◌, ◌-◌, ℕ, List, min, ap, ◌∙◌, arith, length, length-drop, take, drop}
use Rattle.std.proofs.lemmas.List.{take_rest}
use Rattle.bench_core.specs.Causes.{next_count}
use Rattle.bench_core.specs.SourceContents.{SourceContents}
use Rattle.bench_core.proofs.NextBytes.{next_bytes}
use Rattle.bench_core.proofs.memory_source.MemorySourceSource.read.Goals as goal

pub returns-then-self : goal.returns-then-self
returns-then-self c =
    let counted : c.saturating_add-self-inside-then-self.result ≡ next_count c.args.self.now.faults =
    c.saturating_add-self-inside-then-self.ensures ∙ ap (λ (s : SourceContents). next_count s.faults) c.self.view_is in
    record {
      bound = tt;
      bytes = λ told. ap (λ (s : SourceContents). s.left) c.self.view_is;
      cause = record { later = search rules; failed = counted; steady = tt };
      last_call = search rules;
      fails = search rules;
      count = tt;
      counted = counted;
      uncounted = tt;
      calls = c.saturating_add-self-inside.ensures ∙ ap (λ (s : SourceContents). next_count s.calls) c.self.view_is;
      same = (ap (λ (s : SourceContents). s.most) c.self.view_is, ap (λ (s : SourceContents). s.failing) c.self.view_is);
    }

pub invariant_of-self-2 : goal.invariant_of-self-2
invariant_of-self-2 c = (
  omega (arith, length-drop c.self.inside.from c.deref-2.result.now, ap length c.deref-2.ensures.value, c.copy_front-count.ensures.count),
  c.self.invariant.1,
)

pub returns : goal.returns
returns c =
    let bytes = c.self.inside.bytes.items in
    let from = c.self.inside.from in
    let lent = c.deref-2.result.now in
    let room = length c.args.buf.now in
    let left : drop from bytes ≡ c.args.self.now.left = ap (λ (s : SourceContents). s.left) c.self.view_is in
    let most : c.self.inside.most ≡ c.args.self.now.most = ap (λ (s : SourceContents). s.most) c.self.view_is in
    let rest : take (length lent - from) (drop from lent) ≡ c.args.self.now.left = take_rest lent from ∙ ap (drop from) c.deref-2.ensures.value ∙ left in
    let count = c.copy_front-count.result in
    let count_is : count ≡ min (min room c.args.self.now.most) (length c.args.self.now.left) =
    c.copy_front-count.ensures.count ∙ ap (λ (l : List ℕ). min (min room c.self.inside.most) (length l)) rest
    ∙ ap (λ n. min (min room n) (length c.args.self.now.left)) most in
    record {
      bound = search rules;
      bytes = λ told. next_bytes bytes c.args.self.now.left c.copy_front-count.new.buf from count room c.args.self.now.most left
          c.requires (omega (arith, most, c.self.invariant.1)) count_is (c.copy_front-count.ensures.copied ∙ ap (take count) rest);
      cause = search rules;
      last_call = search rules;
      fails = search rules;
      count = count_is;
      counted = search rules;
      uncounted = search rules;
      calls = search rules;
      same = search rules;
    }
