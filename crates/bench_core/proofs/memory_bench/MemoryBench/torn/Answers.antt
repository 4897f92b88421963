use Rattle.std.proofs.Common.{◌≡◌, ◌<◌, ◌+◌, ◌-◌, ℕ, List, [], ◌∷◌, ◌++◌, length, get_or, inl, inr, ap, subst, ◌∙◌, arith, length-append}
use Rattle.std.proofs.Math.ListN.{get_or-append}
use Rattle.std.proofs.lemmas.Bool.{cases_lt}
use Rattle.std.proofs.lemmas.List.{get_or-append_right}
use Rattle.bench_core.specs.Machine.{State}
use Rattle.bench_core.specs.BenchContents.{state_of, torn_byte}
use Rattle.bench_core.proofs.memory_bench.MemoryBench.torn.Goals as goal

-- one more byte is as it is due
pushed : (s : State) (bytes : List ℕ) (byte n k : ℕ) → length bytes ≡ n → ((k : ℕ) → k < n → get_or bytes k 0 ≡ torn_byte s k)
    → byte ≡ torn_byte s n → k < n + 1 → get_or (bytes ++ byte ∷ []) k 0 ≡ torn_byte s k
pushed s bytes byte n k long each is lt = elim (cases_lt k n) [
  | inl before ↦ get_or-append bytes (byte ∷ []) 0 k (omega (arith, before, long)) ∙ each k before
  | inr behind ↦
      let here : n ≡ k = omega (arith, lt, behind) in
      let first : n - n ≡ 0 = omega arith in
      let last : get_or (bytes ++ byte ∷ []) n 0 ≡ byte =
      get_or-append_right bytes (byte ∷ []) n n 0 long (omega arith) ∙ ap (λ m. get_or (byte ∷ []) m 0) first in
      subst (λ m. get_or (bytes ++ byte ∷ []) m 0 ≡ torn_byte s m) here (last ∙ is)
]

pub loop-place-preserved : goal.loop-place-preserved
loop-place-preserved c =
    let bytes = c.loop-place.bytes.items in
    let so_far = c.loop-place.invariant in
    let joined = c.in-Ok-push.ensures.items in
    record {
      long = ap length joined ∙ length-append bytes (c.torn_byte.result ∷ []) ∙ ap (λ n. n + 1) so_far.long;
      each = λ k lt.
          rw joined (pushed (state_of c.args.self.now) bytes c.torn_byte.result c.loop-place.place k so_far.long so_far.each c.torn_byte.ensures lt);
    }

pub returns : goal.returns
returns c =
    let file = ap length c.file-file.ensures.file in
    let end : c.loop-place.place ≡ length c.file-file.result.now = omega (arith, c.loop-place-test.false, c.loop-place.auto.place-end) in
    record {
      long = c.loop-place.invariant.long ∙ end ∙ file;
      each = λ place lt. c.loop-place.invariant.each place (omega (arith, lt, end, file));
    }
