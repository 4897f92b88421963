-- How many people are missing behind the rows so far.
use Rattle.std.proofs.Common.{◌≡◌, ℕ, ◌+◌, ◌-◌, List, [], ◌∷◌, ◌++◌, ap, sym, arith}
use Rattle.audit_types.specs.Headcount.{Headcount, AreFew, count_at, people_behind}
use Rattle.max_bounds.specs.PeopleAmong.{people_together}

-- after one row more
pub missing_more : (enough : ℕ) (counts seen : List ℕ) (q missing after : ℕ) → missing ≡ enough - people_behind counts seen →
    after ≡ missing - count_at counts q → after ≡ enough - people_behind counts (seen ++ q ∷ [])
missing_more enough counts seen q missing after before less = let both = people_together counts seen (q ∷ []) in omega (arith, both, before, less)

-- once nobody is missing, few people stand behind no rows with these
pub nobody_missing : (people : Headcount) (seen later rows : List ℕ) → (people.fewest + people.own) - people_behind people.counts seen ≡ 0 →
    seen ++ later ≡ rows →
    AreFew people [] rows → ⊥
nobody_missing people seen later rows nobody together few =
    let all = ap (people_behind people.counts) (sym together) in
    let both = people_together people.counts seen later in
    absurd (omega (arith, all, both, nobody, few))
