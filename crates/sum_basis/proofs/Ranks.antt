-- How many rows a form has.
use Rattle.std.proofs.Common.{ℕ, ◌+◌, ◌≤◌, ℤ, List, [], ◌∷◌, length, arith}
use Rattle.std.specs.List.{AllByRecursion}
use Rattle.audit_types.specs.Form.{IsPrimitive, IsEchelon, StandsBefore, pivot}
use Rattle.audit_types.specs.FormRows.{pivot_below}

-- from a row on there are at most as many rows as columns from its pivot on
rows_after : (n : ℕ) (row : List ℤ) (form : List (List ℤ)) → IsPrimitive n row → AllByRecursion (StandsBefore row) form → AllByRecursion (IsPrimitive n) form →
    IsEchelon form → pivot row + 1 + length form ≤ n
rows_after n row [] p h q e = let here = pivot_below n row p in omega arith
rows_after n row (next ∷ form) p h q e = let order = h.0.0 in let rest = rows_after n next form q.0 e.0 q.1 e.1 in omega arith

-- a form has at most as many rows as columns
pub rank_at_most : (n : ℕ) (form : List (List ℤ)) → AllByRecursion (IsPrimitive n) form → IsEchelon form → length form ≤ n
rank_at_most n [] p e = omega arith
rank_at_most n (row ∷ form) p e = let all = rows_after n row form p.0 e.0 p.1 e.1 in omega arith
