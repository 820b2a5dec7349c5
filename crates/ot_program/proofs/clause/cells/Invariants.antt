use Rattle.std.proofs.Common.{◌≡◌, ◌-◌, ◌^◌, ◌+◌, ◌<◌, min, map, drop}
use Rattle.ot_program.specs.Limits.{cells_in}
use Rattle.ot_program.proofs.clause.cells.Given as goal

-- the total with the cells of the clauses that are left
abbrev pub invariant-loop-clause : goal.invariant-loop-clause
invariant-loop-clause l =
    (min (l.total + cells_in (map (λ c. c.section) (drop l.clause-index l.clauses))) (2 ^ 32 - 1)
    ≡ min (cells_in (map (λ c. c.section) l.clauses)) (2 ^ 32 - 1)) × (l.total < 2 ^ 32)
