use Rattle.std.proofs.Common.{◌≡◌, [], take}
use Rattle.std.specs.List.{fold}
use Rattle.ot_program.specs.walk.Namings.{name_clause}
use Rattle.ot_program.proofs.declaration.declare.Given as goal

-- the cells that the clauses so far name
abbrev pub invariant-loop-clause : goal.invariant-loop-clause
invariant-loop-clause l = l.named.items ≡ fold name_clause [] (take l.clause-index l.clause-items)
