use Rattle.std.proofs.Common.{take}
use Rattle.ot_c_clauses.specs.Cells.{HasTimes}
use Rattle.ot_c_clauses.proofs.own.times_of.Given as goal

-- the cells so far are counted
abbrev pub invariant-loop-own : goal.invariant-loop-own
invariant-loop-own l = HasTimes l.times (take l.own-index l.cells)
