use Rattle.std.proofs.Common.{take}
use Rattle.ot_c_clauses.specs.Cells.{HasArrays}
use Rattle.ot_c_clauses.proofs.own.arrays_of.Given as goal

-- those of the cells so far are there
abbrev pub invariant-loop-own : goal.invariant-loop-own
invariant-loop-own l = HasArrays l.arrays (take l.own-index l.cells)
