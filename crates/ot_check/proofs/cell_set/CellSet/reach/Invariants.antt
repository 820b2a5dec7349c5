use Rattle.std.proofs.Common.{◌≡◌, length}
use Rattle.ot_model.specs.declared.expr.Cell.{Cell}
use Rattle.ot_check.specs.walk.States.{holds}
use Rattle.ot_check.proofs.cell_set.CellSet.reach.Given as goal

abbrev pub invariant-loop : goal.invariant-loop
invariant-loop l = (length l.self.rows.items ≡ l.counter) × ((c : Cell) → holds l.self c ≡ holds l.fn.self c)
