use Rattle.std.proofs.Common.{◌≡◌, length}
use Rattle.ot_model.specs.declared.expr.Cell.{Cell}
use Rattle.ot_race_all.specs.Found.{touches_at}
use Rattle.ot_race_all.proofs.touched.Touched.reach.Given as goal

abbrev pub invariant-loop : goal.invariant-loop
invariant-loop l = (length l.self.rows.items ≡ l.counter) × ((c : Cell) → touches_at l.self.rows.items c ≡ touches_at l.fn.self.rows.items c)
