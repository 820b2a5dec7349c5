use Rattle.std.proofs.Common.{◌≡◌, length}
use Rattle.ot_model.specs.declared.expr.Cell.{Cell}
use Rattle.ot_race.specs.Histories.{phases_at}
use Rattle.ot_race.proofs.histories.Histories.reach.Given as goal

abbrev pub invariant-loop : goal.invariant-loop
invariant-loop l = (length l.self.rows.items ≡ l.counter) × ((c : Cell) → phases_at l.self.rows.items c ≡ phases_at l.fn.self.rows.items c)
