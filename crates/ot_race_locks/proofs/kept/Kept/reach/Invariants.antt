use Rattle.std.proofs.Common.{◌≡◌, length}
use Rattle.ot_model.specs.declared.expr.Cell.{Cell}
use Rattle.ot_race_locks.specs.Kinds.{groups_at}
use Rattle.ot_race_locks.proofs.kept.Kept.reach.Given as goal

abbrev pub invariant-loop : goal.invariant-loop
invariant-loop l = (length l.self.rows.items ≡ l.counter) × ((c : Cell) → groups_at l.self.rows.items c ≡ groups_at l.fn.self.rows.items c)
