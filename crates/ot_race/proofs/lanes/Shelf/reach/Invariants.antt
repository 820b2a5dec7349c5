use Rattle.std.proofs.Common.{◌≡◌, ℕ, length}
use Rattle.ot_model.specs.declared.stmt.Mode.{Mode}
use Rattle.ot_race.specs.Siblings.{seen_at}
use Rattle.ot_race.proofs.lanes.Shelf.reach.Given as goal

abbrev pub invariant-loop : goal.invariant-loop
invariant-loop l = (length l.self.lanes.items ≡ l.counter) × ((i p : ℕ) (m : Mode) → seen_at l.self i p m ≡ seen_at l.fn.self i p m)
