use Rattle.std.proofs.Common.{◌≡◌, ℕ, length}
use Rattle.ot_model.specs.declared.stmt.Use.{Use}
use Rattle.ot_race.specs.Siblings.{siblings_seen}
use Rattle.ot_race.proofs.siblings.Siblings.reach.Given as goal

abbrev pub invariant-loop : goal.invariant-loop
invariant-loop l = (length l.self.shelves.items ≡ l.counter) × ((p : ℕ) (u : Use) → siblings_seen l.self p u ≡ siblings_seen l.fn.self p u)
