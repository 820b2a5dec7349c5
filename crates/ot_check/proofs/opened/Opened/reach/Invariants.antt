use Rattle.std.proofs.Common.{◌≡◌, length}
use Rattle.ot_model.specs.declared.expr.Cell.{Cell}
use Rattle.ot_model.specs.declared.fold.Fold.{Fold as Operation}
use Rattle.ot_check.specs.walk.States.{is_open}
use Rattle.ot_check.proofs.opened.Opened.reach.Given as goal

abbrev pub invariant-loop : goal.invariant-loop
invariant-loop l = (length l.self.sets.items ≡ l.counter) × ((o : Operation) (c : Cell) → is_open l.self o c ≡ is_open l.fn.self o c)
