use Rattle.std.proofs.Common.{map, ap, ◌∙◌, arith}
use Rattle.std.specs.Prelude.{slice_get}
use Rattle.ot_model.specs.Cells.{number_of}
use Rattle.ot_check.specs.walk.States.{rows_of, set_has}
use Rattle.ot_check.proofs.RowLemmas.{set-pushed}
use Rattle.ot_check.proofs.opened.Opened.reach.Goals as goal

pub loop-preserved : goal.loop-preserved
loop-preserved c = (
  omega (arith, c.loop.invariant.0, c.in_ok-push.ensures.len, c.push.new.self.ok.0, c.loop.self.sets.ok.0),
  λ o cell.
      ap (λ sets. set_has (slice_get (map rows_of sets) (number_of o)) cell) c.in_ok-push.ensures.items
      ∙ set-pushed c.loop.self.sets.items c.new.result (number_of o) cell c.new.ensures ∙ c.loop.invariant.1 o cell,
)
