use Rattle.std.proofs.Common.{map, ap, ◌∙◌, arith}
use Rattle.std.specs.Prelude.{slice_get}
use Rattle.ot_sets.specs.Sets.{words_of}
use Rattle.ot_check.specs.walk.States.{row_has}
use Rattle.ot_check.proofs.RowLemmas.{opened-pushed}
use Rattle.ot_check.proofs.cell_set.CellSet.reach.Goals as goal

pub loop-preserved : goal.loop-preserved
loop-preserved c = (
  omega (arith, c.loop.invariant.0, c.in_ok-push.ensures.len, c.push.new.self.ok.0, c.loop.self.rows.ok.0),
  λ cell.
      ap (λ rows. row_has (slice_get (map words_of rows) cell.array) cell.index) c.in_ok-push.ensures.items
      ∙ opened-pushed c.loop.self.rows.items c.new.result cell.array cell.index c.new.ensures.none ∙ c.loop.invariant.1 cell,
)
