use Rattle.std.proofs.Common.{subst, ◌<◌, ◌^◌}
use Rattle.std.specs.Prelude.{IfSome}
use Rattle.ot_model.specs.Cells.{cell_of}
use Rattle.ot_owner.proofs.RowLemmas.{small_cells}
use Rattle.ot_owner.proofs.numbers.numbers.Goals as goal

pub returns : goal.returns
returns c = λ cell. subst (λ cells. IfSome (cell_of cells cell) (λ stored. stored < 2 ^ 64)) c.arrays.ensures (small_cells c.arrays.result.now cell c.numbers_in.ensures)
