-- A test of two cells that are one.
use Rattle.std.proofs.Common.{◌≡◌, true}
use Rattle.ot_model.specs.Cells.{same_cell}
use Rattle.ot_model.specs.declared.expr.Cell.{Cell}
use Rattle.ot_model.proofs.EqualLemmas.{cell-decides}

pub same_self : (c d : Cell) → c ≡ d → same_cell c d ≡ true
same_self c d = (cell-decides c d).1
