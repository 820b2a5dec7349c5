use Rattle.std.proofs.Common.{◌≡◌, drop}
use Rattle.std.specs.List.{list_any}
use Rattle.ot_model.specs.Cells.{same_cell}
use Rattle.ot_why_blame.proofs.touch.has.Given as goal

-- none so far is the cell
abbrev pub invariant-loop-one : goal.invariant-loop-one
invariant-loop-one l = list_any (λ c. same_cell c l.cell) l.cells ≡ list_any (λ c. same_cell c l.cell) (drop l.one-index l.cells)
