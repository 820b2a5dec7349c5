use Rattle.std.proofs.Common.{◌≡◌, ◌++◌, take, map}
use Rattle.ot_model.specs.declared.stmt.Mode.TheVariants.{Writes}
use Rattle.ot_check.specs.Offences.{use_as}
use Rattle.ot_race.proofs.uses.note_writes.Given as goal

abbrev pub invariant-loop-cell : goal.invariant-loop-cell
invariant-loop-cell l = l.uses.items ≡ l.initial.uses.items ++ map (use_as Writes) (take l.cell-index l.cells)
