-- What is asked of two uses of one cell.
use Rattle.std.specs.Prelude.{Bool}
use Rattle.ot_model.specs.declared.stmt.Mode.{Mode}
use Rattle.ot_model.specs.declared.meeting.Question.{Question}
use Rattle.ot_model.specs.declared.meeting.Question.TheVariants.{Conflicts, IsWritten}
use Rattle.ot_model.specs.Cells.{conflicts, one_writes}

abbrev pub asked : Question → Mode → Mode → Bool
asked Conflicts = conflicts
asked IsWritten = one_writes
