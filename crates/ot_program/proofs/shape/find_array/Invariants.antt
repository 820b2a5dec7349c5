use Rattle.std.proofs.Common.{◌≡◌, drop}
use Rattle.ot_model.specs.Programs.{arrays_of}
use Rattle.ot_program.specs.walk.Parts.{known_from}
use Rattle.ot_program.proofs.shape.find_array.Given as goal

-- what the rest of the arrays gives is what all of them give
abbrev pub invariant-loop-position : goal.invariant-loop-position
invariant-loop-position l =
    known_from l.position (arrays_of (drop l.position l.arrays)) l.name ≡ known_from 0 (arrays_of l.arrays) l.name
