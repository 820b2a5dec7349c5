use Rattle.std.proofs.Common.{◌≡◌, drop}
use Rattle.ot_model.specs.Programs.{arrays_of}
use Rattle.ot_why_mixed.specs.Rows.{place_from}
use Rattle.ot_why_mixed.proofs.clause.place_of.Given as goal

-- what the rest of the arrays gives is what all of them give
abbrev pub invariant-loop-position : goal.invariant-loop-position
invariant-loop-position l =
    place_from l.position (arrays_of (drop l.position l.arrays)) l.name ≡ place_from 0 (arrays_of l.arrays) l.name
