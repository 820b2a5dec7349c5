use Rattle.std.proofs.Common.{◌≡◌, ◌≤◌, ℕ, List, length, drop}
use Rattle.std.specs.Prelude.{bytes_eq}
use Rattle.std.specs.HashMap.{get_by}
use Rattle.ot_model.specs.Programs.{arrays_of}
use Rattle.ot_program.specs.walk.Parts.{known_from}
use Rattle.ot_program.proofs.shape.by_name.Given as goal

-- the map has the arrays from this position on
abbrev pub invariant-loop-position : goal.invariant-loop-position
invariant-loop-position l = (l.position ≤ length l.arrays)
    × ((name : List ℕ) → get_by (λ k. bytes_eq name k.now) l.known ≡ known_from l.position (arrays_of (drop l.position l.arrays)) name)

abbrev pub decreases-loop-position : goal.decreases-loop-position
decreases-loop-position l = l.position
