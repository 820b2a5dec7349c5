use Rattle.std.proofs.Common.{◌≡◌, ◌++◌, Ok, drop}
use Rattle.ot_program.specs.walk.Reading.{◌>>=◌}
use Rattle.ot_program.specs.walk.Parts.{uses_of}
use Rattle.ot_program.proofs.declaration.uses_of.Given as goal

-- the uses so far, with those of the cells that are left
abbrev pub invariant-loop-one : goal.invariant-loop-one
invariant-loop-one l = (uses_of (drop l.one-index l.one-items) >>= λ us. Ok (l.uses.items ++ us)) ≡ uses_of l.named.items
