use Rattle.std.proofs.Common.{◌≡◌, drop}
use Rattle.ot_model.specs.Tree.{Body, append}
use Rattle.ot_parts.specs.Assigns.{assigns_of}
use Rattle.ot_parts.specs.Parts.{leading, after_parts, parts_of}
use Rattle.ot_parts.proofs.gather.gather.Given as goal

-- what is gathered, with what is left
abbrev pub invariant-loop-i : goal.invariant-loop-i
invariant-loop-i l =
    (b : Body) → (append (assigns_of l.run.items) (leading (append (parts_of (drop l.i l.parts.items)) b)) ≡ append (assigns_of l.fn.run.items) (leading (append (parts_of (drop l.at l.parts.items)) b)))
    × (after_parts (append (parts_of (drop l.i l.parts.items)) b) ≡ after_parts (append (parts_of (drop l.at l.parts.items)) b))
