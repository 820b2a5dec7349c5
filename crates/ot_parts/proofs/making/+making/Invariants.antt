use Rattle.std.proofs.Common.{◌≡◌, drop}
use Rattle.ot_model.specs.Tree.{append}
use Rattle.ot_model.specs.View.{stmts_of}
use Rattle.ot_parts.specs.Assigns.{assigns_of}
use Rattle.ot_parts.specs.Modes.{AssignsFit}
use Rattle.ot_parts.specs.Parts.{parts_of}
use Rattle.ot_parts.proofs.making.+making.Given as goal

-- what is made so far, and what is left
abbrev pub invariant-parts_of-loop-stmt : goal.invariant-parts_of-loop-stmt
invariant-parts_of-loop-stmt l =
    (append (append (parts_of l.parts.items) (assigns_of l.run.items)) (stmts_of (drop l.stmt-index l.body.items)) ≡ stmts_of l.body.items)
    × AssignsFit (assigns_of l.run.items)
