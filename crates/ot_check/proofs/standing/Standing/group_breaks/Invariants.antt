use Rattle.std.proofs.Common.{List, ◌≡◌, false, take}
use Rattle.ot_model.specs.declared.fold.Fold.{Fold as Operation}
use Rattle.ot_model.specs.declared.stmt.Use.{Use}
use Rattle.ot_check.specs.Offences.{Enter, Declared, Openings}
use Rattle.ot_check.specs.Discipline.{Children, may_break}
use Rattle.ot_check.specs.walk.States.{Represents}
use Rattle.ot_check.proofs.standing.Standing.group_breaks.Given as goal

abbrev pub invariant-loop-cell : goal.invariant-loop-cell
invariant-loop-cell l =
    (own : Declared) (opened : Openings) (children : Children) (decls : List (List Use)) → Represents own opened children decls l.self → (op : Operation)
    → may_break own opened children (Enter op (take l.cell-index l.cells)) l.offence ≡ false
