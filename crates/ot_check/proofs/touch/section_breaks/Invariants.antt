use Rattle.std.proofs.Common.{List, ◌≡◌, false, map}
use Rattle.std.specs.List.{list_any, range_with_len}
use Rattle.ot_model.specs.Tree.{cell_at}
use Rattle.ot_model.specs.declared.stmt.Mode.TheVariants.{Reads}
use Rattle.ot_model.specs.declared.stmt.Use.{Use}
use Rattle.ot_check.specs.Offences.{Touch, use_as, Declared, Openings}
use Rattle.ot_check.specs.Discipline.{Children, may_break}
use Rattle.ot_check.specs.walk.States.{Represents}
use Rattle.ot_check.proofs.touch.section_breaks.Given as goal

abbrev pub invariant-loop-place : goal.invariant-loop-place
invariant-loop-place l =
    (own : Declared) (opened : Openings) (children : Children) (decls : List (List Use)) → Represents own opened children decls l.standing
    → list_any (λ c. may_break own opened children (Touch (use_as Reads c)) l.offence) (map (cell_at l.section) (range_with_len 0 l.place)) ≡ false
