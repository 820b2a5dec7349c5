-- A run keeps the lengths of the arrays.
use Rattle.std.proofs.Common.{◌≡◌, refl, ◌∙◌}
use Rattle.ot_model.specs.Tree.{Set, Fold, If, Task, Wait, Group, Body, End, Next, val}
use Rattle.ot_model.specs.Cells.{cell_of, lengths}
use Rattle.ot_model.specs.Serial.{State, bump, serial}
use Rattle.ot_model.proofs.CellsLemmas.{lengths-with_cell}
use Rattle.ot_model.proofs.SerialLemmas.{either-both}

pub lengths-serial : (b : Body) (s : State) → lengths (serial b s).cells ≡ lengths s.cells
lengths-serial End s = refl
lengths-serial (Next (Set c e) rest) s = lengths-serial rest _ ∙ lengths-with_cell s.cells c _
lengths-serial (Next (Fold o c e) rest) s = lengths-serial rest _ ∙ lengths-with_cell s.cells c _
lengths-serial (Next (If e a b) rest) s =
    lengths-serial rest _
    ∙ either-both (val (cell_of s.cells) e) (serial a (bump 0 1 s)) (serial b (bump 0 1 s)) (λ t. lengths t.cells ≡ lengths s.cells)
    (lengths-serial a (bump 0 1 s)) (lengths-serial b (bump 0 1 s))
lengths-serial (Next (Task d b) rest) s = lengths-serial rest _ ∙ lengths-serial b (bump 1 1 s)
lengths-serial (Next (Wait w) rest) s = lengths-serial rest (bump 0 1 s)
lengths-serial (Next (Group o cs b) rest) s = lengths-serial rest _ ∙ lengths-serial b (bump 0 1 s)
