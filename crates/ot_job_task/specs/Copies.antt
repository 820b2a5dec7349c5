-- What assignments make of the copies that a piece was lent.
use Rattle.std.specs.Prelude.{ℕ, if◌then◌else◌, Option, option_map}
use Rattle.ot_model.specs.Tree.{Set, Fold, Body, Next, val}
use Rattle.ot_model.specs.Joining.{join_by}
use Rattle.ot_model.specs.declared.expr.Cell.{Cell}
use Rattle.ot_model.specs.Cells.{same_cell}

abbrev pub Look : Type 0
Look = Cell → Option ℕ

-- the copies with f of what stood in this one there
abbrev pub with_copy : Look → Cell → (ℕ → ℕ) → Look
with_copy look c f d = if same_cell c d then option_map f (look d) else look d

-- the copies after these assignments
abbrev pub copies_assigned : Body → Look → Look
copies_assigned (Next (Set c e) rest) look = copies_assigned rest (with_copy look c (λ _. val look e))
copies_assigned (Next (Fold o c e) rest) look = copies_assigned rest (with_copy look c (λ n. join_by o n (val look e)))
copies_assigned b look = look
