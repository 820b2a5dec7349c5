-- What a statement does with a cell, in a word.
use Rattle.std.specs.Prelude.{ℕ, List, codes, if◌then◌else◌, Option, Some, None}
use Rattle.ot_model.specs.Cells.{same_cell}
use Rattle.ot_model.specs.Tree.{S, Set, Fold, If, Task, Wait, Group, Body}
use Rattle.ot_model.specs.declared.expr.Cell.{Cell}
use Rattle.ot_c_judge.specs.Lacks.{Stood, stood_in_body}

abbrev pub written_if : Cell → Cell → List ℕ
written_if target cell = if same_cell target cell then codes "written" else codes "read"

-- a statement writes the cell that it sets or folds into, and reads others; the end of a group writes what the group reduces
abbrev pub does : S → Cell → List ℕ
does (Set c e) cell = written_if c cell
does (Fold o c e) cell = written_if c cell
does (If e a b) cell = codes "read"
does (Group o cs b) cell = codes "written"
does (Task d b) cell = codes "touched"
does (Wait w) cell = codes "touched"

abbrev pub done_by : Option Stood → Cell → List ℕ
done_by None cell = codes "touched"
done_by (Some at) cell = does at.statement cell

-- what the statement at a place of a program does
abbrev pub done_at : Body → ℕ → Cell → List ℕ
done_at body place cell = done_by (stood_in_body place None 1 body) cell
