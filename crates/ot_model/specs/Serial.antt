-- The serial meaning of a body: each task is executed where it is created.
use Rattle.std.specs.Prelude.{ℕ, ◌+◌, ◌==◌, if◌then◌else◌, List}
use Rattle.ot_model.specs.Tree.{S, Set, Fold, If, Task, Wait, Group, Body, End, Next, val}
use Rattle.ot_model.specs.Cells.{cell_of, with_cell}
use Rattle.ot_model.specs.Joining.{join_by}
use Rattle.ot_model.specs.declared.expr.Cell.{Cell}
use Rattle.ot_model.specs.declared.plain.Counts.{Counts}

-- the cells, and what was executed so far: task statements, and units
pub record State : Type 0 where
  pub cells : List (List ℕ)
  pub tasks : ℕ
  pub units : ℕ

abbrev pub bump : ℕ → ℕ → State → State
bump tasks units s = record s { tasks = s.tasks + tasks; units = s.units + units }

abbrev pub change : State → Cell → (ℕ → ℕ) → State
change s c f = record s { cells = with_cell s.cells c f }

-- the first where the number isn't 0
abbrev pub either : {A : Type 0} → ℕ → A → A → A
either n one two = if n == 0 then two else one

-- Each executed statement is one unit, each executed task statement one task. Waits and groups
-- order tasks alone, so here they change no cell (OpenMP API 5.2, sections 12.5, 15.4, 15.5, 15.9.5).
abbrev mutual
  pub serial_one : S → State → State
  serial_one (Set c e) s = bump 0 1 (change s c (λ _. val (cell_of s.cells) e))
  serial_one (Fold o c e) s = bump 0 1 (change s c (λ n. join_by o n (val (cell_of s.cells) e)))
  serial_one (If e a b) s = either (val (cell_of s.cells) e) (serial a (bump 0 1 s)) (serial b (bump 0 1 s))
  serial_one (Task d b) s = serial b (bump 1 1 s)
  serial_one (Wait w) s = bump 0 1 s
  serial_one (Group o cs b) s = serial b (bump 0 1 s)

  pub serial : Body → State → State
  serial End s = s
  serial (Next x rest) s = serial rest (serial_one x s)

-- the cells after a body that begins with these cells, and its counts
abbrev pub serial_run : Body → List (List ℕ) → State
serial_run b cells = serial b (record { cells = cells; tasks = 0; units = 0 })

-- What the evaluator's cells and counts stand for.

abbrev pub state_of : List (List ℕ) → Counts → State
state_of cells counts = record { cells = cells; tasks = counts.tasks; units = counts.units }
