-- Which cell the clauses of a task declare under `red` and otherwise, or under `red` by two operations.
use Rattle.std.specs.Borrow.{Bor}
use Rattle.std.specs.Prelude.{ℕ, [], List, map, flat_map, find, slice_get, Option, option_map, unwrap_or}
use Rattle.serde_json.specs.Data.{Data}
use Rattle.ot_model.specs.Programs.{Arrays}
use Rattle.ot_model.specs.declared.expr.Cell.{Cell}
use Rattle.ot_program.specs.Meanings.{named_cells, is_mixed, items, Bindings, Clause, clause}
use Rattle.ot_program.specs.Faults.{clause_faults}
use Rattle.ot_program.specs.declared.fault.Refusal.{Refusal}
use Rattle.ot_program.specs.declared.profile.Profile.{Profile}

-- the first of them, by array and then by index
abbrev pub first_mixed : List Clause → Option Cell
first_mixed clauses = find (is_mixed clauses) (named_cells clauses)

-- the name of the array at a position
abbrev pub position_name : Arrays → ℕ → List ℕ
position_name shape position = unwrap_or (option_map (λ a. a.0) (slice_get shape.arrays position)) []

-- a cell by the name of its array, and its index
abbrev pub cell_by_name : Arrays → Cell → List ℕ × ℕ
cell_by_name shape c = (position_name shape c.array, c.index)

-- what is told of clauses: the name and the index of that cell
abbrev pub mixed_of : Arrays → Profile → Bindings → Data → Option (List ℕ × ℕ)
mixed_of shape profile variables clauses = option_map (cell_by_name shape) (first_mixed (map (clause shape profile variables) (items clauses)))

-- the faults that clauses have by themselves
abbrev pub faults_of : Arrays → Profile → Bindings → Data → List Refusal
faults_of shape profile variables clauses = flat_map (clause_faults shape profile variables) (items clauses)

-- a name and an index as the code has them
abbrev pub named_by : Bor (List ℕ) × ℕ → List ℕ × ℕ
named_by cell = (cell.0.now, cell.1)
