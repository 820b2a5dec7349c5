-- What is known of values whatever the cells hold: the number of one that names no cell, and which cells a value may read.
use Rattle.std.specs.Prelude.{ℕ, ◌%◌, ◌==◌, ◌++◌, List, [], ◌∷◌, Bool, true, false, ◌&&◌, if◌then◌else◌, Option, Some, None}
use Rattle.ot_model.specs.Tree.{E, Literal, CellAt, Apply, PickFrom, val, cell_at, cells_of}
use Rattle.ot_model.specs.declared.expr.Cell.{Cell}
use Rattle.ot_model.specs.declared.expr.Section.{Section}

-- whether a value names no cell
abbrev pub names_none : E → Bool
names_none (Literal n) = true
names_none (CellAt c) = false
names_none (Apply o a b) = names_none a && names_none b
names_none (PickFrom s e) = false

-- the number of a value that names no cell
abbrev pub number_in_value : E → Option ℕ
number_in_value e = if names_none e then Some (val (λ c. None) e) else None

-- the cells that a pick may choose: the one at its value where that is known, or else each of its section
abbrev pub choices : Section → Option ℕ → List Cell
choices s None = cells_of s
choices s (Some n) = if s.len == 0 then [] else cell_at s (n % s.len) ∷ []

-- the cells that a value may read, in the order in which they are named
abbrev pub may_read : E → List Cell
may_read (Literal n) = []
may_read (CellAt c) = c ∷ []
may_read (Apply o a b) = may_read a ++ may_read b
may_read (PickFrom s e) = choices s (number_in_value e) ++ may_read e
