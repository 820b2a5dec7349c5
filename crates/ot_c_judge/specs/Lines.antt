-- Parts of what is said of a C text.
use Rattle.std.specs.Prelude.{ℕ, ◌==◌, List, [], ◌∷◌, ◌++◌, slice_get, codes, if◌then◌else◌, Option, Some, None}
use Rattle.std.specs.Fmt.{decimal}
use Rattle.ot_model.specs.declared.expr.Cell.{Cell}
use Rattle.ot_program.specs.Meanings.{Bindings}

-- `i = 1`
abbrev pub turn_text : List ℕ × ℕ → List ℕ
turn_text turn = turn.0 ++ (codes " = " ++ decimal turn.1)

-- the outermost first, with commas between them
abbrev pub turns_listed : Bindings → List ℕ
turns_listed [] = []
turns_listed (inner ∷ []) = turn_text inner
turns_listed (inner ∷ outer) = turns_listed outer ++ (codes ", " ++ turn_text inner)

-- ` (i = 1, j = 2)`, and nothing outside of loops
abbrev pub turns_text : Bindings → List ℕ
turns_text [] = []
turns_text (inner ∷ outer) = codes " (" ++ (turns_listed (inner ∷ outer) ++ codes ")")

abbrev pub cell_by : Option (List ℕ × ℕ) → ℕ → List ℕ
cell_by None index = codes "?"
cell_by (Some array) index = if array.1 == 1 then array.0 else array.0 ++ (codes "[" ++ (decimal index ++ codes "]"))

-- `m[5]`; the cell of an array that has only one is called as the array is
abbrev pub c_cell_text : List (List ℕ × ℕ) → Cell → List ℕ
c_cell_text arrays c = cell_by (slice_get arrays c.array) c.index
