-- The cells of an array of a program in C, as it begins.
use Rattle.std.specs.Prelude.{ℕ, List, ◌++◌, replicate}
use Rattle.ot_c_names.specs.declared.array.CArray.{CArray}

-- cells, and so many zeros behind them
abbrev pub with_zeros : List ℕ → ℕ → List ℕ
with_zeros cells n = cells ++ replicate n 0

abbrev pub initial_cells : CArray → List ℕ
initial_cells a = with_zeros a.cells.items a.zeros
