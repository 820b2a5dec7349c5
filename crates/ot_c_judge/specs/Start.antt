-- What a C program begins with.
use Rattle.std.specs.Prelude.{ℕ, List, map, length, string_bytes}
use Rattle.ot_model.specs.Programs.{Arrays}
use Rattle.ot_c_names.specs.Arrays.{initial_cells}
use Rattle.ot_c_names.specs.declared.array.CArray.{CArray}

-- names and lengths
abbrev pub array_names_of : List CArray → List (List ℕ × ℕ)
array_names_of arrays = map (λ a. (string_bytes a.name, length (initial_cells a))) arrays

-- what its program may name, by names and lengths; of tasks it may have as many as it may have statements
abbrev pub shape_of : List CArray → Arrays
shape_of arrays = record { arrays = array_names_of arrays; tasks = 20000 }

-- the numbers at the start
abbrev pub starting_cells : List CArray → List (List ℕ)
starting_cells arrays = map initial_cells arrays
