-- A tenant's arrays: names with their cells, in order of creation. What each call leaves or gives, and
-- why it is refused.
use Rattle.std.specs.Prelude.{ℕ, ◌+◌, ◌<◌, ◌^◌, List, [], ◌∷◌, ◌++◌, All, length, map, take, drop, replicate, filter, sum, slice_range, bytes_eq, nat_lt, nat_le, not, is_some, if◌then◌else◌, Option, Some, None, Result, Ok, Err, ◌≡◌, String, Vec, string_bytes}
use Rattle.std.specs.List.{zip, IsDistinct}
use Rattle.std.specs.Map.{lookup, set_value}
use Rattle.ot_model.specs.Cells.{lengths}
use Rattle.ot_model.specs.Programs.{Arrays}
use Rattle.ot_store.specs.declared.limits.Limits.{Limits}
use Rattle.ot_store.specs.declared.fault.StoreRefusal.{StoreRefusal}
use Rattle.ot_store.specs.declared.fault.StoreRefusal.TheVariants.{UnknownArray, NameTaken, OutOfRange, TooManyCells, TooManyArrays}
use Rattle.std.specs.declared.alloc.Global.{Global}

abbrev pub Named : Type 0
Named = List ℕ × List ℕ

abbrev pub names_in : List Named → List (List ℕ)
names_in arrays = map (λ a. a.0) arrays

abbrev pub cells_in : List Named → List (List ℕ)
cells_in arrays = map (λ a. a.1) arrays

-- how many cells all arrays have
abbrev pub cell_count : List Named → ℕ
cell_count arrays = sum (lengths (cells_in arrays))

-- names differ, each array has a cell, and the cells of all can be counted in 32 bits
pub record AreSound (arrays : List Named) : Type 0 where
  pub distinct : IsDistinct bytes_eq (names_in arrays)
  pub filled : All (λ n. 0 < n) (lengths (cells_in arrays))
  pub few : cell_count arrays < 2 ^ 32

-- the cells of the array with this name
abbrev pub cells_called : List ℕ → List Named → Option (List ℕ)
cells_called name arrays = lookup (bytes_eq name) arrays

-- with one more array, whose cells are 0
abbrev pub array_created : List ℕ → ℕ → Limits → List Named → Result (List Named) StoreRefusal
array_created name len limits arrays =
    if is_some (cells_called name arrays) then Err NameTaken
    else (if nat_le limits.arrays (length arrays) then Err TooManyArrays
    else (if nat_lt limits.cells (cell_count arrays + len) then Err TooManyCells
    else Ok (arrays ++ (name, replicate len 0) ∷ [])))

-- the arrays with other names, in their order
abbrev pub others : List ℕ → List Named → List Named
others name arrays = filter (λ a. not (bytes_eq name a.0)) arrays

-- without the array with this name
abbrev pub array_freed : List ℕ → List Named → Result (List Named) StoreRefusal
array_freed name arrays = if is_some (cells_called name arrays) then Ok (others name arrays) else Err UnknownArray

-- what f gives of an array's cells, where the array is there and has `count` cells from `start` on
abbrev pub within : {A : Type 0} → Option (List ℕ) → ℕ → ℕ → (List ℕ → A) → Result A StoreRefusal
within None start count f = Err UnknownArray
within (Some cells) start count f = if nat_le (start + count) (length cells) then Ok (f cells) else Err OutOfRange

-- the cells with these numbers from `start` on
abbrev pub overwritten : List ℕ → ℕ → List ℕ → List ℕ
overwritten cells start numbers = take start cells ++ (numbers ++ drop (start + length numbers) cells)

-- with these numbers in the array from `start` on
abbrev pub numbers_put : List ℕ → ℕ → List ℕ → List Named → Result (List Named) StoreRefusal
numbers_put name start numbers arrays =
    within (cells_called name arrays) start (length numbers)
    (λ cells. set_value (bytes_eq name) arrays (overwritten cells start numbers))

-- the numbers of `len` cells from `start` on
abbrev pub got : List ℕ → ℕ → ℕ → List Named → Result (List ℕ) StoreRefusal
got name start len arrays = within (cells_called name arrays) start len (λ cells. slice_range cells start (start + len))

-- names and lengths
abbrev pub arrays_listed : List Named → List (List ℕ × ℕ)
arrays_listed arrays = map (λ a. (a.0, length a.1)) arrays

-- what programs may name
abbrev pub shape_in : Limits → List Named → Arrays
shape_in limits arrays = record { arrays = arrays_listed arrays; tasks = limits.tasks }

-- each name beside other cells
abbrev pub with_cells : List Named → List (List ℕ) → List Named
with_cells arrays cells = zip (names_in arrays) cells

-- The arrays that the code's map stands for, and what its type keeps.

abbrev pub named_of : List (String Global × Vec ℕ Global) → List Named
named_of entries = map (λ e. (string_bytes e.0, e.1.items)) entries

-- the cells are counted
pub record AreCounted (arrays : List Named) (count : ℕ) : Type 0 where
  pub sound : AreSound arrays
  pub counted : count ≡ cell_count arrays
