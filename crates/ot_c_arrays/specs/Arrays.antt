-- What a file declares: `T a[N]` is an array, `T x` an array of one cell. Numbers below zero stand modulo 2^64.
use Rattle.std.specs.Prelude.{ℕ, ◌-◌, ◌%◌, ◌^◌, ◌==◌, nat_lt, Bool, false, ◌&&◌, ◌||◌, List, [], ◌∷◌, ◌++◌, length as count_in, map, slice_get, slice_set, Option, Some, None, Result, Ok, Err, String, string_bytes, if◌then◌else◌}
use Rattle.std.specs.List.{list_any}
use Rattle.std.specs.Str.{bytes_eq}
use Rattle.std.specs.declared.alloc.Global.{Global}
use Rattle.ot_c_names.specs.Arrays.{initial_cells, with_zeros}
use Rattle.ot_c_names.specs.Names.{is_taken, own_name}
use Rattle.ot_c_names.specs.declared.array.CArray.{CArray}
use Rattle.ot_c_words.specs.declared.word.IntegerType.{IntegerType}
use Rattle.ot_c_words.specs.declared.word.Name.{Name}
use Rattle.ot_c_words.specs.declared.word.Name.TheVariants as n
use Rattle.ot_program.specs.Meanings.{is_name}
use Rattle.ot_c_expressions.specs.declared.sign.Unary.TheVariants as u
use Rattle.ot_c_expressions.specs.Tree.{E, Signed, left_of}
use Rattle.ot_c_files.specs.Program.{Start, Unset, One, Many, Cells, Declared as Declaration}
use Rattle.ot_c_scope.specs.declared.reason.Reason.TheVariants as why
use Rattle.ot_c_scope.specs.declared.scope.Meaning.{Meaning}
use Rattle.ot_c_scope.specs.declared.scope.Meaning.TheVariants as m
use Rattle.ot_c_scope.specs.Constants.{Typed, constant}
use Rattle.ot_c_scope.specs.Kinds.{holds, holds_below, is_signed}
use Rattle.ot_c_scope.specs.Results.{Refusal, ◌>>=◌}
use Rattle.ot_c_scope.specs.Scopes.{Around}
use Rattle.ot_c_arrays.specs.declared.arrays.Declared.{Declared}
use Rattle.ot_c_arrays.specs.Each.{each_or_refused}

-- an array of the program, with its cells as it begins
pub record Arr : Type 0 where
  pub name : List ℕ
  pub cells : List ℕ

abbrev pub c_array : CArray → Arr
c_array a = record { name = string_bytes a.name; cells = initial_cells a }

-- what names mean, and the arrays in their order
pub record D : Type 0 where
  pub meanings : List Meaning
  pub arrays : List Arr

abbrev pub declared_view : Declared → D
declared_view d = record { meanings = d.meanings.items; arrays = map c_array d.arrays.items }

abbrev pub named_over : ℕ → D → ℕ → Meaning → Option Meaning → Result D Refusal
named_over at d x new None = Err (at, why.NoName)
named_over at d x new (Some m.Nothing) = Ok (record d { meanings = slice_set d.meanings x new })
named_over at d x new (Some (m.Constant n k)) = Err (at, why.Twice)
named_over at d x new (Some (m.Cells k length)) = Err (at, why.Twice)
named_over at d x new (Some (m.Pointer y p)) = Err (at, why.Twice)
named_over at d x new (Some (m.Function i)) = Err (at, why.Twice)

-- a name that means nothing yet comes to mean this
abbrev pub with_meaning : ℕ → D → ℕ → Meaning → Result D Refusal
with_meaning at d x new = named_over at d x new (slice_get d.meanings x)

-- ---- numbers

abbrev pub number_by : ℕ → Option Typed → Result ℕ Refusal
number_by at None = Err (at, why.NoConstant)
number_by at (Some x) = Ok x.0

abbrev pub number : Around → E → Result ℕ Refusal
number a e = number_by (left_of e) (constant a e)

abbrev pub element_count : ℕ → ℕ → Result (Option ℕ) Refusal
element_count at n = if n == 0 || nat_lt 65536 n then Err (at, why.NoLength) else Ok (Some n)

-- how many cells an array has, if it is one
abbrev pub length : Around → Option E → Result (Option ℕ) Refusal
length a None = Ok None
length a (Some e) = number a e >>= λ n. element_count (left_of e) n

-- a number that a type holds
abbrev pub held_number : ℕ → IntegerType → Option Typed → Result ℕ Refusal
held_number at k None = Err (at, why.NoConstant)
held_number at k (Some x) = if holds k x.0 then Ok x.0 else Err (at, why.NoConstant)

-- -n, where both its type and another hold it
abbrev pub below : ℕ → IntegerType → Option Typed → Result ℕ Refusal
below at k None = Err (at, why.NoConstant)
below at k (Some x) = if is_signed x.1 && holds_below k x.0 then Ok ((2 ^ 64 - x.0) % 2 ^ 64) else Err (at, why.NoConstant)

-- what a cell of type k begins with
unfoldable pub first : Around → IntegerType → E → Result ℕ Refusal
first a k (Signed l u.Minus e) = below l k (constant a e)
first a k e = held_number (left_of e) k (constant a e)

abbrev pub number_step : Around → IntegerType → List ℕ → E → Result (List ℕ) Refusal
number_step a k cells e = first a k e >>= λ n. Ok (cells ++ n ∷ [])

abbrev pub numbers : Around → IntegerType → List E → Result (List ℕ) Refusal
numbers a k es = each_or_refused (number_step a k) [] es

-- the first cells of an array, and zeros behind them (C17, section 6.7.9)
abbrev pub filled_cells : ℕ → List ℕ → ℕ → Result (List ℕ) Refusal
filled_cells at cells n = if nat_lt n (count_in cells) then Err (at, why.NoLength) else Ok (with_zeros cells (n - count_in cells))

-- the cells of a variable or an array of a type as it begins, whose name stands there
abbrev pub beginning_cells : Around → ℕ → IntegerType → Option ℕ → Start → Result (List ℕ) Refusal
beginning_cells a at k None Unset = filled_cells at [] 1
beginning_cells a at k (Some n) Unset = filled_cells at [] n
beginning_cells a at k None (One e) = number_step a k [] e
beginning_cells a at k (Some n) (Many es) = numbers a k es >>= λ cells. filled_cells at cells n
beginning_cells a at k None (Many es) = Err (at, why.NoConstant)
beginning_cells a at k (Some n) (One e) = Err (left_of e, why.NoConstant)

-- ---- declarations

-- outside of loops and groups
abbrev pub outside : List (String Global) → List Meaning → Bool → Around
outside names meanings inside = record { names = names; meanings = meanings; turns = []; opened = []; portions = []; inside = inside }

abbrev pub cells_around : Around → IntegerType → Cells → Result (Option ℕ × List ℕ) Refusal
cells_around a k v = length a v.length >>= λ n. beginning_cells a v.left k n v.initial >>= λ cells. Ok (n, cells)

abbrev pub array_cells : List (String Global) → List Meaning → IntegerType → Cells → Result (Option ℕ × List ℕ) Refusal
array_cells names meanings k v = cells_around (outside names meanings false) k v

abbrev pub name_number : ℕ → Name → Result ℕ Refusal
name_number at (n.Other i) = Ok i
name_number at (n.Known k) = Err (at, why.Reserved)

abbrev pub is_declared : List Arr → List ℕ → Bool
is_declared arrays name = list_any (λ a. bytes_eq a.name name) arrays

-- a name that the language has, and that no array has by another name in C, as `at` and `A_at` would
abbrev pub new_name : ℕ → List Arr → List ℕ → Result (List ℕ) Refusal
new_name at arrays name = if is_taken name && is_declared arrays name then Err (at, why.Twice) else if is_name name then Ok name else Err (at, why.NoName)

abbrev pub name_by : ℕ → List Arr → Option (String Global) → Result (List ℕ) Refusal
name_by at arrays None = Err (at, why.NoName)
name_by at arrays (Some s) = new_name at arrays (own_name (string_bytes s))

-- the name of the array that is called so in C
abbrev pub array_name_in_c : List (String Global) → ℕ → List Arr → ℕ → Result (List ℕ) Refusal
array_name_in_c names at arrays i = name_by at arrays (slice_get names i)

abbrev pub with_array : D → List ℕ → List ℕ → D
with_array d name cells = record d { arrays = d.arrays ++ (record { name = name; cells = cells }) ∷ [] }

abbrev pub variable_step : List (String Global) → IntegerType → D → Cells → Result D Refusal
variable_step names k d v =
    name_number v.left v.name >>= λ i.
    array_name_in_c names v.left d.arrays i >>= λ name.
    array_cells names d.meanings k v >>= λ cells.
    with_meaning v.left d i (m.Cells k cells.0) >>= λ e.
    Ok (with_array e name cells.1)

-- variables of a type, one after another
abbrev pub declare_all : List (String Global) → D → Declaration → Result D Refusal
declare_all names d given = each_or_refused (variable_step names given.kind) d given.variables
