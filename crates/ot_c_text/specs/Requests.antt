-- The requests that make arrays and run a program (docs/PROTOCOL.md, "Requests").
use Rattle.std.specs.Prelude.{ℕ, zero, suc, ◌+◌, ◌-◌, ◌/◌, ◌==◌, nat_lt, Bool, List, [], ◌∷◌, ◌++◌, length, map, take, drop, codes, if◌then◌else◌}
use Rattle.std.specs.List.{list_all}
use Rattle.serde_json.specs.Data.{Data, string}
use Rattle.ot_c_scope.specs.Forms.{form, list_form, nat}
use Rattle.ot_c_arrays.specs.Arrays.{Arr}
use Rattle.ot_c_program.specs.Files.{Program}

-- `["new",NAME,LEN]`
abbrev pub new_of : List ℕ → ℕ → Data
new_of name count = form (codes "new") (string name ∷ nat count ∷ [])

abbrev pub are_zeros : List ℕ → Bool
are_zeros cells = list_all (λ c. c == 0) cells

abbrev pub numbers_data : List ℕ → List Data
numbers_data cells = map nat cells

-- `["put",NAME,START,[V,..]]`
abbrev pub putting : List ℕ → ℕ → List ℕ → Data
putting name start cells = form (codes "put") (string name ∷ nat start ∷ list_form (numbers_data cells) ∷ [])

-- nothing where all cells are 0, as they are in a new array
abbrev pub put_of : List ℕ → ℕ → List ℕ → List Data
put_of name start cells = if are_zeros cells then [] else putting name start cells ∷ []

-- so many cells are put at once, or as many as are left
abbrev pub piece_len : List ℕ → ℕ
piece_len rest = if nat_lt (length rest) 2048 then length rest else 2048

-- of so many pieces of an array, of whose cells these are left
abbrev pub puts_from : List ℕ → ℕ → ℕ → List ℕ → List Data
puts_from name all zero rest = []
puts_from name all (suc left) rest =
    put_of name (all - length rest) (take (piece_len rest) rest) ++ puts_from name all left (drop (piece_len rest) rest)

-- that make an array: it is new, and then its pieces are put
abbrev pub requests_for : Arr → List Data
requests_for a = new_of a.name (length a.cells) ∷ puts_from a.name (length a.cells) (length a.cells / 2048 + 1) a.cells

abbrev pub making : List Arr → List Data
making [] = []
making (a ∷ more) = requests_for a ++ making more

-- that make a program's arrays, and run it
abbrev pub requests_of : Program → List Data
requests_of p = making p.arrays ++ form (codes "run") (p.program ∷ []) ∷ []
