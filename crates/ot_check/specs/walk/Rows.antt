-- Rows of users, and where the row of a cell is.
use Rattle.std.specs.Prelude.{◌≡◌, ◌==◌, ℕ, zero, suc, ◌+◌, ◌*◌, ◌/◌, Bool, true, ◌&&◌, ◌||◌, if◌then◌else◌, List, [], ◌∷◌, ◌++◌, Option, Some, None, slice_get, flat_map, map, length, replicate, option_and_then}
use Rattle.std.specs.Int.{bit_at}
use Rattle.ot_model.specs.declared.expr.Cell.{Cell}
use Rattle.ot_model.specs.declared.stmt.Mode.{Mode}
use Rattle.ot_model.specs.declared.stmt.Mode.TheVariants.{Reads, Writes, Folds}
use Rattle.ot_model.specs.Cells.{conflicts, one_writes, same_fold}
use Rattle.ot_model.specs.declared.fold.Fold.{Fold as Operation}
use Rattle.ot_check.specs.declared.block.Block.{Block}
use Rattle.ot_check.specs.declared.users.User.{User}
use Rattle.ot_check.specs.declared.users.Row.{Row}

-- what stands at a cell, where the cell is there
abbrev pub found_at : {T : Type 0} → List (List T) → Cell → Option T
found_at rows c = option_and_then (λ row. slice_get row c.index) (slice_get rows c.array)

-- how many cells each array has
abbrev pub widths : {T : Type 0} → List (List T) → List ℕ
widths rows = map length rows

-- one value everywhere, for arrays of these lengths
abbrev pub rows_filled : {T : Type 0} → T → List ℕ → List (List T)
rows_filled x lens = map (λ n. replicate n x) lens

-- the task that a bit of a word stands for, 64 in a word
abbrev pub user_at : ℕ → Mode → ℕ → User
user_at place mode j = record { task = place * 64 + j; mode = mode }

-- the tasks of the bits below n
unfoldable pub users_below : ℕ → Mode → ℕ → ℕ → List User
users_below place mode word zero = []
users_below place mode word (suc j) =
    if bit_at word j == 1 then user_at place mode j ∷ users_below place mode word j else users_below place mode word j

abbrev pub users_of_block : Block → List User
users_of_block block =
    users_below block.place Reads block.reads 64 ++ users_below block.place Writes block.writes 64 ++ users_below block.place (Folds block.operation) block.folds 64

-- whether the task of a bit declares the cell in conflict with this mode
abbrev pub is_against : Block → Mode → ℕ → Bool
is_against block mode j =
    ((bit_at block.reads j == 1) && conflicts Reads mode) || (((bit_at block.writes j == 1) && conflicts Writes mode) || ((bit_at block.folds j == 1) && conflicts (Folds block.operation) mode))

-- whether it is this task, and a wait awaits it that declares the cell in this mode
abbrev pub awaited_as : Mode → ℕ → User → Bool
awaited_as mode k v = (v.task == k) && one_writes v.mode mode

-- whether such a wait awaits the task of a bit
abbrev pub is_awaited_by : Block → Mode → ℕ → Bool
is_awaited_by block mode j =
    ((bit_at block.reads j == 1) && one_writes Reads mode) || (((bit_at block.writes j == 1) && one_writes Writes mode) || ((bit_at block.folds j == 1) && one_writes (Folds block.operation) mode))

-- whether the fold of a user, if it folds, is by the operation by which the block folds
abbrev pub is_by : Operation → Mode → Bool
is_by o (Folds other) = same_fold o other
is_by o mode = true

-- whether the user can stand in this block, if there is one
abbrev pub IsRoom : Option Block → User → Type 0
IsRoom o user = (block : Block) × (o ≡ Some block) × (block.place ≡ user.task / 64) × (is_by block.operation user.mode ≡ true)

abbrev pub users_of_row : Row → List User
users_of_row row = flat_map users_of_block row.earlier.items ++ users_of_block row.latest

-- the users that a row tells, if there is one
abbrev pub users_of : Option Row → List User
users_of None = []
users_of (Some row) = users_of_row row

-- those of the row with this number, from 1 on
abbrev pub users_in : List Row → ℕ → List User
users_in rows zero = []
users_in rows (suc place) = users_of (slice_get rows place)

-- each cell with a number has a row of its own
abbrev pub HaveRows : List Row → List (List ℕ) → Type 0
HaveRows rows places =
    (c : Cell) (place : ℕ) → found_at places c ≡ Some (suc place) → (row : Row) × (slice_get rows place ≡ Some row) × (row.cell ≡ c)
