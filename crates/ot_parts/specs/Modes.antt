-- In which mode a piece holds each cell that it touches, touch by touch.
use Rattle.std.specs.Prelude.{◌+◌, ◌≤◌, ◌^◌, ◌&&◌, Bool, false, if◌then◌else◌, List, Option, Some, None, ◌≡◌, ℕ, true, length, [], ◌∷◌, ◌++◌, map}
use Rattle.std.specs.List.{fold, list_any}
use Rattle.ot_model.specs.Tree.{E, Literal, CellAt, Apply, PickFrom, Set, Fold, Body, Next, S, If, End, cells_named}
use Rattle.ot_model.specs.Cells.{same_cell, same_fold, is_before}
use Rattle.ot_model.specs.declared.expr.Cell.{Cell}
use Rattle.ot_model.specs.declared.fold.Fold.{Fold as Operation}
use Rattle.ot_model.specs.declared.stmt.Mode.{Mode}
use Rattle.ot_model.specs.declared.stmt.Mode.TheVariants.{Reads, Writes, Folds}
use Rattle.ot_model.specs.declared.stmt.Use.{Use}
use Rattle.std.specs.List.Sorted.{IsPartitionPoint}

-- what a body declares: the root's has no list and every cell as Writes
abbrev pub Declared : Type 0
Declared = Option (List Use)

-- whether the mode is Folds of this operation
abbrev pub folds_by : Operation → Mode → Bool
folds_by o (Folds other) = same_fold other o
folds_by o mode = false

-- whether the body declares the cell as Folds of this operation
abbrev pub folds_to : Declared → Operation → Cell → Bool
folds_to None o c = false
folds_to (Some uses) o c = list_any (λ d. same_cell d.cell c && folds_by o d.mode) uses

-- the mode in which a touch of the cell is held: where the body doesn't declare the cell as Folds of its operation, a fold is a write
abbrev pub held_as : Declared → Cell → Mode → Mode
held_as own c Reads = Reads
held_as own c Writes = Writes
held_as own c (Folds o) = if folds_to own o c then Folds o else Writes

abbrev pub mode_held : Declared → Use → Mode
mode_held own u = held_as own u.cell u.mode

-- a use as it is held
abbrev pub as_held : Declared → Use → Use
as_held own u = record { cell = u.cell; mode = mode_held own u }

-- the mode in which a cell is held for two touches: folds by two operations are a write
abbrev pub stronger : Mode → Mode → Mode
stronger Reads two = two
stronger Writes two = Writes
stronger (Folds o) Reads = Folds o
stronger (Folds o) Writes = Writes
stronger (Folds o) (Folds p) = if same_fold o p then Folds o else Writes

abbrev pub with_mode : Option Mode → Mode → Mode
with_mode None mode = mode
with_mode (Some earlier) mode = stronger earlier mode

-- one touch more, as this cell sees it
abbrev pub mode_noted : Declared → Cell → Option Mode → Use → Option Mode
mode_noted own c earlier u = if same_cell u.cell c then Some (with_mode earlier (mode_held own u)) else earlier

-- the mode in which these touches hold the cell, if one of them is of it
abbrev pub held_mode : Declared → List Use → Cell → Option Mode
held_mode own us c = fold (mode_noted own c) None us

-- each section has indexes of 32 bits
abbrev pub PicksFit : E → Type 0
PicksFit (Literal n) = Unit {0}
PicksFit (CellAt c) = Unit {0}
PicksFit (Apply o a b) = PicksFit a × PicksFit b
PicksFit (PickFrom s e) = (s.start + s.len ≤ 2 ^ 32) × PicksFit e

abbrev pub AssignsFit : Body → Type 0
AssignsFit (Next (Set c e) rest) = PicksFit e × AssignsFit rest
AssignsFit (Next (Fold o c e) rest) = PicksFit e × AssignsFit rest
AssignsFit b = Unit {0}

-- Uses of cells, as they are collected for what a piece holds.

-- one use more, as this cell sees it
abbrev pub mode_added : Cell → Option Mode → Use → Option Mode
mode_added c earlier u = if same_cell u.cell c then Some (with_mode earlier u.mode) else earlier

-- the strongest mode in which these uses have the cell, if one of them is of it
abbrev pub strongest : List Use → Cell → Option Mode
strongest us c = fold (mode_added c) None us

-- all uses up to this place are of cells that come before this one, and no later ones are
abbrev pub IsPlaceOf : List Use → Cell → ℕ → Type 0
IsPlaceOf us c place =
    (place ≤ length us) × IsPartitionPoint (λ (u : Use). is_before u.cell c ≡ true) (λ (u : Use). is_before u.cell c ≡ false) us place

-- What statements and pieces touch.

-- the cell, used in this mode
abbrev pub use_as : Mode → Cell → Use
use_as mode cell = record { cell = cell; mode = mode }

-- what a statement itself does with cells
abbrev pub touches : S → List Use
touches (Set c e) = map (use_as Reads) (cells_named e) ++ use_as Writes c ∷ []
touches (Fold o c e) = map (use_as Reads) (cells_named e) ++ use_as (Folds o) c ∷ []
touches (If e a b) = map (use_as Reads) (cells_named e)
touches _ = []

-- the touches of assignments, in their order
abbrev pub assign_touches : Body → List Use
assign_touches End = []
assign_touches (Next x rest) = touches x ++ assign_touches rest

-- the touches of a condition
abbrev pub test_touches : Option E → List Use
test_touches None = []
test_touches (Some e) = map (use_as Reads) (cells_named e)

-- the touches of a piece
abbrev pub piece_touches : Body → Option E → List Use
piece_touches assigns test = assign_touches assigns ++ test_touches test
