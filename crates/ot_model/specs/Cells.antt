-- Cells, as a list of numbers for each array.
use Rattle.std.specs.Prelude.{ℕ, [], zero, suc, ◌==◌, nat_lt, Bool, ◌&&◌, ◌||◌, List, ◌∷◌, map, length, Option, slice_get, option_and_then, ◌≡◌, ◌<◌, ◌⊎◌, true, false, not, IsTrue, if◌then◌else◌, Some, None, Any}
use Rattle.ot_model.specs.declared.expr.Cell.{Cell}
use Rattle.std.specs.List.{list_any}
use Rattle.ot_model.specs.declared.stmt.Mode.{Mode}
use Rattle.ot_model.specs.declared.stmt.Mode.TheVariants.{Reads, Writes, Folds}
use Rattle.ot_model.specs.declared.fold.Fold.{Fold}
use Rattle.ot_model.specs.declared.fold.Fold.TheVariants.{Plus, Times, And, Or, Xor, Min, Max}
use Rattle.ot_model.specs.Joining.{join_by, unit_of}
use Rattle.ot_model.specs.declared.stmt.Use.{Use}

-- whether two are one cell
abbrev pub same_cell : Cell → Cell → Bool
same_cell c d = (c.array == d.array) && (c.index == d.index)

-- whether one comes before the other: by array, then by index
abbrev pub is_before : Cell → Cell → Bool
is_before c d = nat_lt c.array d.array || (c.array == d.array && nat_lt c.index d.index)

-- the cell's number, where the cell is there
abbrev pub cell_of : List (List ℕ) → Cell → Option ℕ
cell_of cells cell = option_and_then (λ row. slice_get row cell.index) (slice_get cells cell.array)

-- the list with f of what stood at a place there
abbrev pub updated : {A : Type 0} → List A → ℕ → (A → A) → List A
updated [] i f = []
updated (x ∷ xs) zero f = f x ∷ xs
updated (x ∷ xs) (suc i) f = x ∷ updated xs i f

-- the cells with f of what stood in this cell there
abbrev pub with_cell : List (List ℕ) → Cell → (ℕ → ℕ) → List (List ℕ)
with_cell cells cell f = updated cells cell.array (λ row. updated row cell.index f)

-- how many cells each array has
abbrev pub lengths : List (List ℕ) → List ℕ
lengths cells = map length cells

-- Declarations: cells in order, each once, with one mode. What conflicts, who depends on whom, and what a lent copy does.

-- by array, then by index
abbrev pub Precedes : Cell → Cell → Type 0
Precedes a b = (a.array < b.array) ⊎ ((a.array ≡ b.array) × (a.index < b.index))

-- each use is of a later cell than the one before it
abbrev pub AreInOrder : List Use → Type 0
AreInOrder [] = Unit {0}
AreInOrder (u ∷ []) = Unit {0}
AreInOrder (u ∷ v ∷ us) = Precedes u.cell v.cell × AreInOrder (v ∷ us)

-- the mode in which a declaration has a cell
abbrev pub mode_in : List Use → Cell → Option Mode
mode_in [] c = None
mode_in (u ∷ us) c = if same_cell c u.cell then Some u.mode else mode_in us c

abbrev pub is_fold : Mode → Bool
is_fold (Folds op) = true
is_fold _ = false

-- operations by numbers
abbrev pub number_of : Fold → ℕ
number_of Plus = 0
number_of Times = 1
number_of And = 2
number_of Or = 3
number_of Xor = 4
number_of Min = 5
number_of Max = 6

-- whether two operations are one
abbrev pub same_fold : Fold → Fold → Bool
same_fold one two = number_of one == number_of two

-- whether two modes are one
abbrev pub same_mode : Mode → Mode → Bool
same_mode Reads Reads = true
same_mode Writes Writes = true
same_mode (Folds one) (Folds two) = same_fold one two
same_mode one two = false

-- whether two uses of one cell conflict: they do unless both read or both fold by one operation
abbrev pub conflicts : Mode → Mode → Bool
conflicts Reads Reads = false
conflicts (Folds one) (Folds two) = not (same_fold one two)
conflicts one two = true

-- whether at least one of two uses of a cell is a write
abbrev pub one_writes : Mode → Mode → Bool
one_writes Writes two = true
one_writes one Writes = true
one_writes one two = false

-- some use of each list is of one cell, in modes that pass the test
abbrev pub MeetAtACell : (Mode → Mode → Bool) → List Use → List Use → Type 0
MeetAtACell test us vs = Any (λ u. Any (λ v. (u.cell ≡ v.cell) × IsTrue (test u.mode v.mode)) vs) us

-- two declarations conflict where uses of one cell do
abbrev pub Conflict : List Use → List Use → Type 0
Conflict us vs = MeetAtACell conflicts us vs

-- a later sibling depends on an earlier one where they share a cell that at least one of the two has as Writes
-- (OpenMP API 5.2, section 15.9.5)
abbrev pub DependsOn : List Use → List Use → Type 0
DependsOn earlier later = MeetAtACell one_writes earlier later

-- the same as a test
abbrev pub depends_on : (earlier later : List Use) → Bool
depends_on earlier later = list_any (λ u. list_any (λ v. same_cell u.cell v.cell && one_writes u.mode v.mode) later) earlier

-- what a lent copy of a stored number starts at: the number itself, but under Folds the unit of its operation
-- (OpenMP API 5.2, section 5.5)
abbrev pub first_of : Mode → ℕ → ℕ
first_of Reads stored = stored
first_of Writes stored = stored
first_of (Folds op) stored = unit_of op

-- the stored number once a copy has come back: under Writes replaced, under Folds the two joined
-- (OpenMP API 5.2, section 5.5)
abbrev pub joined : Mode → ℕ → ℕ → ℕ
joined Reads stored copy = stored
joined Writes stored copy = copy
joined (Folds op) stored copy = join_by op stored copy
