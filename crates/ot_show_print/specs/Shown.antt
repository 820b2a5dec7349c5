-- Cells in a row as sections.
use Rattle.std.specs.Prelude.{ℕ, nat_lt, Bool, false, not, if◌then◌else◌, List, [], ◌∷◌, ◌++◌, Option, Some, None, codes, decimal, map, slice_index_or, string_bytes, ◌+◌, ◌==◌, ◌^◌, zero, suc, ◌&&◌}
use Rattle.ot_model.specs.declared.expr.Cell.{Cell}
use Rattle.ot_model.specs.declared.expr.Section.{Section}
use Rattle.ot_model.specs.declared.fold.Fold.{Fold as Operation}
use Rattle.ot_model.specs.declared.fold.Fold.TheVariants as f
use Rattle.ot_model.specs.declared.stmt.Mode.{Mode}
use Rattle.ot_model.specs.declared.stmt.Mode.TheVariants as m
use Rattle.ot_model.specs.declared.stmt.Use.{Use}
use Rattle.ot_model.specs.declared.shape.ArrayShape.{ArrayShape}
use Rattle.ot_model.specs.Tree.{E, Literal, CellAt, Apply, PickFrom, S, Set, Fold, If, Task, Wait, Group}
use Rattle.ot_model.specs.Signs.{is_call, sign, is_called, fold_sign, identifier}
use Rattle.ot_model.specs.Cells.{same_mode}

-- the cells that are declared in this mode
abbrev pub cells_in : List Use → Mode → List Cell
cells_in [] m = []
cells_in (u ∷ us) m = if same_mode u.mode m then u.cell ∷ cells_in us m else cells_in us m

abbrev pub alone : Cell → Section
alone c = record { array = c.array; start = c.index; len = 1 }

abbrev pub longer : Section → Section
longer s = record { array = s.array; start = s.start; len = s.len + 1 }

-- whether the cell is the one behind the section, and the longer section's length fits 32 bits
abbrev pub goes_on : Section → Cell → Bool
goes_on s c = (s.array == c.array) && ((s.start + s.len == c.index) && nat_lt (s.len + 1) (2 ^ 32))

-- the sections of the cells, behind one that is still open
abbrev pub sections_behind : Section → List Cell → List Section
sections_behind s [] = s ∷ []
sections_behind s (c ∷ cs) = if goes_on s c then sections_behind (longer s) cs else s ∷ sections_behind (alone c) cs

-- the cells as sections, those in a row as one
abbrev pub sections_of : List Cell → List Section
sections_of [] = []
sections_of (c ∷ cs) = sections_behind (alone c) cs

-- so many cells of an array from a place on
abbrev pub row : ℕ → ℕ → ℕ → List Cell
row a i zero = []
row a i (suc n) = record { array = a; index = i } ∷ row a (i + 1) n

-- the cells of sections, in order
abbrev pub section_cells : List Section → List Cell
section_cells [] = []
section_cells (s ∷ ss) = row s.array s.start s.len ++ section_cells ss

-- The text of values, cells, sections, declarations and the beginnings of statements, over the names of arrays.

abbrev pub Text : Type 0
Text = List ℕ

-- what is written so far, and the names that it uses
pub record Writing : Type 0 where
  pub names : List Text
  pub text : Text

abbrev pub names_of : List ArrayShape → List Text
names_of arrays = map (λ a. string_bytes a.name) arrays

abbrev pub name : List Text → ℕ → Text
name names i = slice_index_or names i (codes "?")

abbrev pub cell : List Text → Cell → Text
cell names c = name names c.array ++ codes "[" ++ decimal c.index ++ codes "]"

-- how many cells, where there is not one
abbrev pub length_of : ℕ → Text
length_of n = if nat_lt 1 n then codes ":" ++ decimal n else []

abbrev pub section : List Text → Section → Text
section names s = name names s.array ++ codes "[" ++ decimal s.start ++ length_of s.len ++ codes "]"

-- sections behind others
abbrev pub further : List Text → List Section → Text
further names [] = []
further names (s ∷ ss) = codes ", " ++ section names s ++ further names ss

-- sections with commas between them
abbrev pub sections : List Text → List Section → Text
sections names [] = []
sections names (s ∷ ss) = section names s ++ further names ss

-- whether a value has a sign itself
abbrev pub is_nested : E → Bool
is_nested (Apply op a b) = not (is_call op)
is_nested e = false

-- a value's text as a side
abbrev pub as_side : E → Text → Text
as_side e t = if is_nested e then codes "(" ++ t ++ codes ")" else t

abbrev pub value : List Text → E → Text
value names (Literal n) = decimal n
value names (CellAt c) = cell names c
value names (Apply op a b) = if is_call op then sign op ++ value names a ++ codes ", " ++ value names b ++ codes ")" else as_side a (value names a) ++ sign op ++ as_side b (value names b)
value names (PickFrom s e) = name names s.array ++ codes "[" ++ decimal s.start ++ codes " + " ++ as_side e (value names e) ++ codes " % " ++ decimal s.len ++ codes "]"

abbrev pub side : List Text → E → Text
side names e = as_side e (value names e)

-- a clause over sections, if there are any
abbrev pub clause : List Text → Text → List Section → Text
clause names words [] = []
clause names words (s ∷ ss) = words ++ sections names (s ∷ ss) ++ codes ")"

abbrev pub mode_clause : List Text → Text → List Use → Mode → Text
mode_clause names words us m = clause names words (sections_of (cells_in us m))

abbrev pub dependences : List Text → List Use → Text
dependences names us = mode_clause names (codes " in(") us m.Reads ++ mode_clause names (codes " out(") us m.Writes

abbrev pub reduction : List Text → Text → Operation → List Section → Text
reduction names words op ss = clause names (words ++ identifier op ++ codes ": ") ss

abbrev pub fold_clause : List Text → List Use → Operation → Text
fold_clause names us op = reduction names (codes " in_reduction(") op (sections_of (cells_in us (m.Folds op)))

abbrev pub task_as : List Text → Text → List Use → Text
task_as names head us = head ++ dependences names us ++ fold_clause names us f.Plus ++ fold_clause names us f.Times ++ fold_clause names us f.And ++ fold_clause names us f.Or ++ fold_clause names us f.Xor ++ fold_clause names us f.Min ++ fold_clause names us f.Max

abbrev pub task : List Text → List Use → Text
task names us = task_as names (codes "task") us

-- what a wait declares, also where that is no cell
abbrev pub wait_declares : List Text → List Use → Text
wait_declares names [] = codes " in()"
wait_declares names (u ∷ us) = dependences names (u ∷ us)

abbrev pub wait : List Text → Option (List Use) → Text
wait names None = codes "taskwait"
wait names (Some us) = codes "taskwait" ++ wait_declares names us

abbrev pub group_as : List Text → Text → Operation → List Cell → Text
group_as names head op cs = head ++ reduction names (codes " task_reduction(") op (sections_of cs)

abbrev pub group : List Text → Operation → List Cell → Text
group names op cs = group_as names (codes "taskgroup") op cs

abbrev pub condition : List Text → Text → E → Text
condition names head e = head ++ value names e ++ codes ")"

abbrev pub fold : List Text → Operation → Cell → E → Text
fold names op c e = if is_called op then cell names c ++ codes " = " ++ fold_sign op ++ cell names c ++ codes ", " ++ value names e ++ codes ")" else cell names c ++ fold_sign op ++ value names e

-- a statement without its bodies
abbrev pub statement : List Text → S → Text
statement names (Set c e) = cell names c ++ codes " = " ++ value names e
statement names (Fold op c e) = fold names op c e
statement names (If e a b) = condition names (codes "if (") e
statement names (Task us b) = task names us
statement names (Wait w) = wait names w
statement names (Group op cs b) = group names op cs
