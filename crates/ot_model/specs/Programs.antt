-- What an expanded program is, apart from memory.
use Rattle.std.specs.Prelude.{ℕ, List, All, ◌<◌, ◌^◌, length, map, string_bytes}
use Rattle.ot_model.specs.Tree.{Body}
use Rattle.ot_model.specs.View.{stmts_of}
use Rattle.ot_model.specs.Names.{FitsShape, NamedIn}
use Rattle.ot_model.specs.declared.expr.Section.{Section}
use Rattle.ot_model.specs.declared.program.Program.{Program}
use Rattle.ot_model.specs.declared.shape.ArrayShape.{ArrayShape}

-- what it shows, its body, and how many statements and task statements it has
pub record Expanded : Type 0 where
  pub shows : List Section
  pub body : Body
  pub statements : ℕ
  pub tasks : ℕ

abbrev pub expanded_of : Program → Expanded
expanded_of p = record { shows = p.shows.items; body = stmts_of p.body.items; statements = p.statements; tasks = p.tasks }

-- each cell that the program names, in its shows or its body, is in the shape
pub record IsNamedIn (lens : List ℕ) (p : Expanded) : Type 0 where
  pub shows : All (FitsShape lens) p.shows
  pub body : NamedIn lens p.body

-- The arrays that a program may name.

-- names and lengths in order of creation, and the limit of task statements
pub record Arrays : Type 0 where
  pub arrays : List (List ℕ × ℕ)
  pub tasks : ℕ

-- positions and lengths fit 32 bits
pub record AreShort (arrays : List (List ℕ × ℕ)) : Type 0 where
  pub few : length arrays < 2 ^ 32
  pub short : All (λ a. a.1 < 2 ^ 32) arrays

-- how many cells each array has
abbrev pub array_lengths : Arrays → List ℕ
array_lengths shape = map (λ a. a.1) shape.arrays

-- The names and lengths that the code's arrays stand for.

abbrev pub arrays_of : List ArrayShape → List (List ℕ × ℕ)
arrays_of arrays = map (λ a. (string_bytes a.name, a.len)) arrays
