-- What is known of a line that was read once.
use Rattle.std.specs.Prelude.{◌≡◌, ℕ, List}
use Rattle.ot_model.specs.Programs.{Expanded, expanded_of, IsNamedIn, array_lengths}
use Rattle.ot_model.specs.Programs as shapes
use Rattle.ot_store.specs.Arrays.{Named, shape_in}
use Rattle.ot_store.specs.declared.limits.Limits.{Limits}
use Rattle.ot_book.specs.Requests as r
use Rattle.ot_check.specs.declared.checked.Checked.{Checked}
use Rattle.ot_book.specs.Answers.{Runs, step_of}

-- over arrays of this shape the line runs this program, whatever their cells hold
abbrev pub RunsOver : shapes.Arrays → List ℕ → Expanded → Type 0
RunsOver shape line program = (limits : Limits) (arrays : List Named) (used : ℕ) → shape_in limits arrays ≡ shape → ∥ step_of limits arrays used line ≡ Runs program ∥₁

-- a line, what it could name, and the program that it was read as
pub record Reading : Type 0 where
  pub line : List ℕ
  pub shape : shapes.Arrays
  pub checked : Checked

-- it is read as that program again wherever the shape is the same
pub record IsReading (r : Reading) : Type 0 where
  pub runs : RunsOver r.shape r.line (expanded_of r.checked.program)
  pub named : IsNamedIn (array_lengths r.shape) (expanded_of r.checked.program)
