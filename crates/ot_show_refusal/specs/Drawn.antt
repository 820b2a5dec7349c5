-- What is drawn of a book.
use Rattle.std.specs.Prelude.{ℕ, ◌≡◌, ◌-◌, List, Some, MatchOption, length, map, option_and_then, slice_get}
use Rattle.ot_model.specs.Programs.{Arrays, Expanded}
use Rattle.ot_model.specs.Tree.{tasks_in}
use Rattle.ot_check.specs.Offences.{Offends, code_of}
use Rattle.ot_check.specs.declared.fault.Offence.{Offence}
use Rattle.ot_store.specs.Arrays.{shape_in}
use Rattle.ot_book.specs.Answers.{value_of}
use Rattle.ot_book.specs.Answers as r
use Rattle.ot_book.specs.Books.{Register}
use Rattle.ot_why_reason.specs.Runs.{run_of}
use Rattle.ot_show_print.specs.Shown.{Text}
use Rattle.ot_show_races.specs.Pictures.{picture_text}
use Rattle.ot_show_races.specs.declared.picture.Picture.{Picture}
use Rattle.ot_show_refusal.specs.MarkedView.{HasTasks, IsMarked}
use Rattle.ot_show_refusal.specs.declared.refused.Refused.{Refused}

-- the names of the arrays
abbrev pub array_names : Arrays → List Text
array_names shape = map (λ array. array.0) shape.arrays

-- The text is that of the picture of the program that the line runs over these arrays.
pub record Draws (shape : Arrays) (line : List ℕ) (offence : Offence) (place : ℕ) (refused : Refused) : Type 0 where
  pub program : Expanded
  pub picture : Picture
  pub runs : option_and_then (run_of shape) (value_of line) ≡ Some program
  pub tasks : HasTasks (array_names shape) program.body picture
  pub race : MatchOption picture.race (Offends program.body place offence → ⊥) (IsMarked (array_names shape) program.body place offence)
  pub text : refused.text.items ≡ picture_text picture
  pub count : refused.tasks ≡ tasks_in program.body

-- The line is the last of the log, and this is what was told of it.
pub record DrawsLast (book : Register) (refused : Refused) : Type 0 where
  pub line : List ℕ
  pub offence : Offence
  pub place : ℕ
  pub last : slice_get book.log (length book.log - 1) ≡ Some (line, r.Offends (code_of offence) place)
  pub draws : Draws (shape_in book.limits book.store) line offence place refused
