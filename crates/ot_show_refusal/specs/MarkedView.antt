-- The picture of a program with a statement that offends.
use Rattle.std.specs.Prelude.{ℕ, ◌≡◌, List, [], Option, map, string_bytes}
use Rattle.ot_model.specs.Tree.{Body}
use Rattle.ot_check.specs.declared.fault.Offence.{Offence}
use Rattle.ot_why_blame.specs.Races.{IsNamed}
use Rattle.ot_show_print.specs.Shown.{Text}
use Rattle.ot_show_races.specs.declared.picture.Pair.{Pair}
use Rattle.ot_show_races.specs.declared.picture.Picture.{Picture}
use Rattle.ot_show_races.specs.declared.picture.Task.{Task}
use Rattle.ot_show_races.specs.declared.picture.Touch.{Touch}
use Rattle.ot_show_refusal.specs.Stands.{stands}
use Rattle.ot_show_refusal.specs.Marked.{marked_tasks, pair}

abbrev pub task_by : Task → ℕ × ℕ × Text
task_by task = (task.number, task.parent, string_bytes task.label)

abbrev pub touch_by : Touch → ℕ × Text
touch_by touch = (touch.task, string_bytes touch.label)

abbrev pub pair_by : Pair → (ℕ × Text) × (ℕ × Text)
pair_by pair = (touch_by pair.first, touch_by pair.second)

-- it has the tasks of the program, and nothing beside them
pub record HasTasks (names : List Text) (body : Body) (picture : Picture) : Type 0 where
  pub tasks : map task_by picture.tasks.items ≡ marked_tasks names (stands 0 1 body)
  pub more : picture.more ≡ 0
  pub waits : picture.waits.items ≡ []
  pub links : picture.links.items ≡ []

-- the two are the statement at the place, and the one that is named beside it
pub record IsMarked (names : List Text) (body : Body) (place : ℕ) (offence : Offence) (two : Pair) : Type 0 where
  pub other : Option ℕ
  pub words : Text
  pub named : IsNamed body place offence other
  pub pair : pair_by two ≡ pair names (stands 0 1 body) place other words
