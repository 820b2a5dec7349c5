use Rattle.std.proofs.Common.{◌≡◌, map, take}
use Rattle.ot_show_print.specs.Shown.{names_of}
use Rattle.ot_show_refusal.specs.Marked.{marked_tasks}
use Rattle.ot_show_refusal.specs.MarkedView.{task_by}
use Rattle.ot_show_refusal.specs.StandView.{standings_of}
use Rattle.ot_show_refusal.proofs.picture.tasks_of.Given as goal

-- the tasks are those of the statements so far
abbrev pub invariant-loop-stand : goal.invariant-loop-stand
invariant-loop-stand l = map task_by l.tasks.items ≡ marked_tasks (names_of l.arrays) (standings_of (take l.stand-index l.stands))
