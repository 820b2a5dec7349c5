use Rattle.std.proofs.Common.{◌≡◌, ◌++◌, flat_map, take}
use Rattle.ot_show_races.specs.Pictures.{task_text}
use Rattle.ot_show_races.proofs.drawing.put_tasks.Given as goal

abbrev pub invariant-loop-task : goal.invariant-loop-task
invariant-loop-task l = l.out.items ≡ l.fn.out.items ++ flat_map task_text (take l.task-index l.tasks)
