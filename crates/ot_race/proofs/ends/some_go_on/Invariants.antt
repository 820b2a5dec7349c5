use Rattle.std.proofs.Common.{◌≡◌, [], take}
use Rattle.ot_race.specs.Ends.{going_on}
use Rattle.ot_race.proofs.ends.some_go_on.Given as goal

abbrev pub invariant-loop-task : goal.invariant-loop-task
invariant-loop-task l = going_on l.ends l.number (take l.task-index l.tasks) ≡ []
