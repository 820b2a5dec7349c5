use Rattle.std.proofs.Common.{◌≡◌, map, take}
use Rattle.ot_job_task.proofs.place.Place.group_numbers.Given as goal

abbrev pub invariant-loop-group : goal.invariant-loop-group
invariant-loop-group l = l.numbers.items ≡ map (λ g. g.group) (take l.group-index l.fn.self.groups.items)
