use Rattle.std.proofs.Common.{◌≡◌, ◌+◌, drop, map}
use Rattle.ot_job_task.specs.RegionView.{open_of}
use Rattle.ot_job_task.specs.Regions.{weight_behind}
use Rattle.ot_job_task.proofs.place.Place.weigh_behind.Given as goal

-- what is weighed and what is not yet weigh what all do
abbrev pub invariant-loop-group : goal.invariant-loop-group
invariant-loop-group l =
    l.sum + weight_behind (map open_of (drop l.group-index l.fn.self.groups.items)) ≡ weight_behind (map open_of l.fn.self.groups.items)
