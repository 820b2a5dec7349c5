use Rattle.std.proofs.Common.{◌≡◌, take}
use Rattle.ot_check.specs.walk.Rows.{widths}
use Rattle.ot_check.proofs.TaskLemmas.{AreEntered}
use Rattle.ot_check.proofs.tasks.Tasks.add.Given as goal

abbrev pub invariant-loop-used : goal.invariant-loop-used
invariant-loop-used l =
    (widths l.self.users ≡ widths l.fn.self.users) × (l.self.passed ≡ l.fn.self.passed)
    × AreEntered l.fn.self.users l.self.users l.fn.self.passed (take l.used-index l.used-items)
