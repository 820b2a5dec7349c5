use Rattle.std.proofs.Common.{length, ◌-◌, ◌+◌}
use Rattle.ot_model.specs.Meeting.{asked}
use Rattle.ot_model.proofs.MeetingLemmas.{NoneBefore}
use Rattle.ot_model.proofs.meeting.meet.Given as goal

-- what has been passed meets nothing
abbrev pub invariant-loop-i : goal.invariant-loop-i
invariant-loop-i l = NoneBefore (asked l.question) l.ones l.twos l.i l.j

abbrev pub decreases-loop-i : goal.decreases-loop-i
decreases-loop-i l = (length l.ones - l.i) + (length l.twos - l.j)
