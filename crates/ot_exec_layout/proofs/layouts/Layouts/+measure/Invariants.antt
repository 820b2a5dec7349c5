use Rattle.std.proofs.Common.{◌<◌}
use Rattle.ot_exec_layout.proofs.layouts.Layouts.+measure.Given as goal

-- each call goes one deeper
abbrev pub decreases-constant_at : goal.decreases-constant_at
decreases-constant_at l = l.depth

abbrev pub decreases-enumerator : goal.decreases-enumerator
decreases-enumerator l = l.depth

abbrev pub decreases-kind : goal.decreases-kind
decreases-kind l = l.depth

abbrev pub decreases-measured : goal.decreases-measured
decreases-measured l = l.depth

abbrev pub decreases-record : goal.decreases-record
decreases-record l = l.depth

abbrev pub invariant-record-loop-member : goal.invariant-record-loop-member
invariant-record-loop-member l = 0 < l.depth
