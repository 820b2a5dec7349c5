use Rattle.std.proofs.Common.{◌<◌}
use Rattle.ot_exec_layout.proofs.layouts.Layouts.+named.Given as goal

-- each call goes one deeper
abbrev pub decreases-named : goal.decreases-named
decreases-named l = l.depth

abbrev pub invariant-loop-member : goal.invariant-loop-member
invariant-loop-member l = 0 < l.depth
