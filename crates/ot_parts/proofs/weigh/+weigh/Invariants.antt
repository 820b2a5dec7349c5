use Rattle.std.proofs.Common.{◌≡◌, ◌+◌, drop}
use Rattle.ot_parts.specs.Parts.{parts_of, weight}
use Rattle.ot_parts.proofs.weigh.+weigh.Given as goal

-- what is weighed and what is not yet weigh what all do
abbrev pub invariant-weigh-loop-i : goal.invariant-weigh-loop-i
invariant-weigh-loop-i l = l.sum + weight (parts_of (drop l.i l.parts.items)) ≡ weight (parts_of (drop l.at l.parts.items))
