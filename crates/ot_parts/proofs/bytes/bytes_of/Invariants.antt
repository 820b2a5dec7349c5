use Rattle.std.proofs.Common.{◌≡◌, ◌++◌, drop}
use Rattle.ot_parts.specs.Assigns.{assigns_of}
use Rattle.ot_parts.specs.Bytes.{bytes_of}
use Rattle.ot_parts.proofs.bytes.bytes_of.Given as goal

-- what is written, with what is left
abbrev pub invariant-loop-assign : goal.invariant-loop-assign
invariant-loop-assign l = l.bytes.items ++ bytes_of (assigns_of (drop l.assign-index l.list)) ≡ bytes_of (assigns_of l.list)
