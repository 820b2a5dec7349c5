use Rattle.std.proofs.Common.{◌≡◌, ◌++◌, length, map}
use Rattle.std.specs.Prelude.{string_bytes}
use Rattle.ot_serve.specs.Serving.{usage_lines}
use Rattle.ot_serve.proofs.usages.write_lines.Given as goal

-- what is written and the lines of what is left make the whole
abbrev pub invariant-loop-left : goal.invariant-loop-left
invariant-loop-left l = string_bytes l.text ++ usage_lines (map string_bytes l.left) l.counts
    ≡ string_bytes l.fn.text ++ usage_lines (map string_bytes l.names) l.units

abbrev pub decreases-loop-left : goal.decreases-loop-left
decreases-loop-left l = length l.left
