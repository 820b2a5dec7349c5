use Rattle.std.proofs.Common.{◌≡◌, ◌≤◌, ◌++◌, ◌-◌, map}
use Rattle.std.specs.List.{range_with_len}
use Rattle.ot_parts.specs.Modes.{use_as}
use Rattle.ot_exec_state.specs.Memory.{cell}
use Rattle.ot_exec_state.proofs.trail.add_uses.Given as goal

abbrev pub invariant-loop-index : goal.invariant-loop-index
invariant-loop-index l =
    (l.uses.items ≡ l.fn.uses.items ++ map (λ k. use_as l.mode (cell l.span.object k)) (range_with_len l.span.index (l.index - l.span.index)))
    × (l.index - l.span.index ≤ l.span.end - l.span.index)
