use Rattle.std.proofs.Common.{◌≡◌, ◌≤◌, length, take}
use Rattle.ot_show_c.specs.Programs.{up_to_last}
use Rattle.ot_show_c.proofs.array.up_to_last.Given as goal

-- only zeros were left out
abbrev pub invariant-loop-len : goal.invariant-loop-len
invariant-loop-len l = (l.len ≤ length l.numbers) × (up_to_last (take l.len l.numbers) ≡ up_to_last l.numbers)

abbrev pub decreases-loop-len : goal.decreases-loop-len
decreases-loop-len l = l.len
