use Rattle.std.proofs.Common.{◌≡◌, ◌≤◌, ◌+◌, not, length, take}
use Rattle.std.specs.List.{suffix_len}
use Rattle.ot_file_text.specs.Positions.{is_end}
use Rattle.ot_file_diagnosis.proofs.picture.line_start.Given as goal

abbrev pub invariant-loop-start : goal.invariant-loop-start
invariant-loop-start l =
    (l.start ≤ length l.text)
    × (suffix_len (λ b. not (is_end b)) l.text + l.start ≡ length l.text + suffix_len (λ b. not (is_end b)) (take l.start l.text))

abbrev pub decreases-loop-start : goal.decreases-loop-start
decreases-loop-start l = l.start
