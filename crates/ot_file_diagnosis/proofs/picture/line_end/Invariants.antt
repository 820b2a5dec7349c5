use Rattle.std.proofs.Common.{◌≡◌, ◌+◌, drop}
use Rattle.std.specs.List.{position_or_len}
use Rattle.ot_file_diagnosis.specs.Pictures.{ends_line}
use Rattle.ot_file_diagnosis.proofs.picture.line_end.Given as goal

abbrev pub invariant-loop-index : goal.invariant-loop-index
invariant-loop-index l = l.index + position_or_len ends_line (drop l.index l.text) ≡ position_or_len ends_line l.text
