use Rattle.std.proofs.Common.{◌≡◌, ◌++◌, length}
use Rattle.ot_file_text.specs.OneLine.{line_in, one_line}
use Rattle.ot_file_text.proofs.line.one_line.Given as goal

-- the line so far, and then the rest's, is the whole line
abbrev pub invariant-loop-rest : goal.invariant-loop-rest
invariant-loop-rest l = l.line.items ++ line_in l.place l.word l.rest ≡ one_line l.piece

abbrev pub decreases-loop-rest : goal.decreases-loop-rest
decreases-loop-rest l = length l.rest
