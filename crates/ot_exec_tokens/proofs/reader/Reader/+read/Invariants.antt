use Rattle.std.proofs.Common.{◌+◌, ◌*◌}
use Rattle.ot_exec_tokens.proofs.reader.Reader.+read.Given as goal

-- each file that is included nests one deeper
abbrev pub decreases-read : goal.decreases-read
decreases-read l = 2 * l.depth + 1

abbrev pub decreases-read_part : goal.decreases-read_part
decreases-read_part l = 2 * l.depth
