use Rattle.std.proofs.Common.{◌+◌, ◌*◌}
use Rattle.ot_exec_tokens.proofs.reader.Reader.+expand.Given as goal

abbrev pub decreases-expand : goal.decreases-expand
decreases-expand l = 3 * l.depth

abbrev pub decreases-replace : goal.decreases-replace
decreases-replace l = 3 * l.depth + 2

abbrev pub decreases-substituted : goal.decreases-substituted
decreases-substituted l = 3 * l.depth + 1
