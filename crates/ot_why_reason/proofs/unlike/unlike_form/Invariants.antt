use Rattle.std.proofs.Common.{vec_len, ◌<◌}
use Rattle.ot_why_reason.proofs.unlike.unlike_form.Given as goal

abbrev pub invariant-loop-place : goal.invariant-loop-place
invariant-loop-place l = 0 < vec_len l.reasons
