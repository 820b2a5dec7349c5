use Rattle.std.proofs.Common.{vec_len}
use Rattle.ot_front.proofs.connections.fn.listen_in_threads.scope.Given as goal

abbrev pub decreases-loop-thread : goal.decreases-loop-thread
decreases-loop-thread g l = vec_len l.threads
