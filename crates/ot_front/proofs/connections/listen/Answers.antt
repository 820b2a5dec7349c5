use Rattle.ot_pool.proofs.SendLemmas.{pool-sync}
use Rattle.ot_front.proofs.SendLemmas.{desk-sync}
use denote.Param.Send.{param_sync, arg_sync}
use Rattle.ot_front.proofs.connections.listen.Goals as goal

-- a thread may borrow the pool
pub listen_in_threads-requires-sync-P : goal.listen_in_threads-requires-sync-P
listen_in_threads-requires-sync-P g c κs within = search (pool-sync, param_sync, arg_sync) depth 20

-- and the desk
pub listen_in_threads-requires-sync-D : goal.listen_in_threads-requires-sync-D
listen_in_threads-requires-sync-D g c κs within = search (desk-sync, param_sync, arg_sync) depth 20
