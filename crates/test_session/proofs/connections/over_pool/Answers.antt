use Rattle.ot_pool.proofs.SendLemmas.{pool-sync}
use Rattle.ot_front.proofs.SendLemmas.{desk-sync}
use denote.Param.Send.{param_sync, arg_sync}
use Rattle.test_session.proofs.connections.over_pool.Goals as goal

-- a thread may borrow the pool
pub side_by_side-requires-sync-P : goal.side_by_side-requires-sync-P
side_by_side-requires-sync-P g c κs within = search (pool-sync, param_sync, arg_sync) depth 20

-- and the desk
pub side_by_side-requires-sync-D : goal.side_by_side-requires-sync-D
side_by_side-requires-sync-D g c κs within = search (desk-sync, param_sync, arg_sync) depth 20
