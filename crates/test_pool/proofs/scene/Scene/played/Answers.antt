use Rattle.ot_pool.proofs.SendLemmas.{pool-sync}
use denote.Param.Send.{param_sync, arg_sync}
use Rattle.test_pool.proofs.scene.Scene.played.Goals as goal

pub side_by_side-requires-sync-S : goal.side_by_side-requires-sync-S
side_by_side-requires-sync-S g c κs within = search (pool-sync, param_sync, arg_sync) depth 20
