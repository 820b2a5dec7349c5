use Rattle.ot_client_keep.specs.Questions.{CellsOf, Checkpoint}
use Rattle.ot_client_keep.proofs.KeepLemmas.{stops_now}
use Rattle.ot_client_keep.proofs.tenant.read_array.Goals as goal

pub returns-in_default : goal.returns-in_default
returns-in_default g c = stops_now _ _ Checkpoint _ tt

pub returns-in-Err : goal.returns-in-Err
returns-in-Err g c = stops_now _ _ (CellsOf c.as_str-2.result.now c.args.shape.now.len) _ c.in-Err.ensures
