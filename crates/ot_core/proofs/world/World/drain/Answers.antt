use Rattle.std.proofs.lemmas.Result.{on_ok_weaker}
use Rattle.ot_core.proofs.ToldLemmas.{tells-all}
use Rattle.ot_core.proofs.world.World.drain.Goals as goal

pub returns-clause-all : goal.returns-clause-all
returns-clause-all g c = on_ok_weaker c.take_moves-drained.result (tells-all c.take_moves-drained.new.self c.tells.ensures) c.take_moves-drained.ensures.answered
