use Rattle.ot_core.proofs.HandedLemmas.{stopped, working-of}
use Rattle.ot_core.proofs.world.World.abort.Goals as goal

pub abort-requires : goal.abort-requires
abort-requires c = working-of _ _ _ c.in-Some-Working.ensures c.in-Some-Working.field-0-is

pub invariant_of-self : goal.invariant_of-self
invariant_of-self c =
    (stopped _ _ c.args.tenant _ c.self.view_is c.self.invariant (working-of _ _ _ c.in-Some-Working.ensures c.in-Some-Working.field-0-is) c.abort.ensures).0

pub returns : goal.returns
returns c =
    (stopped _ _ c.args.tenant _ c.self.view_is c.self.invariant (working-of _ _ _ c.in-Some-Working.ensures c.in-Some-Working.field-0-is) c.abort.ensures).1
