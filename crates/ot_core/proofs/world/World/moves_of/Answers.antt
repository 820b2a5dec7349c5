use Rattle.std.proofs.Common.{arith}
use Rattle.std.proofs.lemmas.Nat.{mul-le}
use Rattle.ot_core.proofs.DrainLemmas.{moves-few, free-few}
use Rattle.ot_core.proofs.world.World.moves_of.Goals as goal

pub overflow_mul-result : goal.overflow_mul-result
overflow_mul-result c =
    let few = free-few _ _ c.args.free c.self.view_is c.self.invariant.hands_many c.requires in
    omega (arith, mul-le c.args.free c.outlook-claimable.result.0 16 20001 few c.outlook-claimable.ensures.few)

pub overflow_add-result-2 : goal.overflow_add-result-2
overflow_add-result-2 c =
    let few = free-few _ _ c.args.free c.self.view_is c.self.invariant.hands_many c.requires in
    let most = moves-few c.opens_of.result c.outlook-claimable.result.1 c.args.free c.outlook-claimable.result.0 c.opens_of.ensures.one c.outlook-claimable.ensures.one few c.outlook-claimable.ensures.few in
    omega (arith, most)

pub returns-clause-few : goal.returns-clause-few
returns-clause-few c =
    let few = free-few _ _ c.args.free c.self.view_is c.self.invariant.hands_many c.requires in
    moves-few c.opens_of.result c.outlook-claimable.result.1 c.args.free c.outlook-claimable.result.0 c.opens_of.ensures.one c.outlook-claimable.ensures.one few c.outlook-claimable.ensures.few
