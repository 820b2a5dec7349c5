use Rattle.std.proofs.Common.{sym, refl, inl, inr, None, true, false}
use Rattle.ot_hall.proofs.FloorLemmas.{seen}
use Rattle.ot_core.proofs.SceneLemmas.{jobless}
use Rattle.ot_core.proofs.HandedLemmas.{read-again, never-strange, cannot-reply, ended}
use Rattle.ot_core.proofs.world.World.reply.Goals as goal

pub returns-in_default-spec : goal.returns-in_default-spec
returns-in_default-spec c = (
  cannot-reply _ _ c.args.tenant None c.self.view_is (jobless _ c.args.tenant _ c.self.invariant (seen _ _ _ c.in-Some.ensures.item.3.0 c.in-Some.ensures.item.1) (sym c.in_default-spec.ensures)) tt,
  read-again _ _ c.args.tenant _ c.self.view_is c.in-Some.ensures.item.1,
)

pub unreachable-requires : goal.unreachable-requires
unreachable-requires c =
    never-strange _ c.args.tenant _ c.in-Some-spec.spec.now c.self.invariant (seen _ _ _ c.in-Some.ensures.item.3.0 c.in-Some.ensures.item.1) (sym c.in-Some-spec.ensures) c.in-Stranger.ensures.0

pub close-requires : goal.close-requires
close-requires c =
    (c.in-Some-spec.spec.now, sym c.in-Some-spec.ensures, c.in-Ended.ensures.1)

pub invariant_of-self-in-Ended : goal.invariant_of-self-in-Ended
invariant_of-self-in-Ended c =
    (ended _ _ c.args.tenant _ c.close.new.self c.in-Some-spec.spec.now false c.collect.new.self c.self.view_is c.self.invariant (seen _ _ _ c.in-Some.ensures.item.3.0 c.in-Some.ensures.item.1) c.in-Ended.ensures.0.0 (inl (refl, c.in-Ended.ensures.0.1)) c.in-Ended.ensures.0.2
    c.close.ensures.is c.close.ensures.sound c.in-Ended.ensures.2).0

pub returns-in-Ended : goal.returns-in-Ended
returns-in-Ended c =
    (ended _ _ c.args.tenant _ c.close.new.self c.in-Some-spec.spec.now false c.collect.new.self c.self.view_is c.self.invariant (seen _ _ _ c.in-Some.ensures.item.3.0 c.in-Some.ensures.item.1) c.in-Ended.ensures.0.0 (inl (refl, c.in-Ended.ensures.0.1)) c.in-Ended.ensures.0.2
    c.close.ensures.is c.close.ensures.sound c.in-Ended.ensures.2).1

pub invariant_of-self-in-Failed : goal.invariant_of-self-in-Failed
invariant_of-self-in-Failed c =
    (ended _ _ c.args.tenant _ c.close_refused.new.self c.in-Some-spec.spec.now true c.collect.new.self c.self.view_is c.self.invariant (seen _ _ _ c.in-Some.ensures.item.3.0 c.in-Some.ensures.item.1) c.in-Failed.ensures.0.0 (inr (refl, c.in-Failed.ensures.0.1)) c.in-Failed.ensures.0.2
    c.close_refused.ensures.is c.close_refused.ensures.sound c.in-Failed.ensures.1).0

pub returns-in-Failed : goal.returns-in-Failed
returns-in-Failed c =
    (ended _ _ c.args.tenant _ c.close_refused.new.self c.in-Some-spec.spec.now true c.collect.new.self c.self.view_is c.self.invariant (seen _ _ _ c.in-Some.ensures.item.3.0 c.in-Some.ensures.item.1) c.in-Failed.ensures.0.0 (inr (refl, c.in-Failed.ensures.0.1)) c.in-Failed.ensures.0.2
    c.close_refused.ensures.is c.close_refused.ensures.sound c.in-Failed.ensures.1).1
