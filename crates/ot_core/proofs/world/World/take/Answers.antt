use Rattle.std.proofs.Common.{subst}
use Rattle.std.specs.Prelude.{IfOk}
use Rattle.ot_core.specs.Scenes.{StartsFor, Finishes}
use Rattle.ot_core.specs.declared.event.Event.TheVariants.{Admit, Open, Start, Finish, Reply}
use Rattle.ot_core.proofs.OthersLemmas.{others, others-on}
use Rattle.ot_core.proofs.MemoryLemmas.{out-unchanged, out-start}
use Rattle.ot_core.proofs.world.World.take.Goals as goal

pub returns-in-Some-clause-others : goal.returns-in-Some-clause-others
returns-in-Some-clause-others c =
    rw c.in-Start.is (others-on (Start c.in-Start.worker c.in-Start.tenant c.in-Start.pick) c.args.self.now c.start.new.self c.start.result
    (subst (λ o. IfOk c.start.result (λ stepped. StartsFor c.args.self.now o c.in-Start.tenant c.in-Start.pick stepped c.start.new.self)) c.in-Some.ensures c.start.ensures.stepped))

pub returns-in-Some-seat_of-clause-others : goal.returns-in-Some-seat_of-clause-others
returns-in-Some-seat_of-clause-others c =
    rw c.in-Finish.is (others (Finish c.in-Finish.worker) c.args.self.now c.finish.new.self c.finish.result
    (subst (λ o. Finishes c.args.self.now o c.finish.result c.finish.new.self) c.in-Some-seat_of.ensures c.finish.ensures))

pub returns-in-Reply-clause-others : goal.returns-in-Reply-clause-others
returns-in-Reply-clause-others c =
    rw c.in-Reply.is (others (Reply c.in-Reply.tenant) c.args.self.now c.reply.new.self c.reply.result c.reply.ensures)

pub returns-in-Admit-clause-memory : goal.returns-in-Admit-clause-memory
returns-in-Admit-clause-memory c =
    rw c.in-Admit.is (out-unchanged (Admit c.in-Admit.tenant c.in-Admit.line) c.args.self.now c.admit.new.self c.admit.result c.admit.ensures.memory)

pub returns-in-Open-clause-memory : goal.returns-in-Open-clause-memory
returns-in-Open-clause-memory c =
    rw c.in-Open.is (out-unchanged (Open c.in-Open.tenant) c.args.self.now c.open.new.self c.open.result c.open.ensures.memory)

pub returns-in-Some-clause-memory : goal.returns-in-Some-clause-memory
returns-in-Some-clause-memory c =
    rw c.in-Start.is (out-start c.in-Start.worker c.in-Some.hand c.in-Start.tenant c.in-Start.pick c.args.self.now c.start.new.self c.start.result c.in-Some.ensures c.start.ensures.memory)
