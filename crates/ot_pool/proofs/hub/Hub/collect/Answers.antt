use Rattle.ot_pool.proofs.TurnLemmas.{turns}
use Rattle.ot_pool.proofs.hub.Hub.collect.Goals as goal

pub returns-in-Pending-clause-collected : goal.returns-in-Pending-clause-collected
returns-in-Pending-clause-collected g c =
    turns _ (record { floor = c.self.inside.hall; numbers = c.self.inside.numbers; closed = c.self.inside.is_closed }) c.args.self.now c.collect.new.self c.self.view_is c.if-self.false c.in-Pending.ensures

pub returns-in-Ended-clause-collected : goal.returns-in-Ended-clause-collected
returns-in-Ended-clause-collected g c =
    turns _ (record { floor = c.self.inside.hall; numbers = c.self.inside.numbers; closed = c.self.inside.is_closed }) c.args.self.now c.collect.new.self c.self.view_is c.if-self.false c.in-Ended.ensures

pub returns-in-Failed-clause-collected : goal.returns-in-Failed-clause-collected
returns-in-Failed-clause-collected g c =
    turns _ (record { floor = c.self.inside.hall; numbers = c.self.inside.numbers; closed = c.self.inside.is_closed }) c.args.self.now c.collect.new.self c.self.view_is c.if-self.false c.in-Failed.ensures
