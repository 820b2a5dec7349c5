use Rattle.ot_pool.proofs.TurnLemmas.{counts-none}
use Rattle.ot_pool.proofs.hub.Hub.settle.Goals as goal

pub returns-in-Err-clause-taken : goal.returns-in-Err-clause-taken
returns-in-Err-clause-taken g c =
    counts-none (record { floor = c.self.inside.hall; numbers = c.self.inside.numbers; closed = c.self.inside.is_closed }) c.args.self.now c.args.tenant c.args.done c.in-Err.done c.in-Err.field-0-1 c.settle.new.self c.fail-in-Err.new.self
    c.self.view_is c.if-is_closed.false c.in-Err.ensures.same c.in-Err.ensures.refuses c.in-Err.ensures.refused c.fail-in-Err.ensures
