use Rattle.std.proofs.Common.{refl}
use Rattle.std.proofs.lemmas.Result.{err_from_is_err_and}
use Rattle.ot_exec_state.specs.Results.{each}
use Rattle.ot_exec_state.proofs.EachLemmas.{goes_on, stops, ends}
use Rattle.ot_exec_machine.specs.Steps.{siding}
use Rattle.ot_exec_machine.specs.View.{machine_state}
use Rattle.ot_exec_machine.proofs.machine.Machine.side.Goals as goal

pub returns-in_err-side_one : goal.returns-in_err-side_one
returns-in_err-side_one c =
    let one = siding c.args.limits c.args.site in
    let items = c.args.items.now in
    let p = err_from_is_err_and c.from_residual.result c.from_residual.ensures.1 in
    rw (p.1, p.2) (stops c.in_err-side_one.field-0.0 one items c.loop-item.item-index _ _ (machine_state c.loop-item.self, c.loop-item.set.items)
    (each one items (machine_state c.args.self.now, c.args.set.now.items)) c.loop-item-test.true refl c.loop-item.invariant c.in_err-side_one.ensures)

pub loop-item-preserved : goal.loop-item-preserved
loop-item-preserved c =
    let one = siding c.args.limits c.args.site in
    let items = c.args.items.now in
    goes_on one items c.loop-item.item-index _ _ (machine_state c.loop-item.self, c.loop-item.set.items) (machine_state c.side_one.new.self, c.side_one.new.set.items)
    (each one items (machine_state c.args.self.now, c.args.set.now.items)) c.loop-item-test.true refl c.loop-item.invariant c.in_ok-side_one.ensures

pub returns : goal.returns
returns c =
    let one = siding c.args.limits c.args.site in
    let items = c.args.items.now in
    ends one items c.loop-item.item-index (machine_state c.loop-item.self, c.loop-item.set.items) (each one items (machine_state c.args.self.now, c.args.set.now.items))
    c.loop-item-test.false c.loop-item.invariant
