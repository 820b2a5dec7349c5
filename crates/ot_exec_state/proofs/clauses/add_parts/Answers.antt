use Rattle.std.proofs.Common.{refl}
use Rattle.std.proofs.lemmas.Result.{err_from_is_err_and}
use Rattle.ot_exec_state.specs.Results.{each}
use Rattle.ot_exec_state.specs.Clauses.{with_reduced}
use Rattle.ot_exec_state.specs.View.{slots_of, memory_of}
use Rattle.ot_exec_state.proofs.EachLemmas.{goes_on, stops, ends}
use Rattle.ot_exec_state.proofs.clauses.add_parts.Goals as goal

pub returns-in_err-add_part : goal.returns-in_err-add_part
returns-in_err-add_part c =
    let one = with_reduced (slots_of c.args.slots.now) (memory_of c.args.memory.now) in
    let items = c.args.items.now in
    let p = err_from_is_err_and c.from_residual.result c.from_residual.ensures.1 in
    rw (p.1, p.2) (stops c.in_err-add_part.field-0.0 one items c.loop-item.item-index _ _ c.loop-item.parts.items (each one items c.args.parts.now.items)
    c.loop-item-test.true refl c.loop-item.invariant c.in_err-add_part.ensures)

pub loop-item-preserved : goal.loop-item-preserved
loop-item-preserved c =
    let one = with_reduced (slots_of c.args.slots.now) (memory_of c.args.memory.now) in
    let items = c.args.items.now in
    goes_on one items c.loop-item.item-index _ _ c.loop-item.parts.items c.add_part.new.parts.items (each one items c.args.parts.now.items)
    c.loop-item-test.true refl c.loop-item.invariant c.in_ok-add_part.ensures

pub returns : goal.returns
returns c =
    let one = with_reduced (slots_of c.args.slots.now) (memory_of c.args.memory.now) in
    let items = c.args.items.now in
    ends one items c.loop-item.item-index c.loop-item.parts.items (each one items c.args.parts.now.items) c.loop-item-test.false c.loop-item.invariant
