use Rattle.std.proofs.Common.{refl}
use Rattle.std.proofs.lemmas.Result.{err_from_is_err_and}
use Rattle.ot_exec_state.specs.Results.{each}
use Rattle.ot_exec_state.specs.Clauses.{with_item}
use Rattle.ot_exec_state.specs.View.{slots_of, memory_of}
use Rattle.ot_exec_state.proofs.EachLemmas.{goes_on, stops, ends}
use Rattle.ot_exec_state.proofs.clauses.add_items.Goals as goal

pub returns-in_err-add_item-clause-told : goal.returns-in_err-add_item-clause-told
returns-in_err-add_item-clause-told c =
    let one = with_item (slots_of c.args.slots.now) (memory_of c.args.memory.now) c.args.waits c.args.all.now in
    let items = c.args.items.now in
    let p = err_from_is_err_and c.from_residual.result c.from_residual.ensures.1 in
    rw (p.1, p.2) (stops c.in_err-add_item.field-0.0 one items c.loop-item.item-index _ _ c.loop-item.uses.items (each one items c.args.uses.now.items)
    c.loop-item-test.true refl c.loop-item.invariant.0 c.in_err-add_item.ensures.told)

pub loop-item-preserved : goal.loop-item-preserved
loop-item-preserved c =
    let one = with_item (slots_of c.args.slots.now) (memory_of c.args.memory.now) c.args.waits c.args.all.now in
    let items = c.args.items.now in (
      goes_on one items c.loop-item.item-index _ _ c.loop-item.uses.items c.add_item.new.uses.items (each one items c.args.uses.now.items)
          c.loop-item-test.true refl c.loop-item.invariant.0 c.in_ok-add_item.ensures.told,
      c.in_ok-add_item.ensures.ordered,
    )

pub returns-clause-told : goal.returns-clause-told
returns-clause-told c =
    let one = with_item (slots_of c.args.slots.now) (memory_of c.args.memory.now) c.args.waits c.args.all.now in
    let items = c.args.items.now in
    ends one items c.loop-item.item-index c.loop-item.uses.items (each one items c.args.uses.now.items) c.loop-item-test.false c.loop-item.invariant.0
