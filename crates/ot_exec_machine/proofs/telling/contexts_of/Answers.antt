use Rattle.std.proofs.Common.{◌∙◌, ◌++◌, ◌+◌, ◌-◌, List, ap, sym}
use Rattle.ot_exec_machine.specs.Telling.{around}
use Rattle.ot_exec_state.specs.declared.trail.Context.{Context}
use Rattle.ot_exec_machine.proofs.TellingLemmas.{one_found, none_found, all_found}
use Rattle.ot_exec_machine.proofs.telling.contexts_of.Goals as goal

pub returns-in-None : goal.returns-in-None
returns-in-None c =
    let cs = c.args.contexts.now in
    none_found cs c.loop.found.items c.args.most c.loop.counter c.loop.number (around cs c.args.most c.args.context) c.loop-test.true (sym c.in-None.ensures) c.loop.invariant

pub loop-preserved : goal.loop-preserved
loop-preserved c =
    let cs = c.args.contexts.now in
    ap (λ (found : List Context). found ++ around cs (c.args.most - (c.loop.counter + 1)) c.in-Some.it.outer) c.in_ok-push-in-Some.ensures.items
    ∙ one_found cs c.loop.found.items c.args.most c.loop.counter c.loop.number c.in-Some.it (around cs c.args.most c.args.context) c.loop-test.true (sym c.in-Some.ensures) c.loop.invariant

pub returns : goal.returns
returns c =
    let cs = c.args.contexts.now in
    all_found cs c.loop.found.items c.args.most c.loop.counter c.loop.number (around cs c.args.most c.args.context) c.loop-test.false c.loop.invariant
