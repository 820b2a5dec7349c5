use Rattle.ot_program.proofs.CellLists.{cells_left-step, pushed}
use Rattle.ot_program.proofs.declaration.push_cells.Goals as goal

pub loop-step-preserved : goal.loop-step-preserved
loop-step-preserved c =
    pushed c.loop-step.cells.items c.push.new.self.items _ _ _ c.in_ok-push.ensures.items
    (rw (cells_left-step c.args.section c.loop-step.step c.loop-step-test.true) at c.loop-step.invariant)
