use Rattle.std.proofs.Common.{◌+◌, refl, sym, ◌∙◌, take}
use Rattle.ot_check.proofs.StandingLemmas.{alone, one_by_one, any-at, any-none, any-step}
use Rattle.ot_check.proofs.standing.Standing.group_breaks.Goals as goal

pub returns-then-cell_breaks : goal.returns-then-cell_breaks
returns-then-cell_breaks c = λ own opened children decls h op.
    any-at (alone own opened children op c.args.offence) c.args.cells.now c.args.cells.now c.loop-cell.cell-index _ c.cell_breaks.result
    refl c.loop-cell-test.true (c.cell_breaks.ensures own opened children decls h op) c.if-cell_breaks.true
    ∙ sym (one_by_one own opened children op c.args.cells.now c.args.offence)

pub loop-cell-preserved : goal.loop-cell-preserved
loop-cell-preserved c = λ own opened children decls h op.
    one_by_one own opened children op (take (c.loop-cell.cell-index + 1) c.args.cells.now) c.args.offence
    ∙ any-step (alone own opened children op c.args.offence) c.args.cells.now c.loop-cell.cell-index _ c.cell_breaks.result c.loop-cell-test.true
    (sym (one_by_one own opened children op (take c.loop-cell.cell-index c.args.cells.now) c.args.offence) ∙ c.loop-cell.invariant own opened children decls h op)
    (c.cell_breaks.ensures own opened children decls h op) c.if-cell_breaks.false

pub returns : goal.returns
returns c = λ own opened children decls h op.
    any-none (alone own opened children op c.args.offence) c.args.cells.now c.args.cells.now c.loop-cell.cell-index
    refl c.loop-cell-test.false
    (sym (one_by_one own opened children op (take c.loop-cell.cell-index c.args.cells.now) c.args.offence) ∙ c.loop-cell.invariant own opened children decls h op)
    ∙ sym (one_by_one own opened children op c.args.cells.now c.args.offence)
