use Rattle.std.proofs.Common.{◌+◌, arith}
use Rattle.ot_c_overlap.specs.Items.{item_of}
use Rattle.ot_c_overlap.proofs.WalkLemmas.{cells_next, cells_end}
use Rattle.ot_c_overlap.proofs.item.note_cells.Goals as goal

pub loop-index-preserved : goal.loop-index-preserved
loop-index-preserved c =
    let w = c.args.whole in
    cells_next (item_of w.parent w.entry) w.writes w.section.array c.in_ok-short.field-0 c.loop-index.index (w.section.start + w.section.len) c.loop-index.noted.items _ _
    (omega (arith, c.loop-index-test.true)) c.in_ok-short.ensures c.in_ok-push.ensures.items c.loop-index.invariant

pub returns : goal.returns
returns c =
    let w = c.args.whole in
    cells_end (item_of w.parent w.entry) w.writes w.section.array c.loop-index.index (w.section.start + w.section.len) c.loop-index.noted.items _
    (omega (arith, c.loop-index-test.false)) c.loop-index.invariant
