use Rattle.std.proofs.Common.{◌<◌, ◌++◌, get_or, length, sym, ap, ◌∙◌, arith}
use Rattle.std.proofs.lemmas.Option.{slice_get_within}
use Rattle.std.proofs.lemmas.List.{length-map}
use Rattle.ot_depend.specs.Kept.{Entry, row_waits_for}
use Rattle.ot_depend.specs.Cells.{line_of, lines_of}
use Rattle.ot_depend.specs.declared.cells.Spot.{Spot}
use Rattle.ot_depend.proofs.TableLemmas.{entry_read, found_more}
use Rattle.ot_depend.proofs.cells.Table.earlier.Goals as goal

pub loop-spot-preserved : goal.loop-spot-preserved
loop-spot-preserved c =
    let s : Spot = get_or c.args.spots.now c.loop-spot.spot-index _ in
    let l = c.requires.sound s.one.cell s.place (c.requires.placed c.loop-spot.spot-index _ c.loop-spot-test.true) in
    let within : s.place < length c.args.self.now.rows.items = let inside = slice_get_within (lines_of c.args.self.now.rows.items) s.place l.0 l.1 in omega (arith, length-map c.args.self.now.rows.items line_of) in
    c.in_ok-list.ensures ∙ ap (λ (e : Entry). c.loop-spot.earlier.items ++ row_waits_for e s.one.mode) (sym (entry_read c.args.self.now.rows.items s.place c.index.result.now within c.index.ensures))
    ∙ found_more (lines_of c.args.self.now.rows.items) c.args.spots.now c.loop-spot.spot-index _ c.loop-spot.earlier.items c.loop-spot-test.true c.loop-spot.invariant
