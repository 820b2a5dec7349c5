use Rattle.std.proofs.Common.{◌≡◌, ◌<◌, set, take, get_or, length, ap, ◌∙◌, arith}
use Rattle.std.proofs.lemmas.Option.{slice_get_within}
use Rattle.std.proofs.lemmas.List.{length-map}
use Rattle.ot_model.specs.Cells.{updated}
use Rattle.ot_depend.specs.Kept.{Admits}
use Rattle.ot_depend.specs.Cells.{line_of, lines_of, enter}
use Rattle.ot_depend.specs.declared.cells.Spot.{Spot}
use Rattle.ot_depend.specs.declared.cells.Table.{Table}
use Rattle.ot_depend.proofs.ListLemmas.{kept_at}
use Rattle.ot_depend.proofs.TableLemmas.{lines_of-set, enter_more, length-enter_all}
use Rattle.ot_depend.proofs.cells.Table.enter.Goals as goal

pub loop-spot-preserved : goal.loop-spot-preserved
loop-spot-preserved c =
    let s : Spot = get_or c.args.spots.now c.loop-spot.spot-index _ in
    let before : Table = c.args.self.now in
    let l = c.requires.sound s.one.cell s.place (c.requires.placed c.loop-spot.spot-index _ c.loop-spot-test.true) in
    let within : s.place < length c.loop-spot.self.rows.items = let inside = slice_get_within (lines_of before.rows.items) s.place l.0 l.1 in
    omega (arith, length-map c.loop-spot.self.rows.items line_of, length-enter_all c.args.child (take c.loop-spot.spot-index c.args.spots.now) (lines_of before.rows.items), ap length c.loop-spot.invariant.lines) in
    let is : lines_of (set c.loop-spot.self.rows.items s.place c.enter.new.self) ≡ updated (lines_of c.loop-spot.self.rows.items) s.place (enter c.args.child s.one.mode) =
    lines_of-set (enter c.args.child s.one.mode) c.loop-spot.self.rows.items s.place c.index_mut.result.now c.enter.new.self within c.index_mut.ensures.value c.enter.ensures.exact in
    record {
      lines = is ∙ ap (λ ls. updated ls s.place (enter c.args.child s.one.mode)) c.loop-spot.invariant.lines
          ∙ enter_more c.args.child (lines_of before.rows.items) c.args.spots.now c.loop-spot.spot-index _ c.loop-spot-test.true;
      places = c.loop-spot.invariant.places;
      room = λ k d inside. kept_at (λ r. Admits c.args.child r.users) c.loop-spot.self.rows.items s.place (get_or c.args.spots.now k d).place c.enter.new.self c.enter.ensures.admits (c.loop-spot.invariant.room k d inside);
    }
