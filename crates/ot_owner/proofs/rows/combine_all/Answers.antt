use Rattle.std.proofs.Common.{◌∙◌, get_or, ap}
use Rattle.std.specs.Prelude.{Some}
use Rattle.std.proofs.lemmas.List.{get_or_default}
use Rattle.ot_model.specs.Cells.{cell_of}
use Rattle.ot_model.specs.declared.stmt.Mode.TheVariants.{Reads}
use Rattle.ot_model.specs.declared.stmt.Use.{Use}
use Rattle.ot_owner.specs.Kept.{rows_of}
use Rattle.ot_owner.proofs.RowLemmas.{combined-more}
use Rattle.ot_owner.proofs.rows.combine_all.Goals as goal

pub loop-place-preserved : goal.loop-place-preserved
loop-place-preserved g c =
    let nothing : Use = record { cell = record { array = 0; index = 0 }; mode = Reads } in
    let us = c.args.uses.now in
    let u : Use = get_or us c.loop-place.place nothing in
    record {
      combined = combined-more (g.M.Monoid.join_is c.args.monoid.now) (rows_of c.args.rows.now) us c.loop-place.place c.at-stored.result u (cell_of c.args.cells.now) (cell_of c.loop-place.cells) (cell_of c.set.new.self)
          c.requires.ordered c.loop-place-test.true (get_or_default us c.loop-place.place nothing u c.loop-place-test.true) c.loop-place.invariant.combined
          c.at-stored.ensures (c.set.ensures.found ∙ ap Some c.total.ensures) c.set.ensures.others;
      lengths = c.set.ensures.kept ∙ c.loop-place.invariant.lengths;
    }
