use Rattle.ot_model.specs.Cells.{same_cell}
use Rattle.std.proofs.Common.{◌||◌, ap, ◌∙◌}
use Rattle.std.specs.Prelude.{slice_get}
use Rattle.std.proofs.lemmas.List.{map-set}
use Rattle.ot_sets.specs.Sets.{words_of}
use Rattle.ot_check.specs.walk.States.{row_has, rows_of}
use Rattle.ot_check.proofs.WalkLemmas.{on_ok}
use Rattle.ot_check.proofs.RowLemmas.{row_has-insert, map-read}
use Rattle.ot_check.proofs.cell_set.CellSet.insert.Goals as goal

pub returns : goal.returns
returns c =
    let rows = c.reach.new.self.rows.items in
    on_ok c.insert.result _ _ (λ inserted cell.
    ap (λ rows. row_has (slice_get rows cell.array) cell.index) (map-set words_of rows c.args.cell.array c.insert.new.self)
    ∙ row_has-insert (rows_of c.reach.new.self) c.args.cell cell (words_of c.index_mut.result.now) (words_of c.insert.new.self)
    (map-read words_of rows c.args.cell.array c.index_mut.result.now c.in_ok-reach.ensures.there c.index_mut.ensures.value) inserted
    ∙ ap (λ b. b || same_cell c.args.cell cell) (c.in_ok-reach.ensures.same cell)) c.insert.ensures.put
