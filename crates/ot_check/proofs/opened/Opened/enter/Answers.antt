use Rattle.std.proofs.Common.{◌&&◌, ◌||◌, map, ap, ◌∙◌}
use Rattle.std.specs.Prelude.{slice_get}
use Rattle.std.proofs.lemmas.List.{map-set}
use Rattle.ot_model.specs.Cells.{number_of, same_fold}
use Rattle.ot_check.specs.Offences.{has_cell}
use Rattle.ot_check.specs.walk.States.{rows_of, set_has}
use Rattle.ot_check.proofs.WalkLemmas.{on_ok}
use Rattle.ot_check.proofs.RowLemmas.{map-read, set-entered}
use Rattle.ot_check.proofs.opened.Opened.enter.Goals as goal

pub returns : goal.returns
returns c =
    let sets = c.reach.new.self.sets.items in
    on_ok c.enter.result _ _ (λ entered o cell.
    ap (λ sets. set_has (slice_get sets (number_of o)) cell) (map-set rows_of sets c.number-place.result c.enter.new.self)
    ∙ set-entered (map rows_of sets) c.number-place.result c.args.op o (rows_of c.index_mut.result.now) (rows_of c.enter.new.self) cell (has_cell c.args.cells.now cell)
    c.number-place.ensures.exact (map-read rows_of sets c.number-place.result c.index_mut.result.now c.in_ok-reach.ensures.there c.index_mut.ensures.value) (entered cell)
    ∙ ap (λ b. b || (same_fold c.args.op o && has_cell c.args.cells.now cell)) (c.in_ok-reach.ensures.same o cell)) c.enter.ensures
