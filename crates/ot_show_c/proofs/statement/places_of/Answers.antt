use Rattle.std.proofs.Common.{◌≡◌, suc, ◌+◌, ◌∷◌, drop, drop-cons, get_or, map, refl, sym, ap, ◌∙◌, arith}
use Rattle.std.proofs.lemmas.Grind.{common_steps}
use Rattle.ot_model.specs.declared.expr.Cell.{Cell}
use Rattle.ot_show_print.proofs.ValueLemmas.{same_cell}
use Rattle.ot_show_c.specs.Statements.{cell_of_pair, put_all, each_once}
use Rattle.ot_show_c.proofs.CellLemmas.{put_step}
use Rattle.ot_show_c.proofs.statement.places_of.Goals as goal

pub loop-cell-preserved : goal.loop-cell-preserved
loop-cell-preserved c =
    let cells = c.args.cells.now in
    let none : Cell = record { array = 0; index = 0 } in
    let it : Cell = get_or cells c.loop-cell.cell-index none in
    let next : suc c.loop-cell.cell-index ≡ c.loop-cell.cell-index + 1 = omega arith in
    let left : drop c.loop-cell.cell-index cells ≡ it ∷ drop (c.loop-cell.cell-index + 1) cells = drop-cons cells c.loop-cell.cell-index none c.loop-cell-test.true ∙ ap (λ n. it ∷ drop n cells) next in
    put_step c.loop-cell.places.keys c.insert.new.self.keys (it.array, it.index) it (drop (c.loop-cell.cell-index + 1) cells) (each_once cells)
    (grind (arith, common_steps)) (same_cell (cell_of_pair (it.array, it.index)) it refl refl)
    (ap (put_all (map cell_of_pair c.loop-cell.places.keys)) (sym left) ∙ c.loop-cell.invariant)
