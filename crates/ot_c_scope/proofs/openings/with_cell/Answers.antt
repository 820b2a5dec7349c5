use Rattle.std.proofs.Common.{◌∙◌, ap, sym}
use Rattle.std.specs.Prelude.{◌||◌}
use Rattle.ot_c_scope.specs.Kept.{points_in}
use Rattle.ot_c_scope.specs.Scopes.{points_into}
use Rattle.ot_c_scope.proofs.CellLemmas.{inserted}
use Rattle.ot_c_scope.proofs.openings.with_cell.Goals as goal

pub returns-in_ok-insert-in-Some : goal.returns-in_ok-insert-in-Some
returns-in_ok-insert-in-Some c = λ x run.
    ap (points_in x run) c.in_ok-insert-in-Some.ensures.keys
    ∙ inserted x run c.args.cells.keys (c.in-Some.cell.array, c.in-Some.cell.place)
    ∙ ap (λ o. points_into x run o || points_in x run c.args.cells.keys) (sym c.in-Some.is)
