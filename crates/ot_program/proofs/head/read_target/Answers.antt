use Rattle.std.proofs.Common.{rules, sym, ◌∙◌}
use Rattle.std.proofs.lemmas.Result.{err_from_is_err_and}
use Rattle.serde_json.specs.View.{view}
use Rattle.ot_model.specs.View.{expr_of}
use Rattle.ot_program.specs.walk.Parts.{cell_of, expression_of}
use Rattle.ot_program.specs.walk.Sizes.{bindings_of}
use Rattle.ot_program.proofs.Joins.{join_fails}
use Rattle.ot_program.proofs.head.read_target.Goals as goal

pub returns-in_err-cell : goal.returns-in_err-cell
returns-in_err-cell c =
    let scope = c.args.scope.now in
    let p = err_from_is_err_and c.from_residual.result c.from_residual.ensures.1 in
    rw (p.1, p.2)
    (join_fails (λ x. x) expr_of c.map_err-cell.result c.read_expression.result
    (cell_of scope.shape.now (bindings_of scope.variables.now) (view c.args.cell.now))
    (expression_of scope.shape.now (bindings_of scope.variables.now) (view c.args.value.now)) _ _
    (sym c.join.ensures ∙ c.in_err-cell.was) (search rules) c.read_expression.ensures)
