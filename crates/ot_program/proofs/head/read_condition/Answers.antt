use Rattle.std.proofs.Common.{rules, sym, ◌∙◌}
use Rattle.std.proofs.lemmas.Result.{err_from_is_err_and}
use Rattle.serde_json.specs.View.{view}
use Rattle.ot_model.specs.View.{expr_of}
use Rattle.ot_program.specs.walk.Reading.{both_of}
use Rattle.ot_program.specs.walk.Statements.{list_of}
use Rattle.ot_program.specs.walk.Parts.{expression_of}
use Rattle.ot_program.specs.walk.Sizes.{bindings_of}
use Rattle.ot_program.proofs.Joins.{join_fails}
use Rattle.ot_program.proofs.head.read_condition.Goals as goal

pub returns-in_err-condition-clause-reads : goal.returns-in_err-condition-clause-reads
returns-in_err-condition-clause-reads c =
    let scope = c.args.scope.now in
    let p = err_from_is_err_and c.from_residual.result c.from_residual.ensures.1 in
    rw (p.1, p.2)
    (join_fails expr_of (λ u. u) c.read_expression.result c.map_err-lists.result
    (expression_of scope.shape.now (bindings_of scope.variables.now) (view c.args.value.now))
    (both_of (list_of (view c.args.one.now)) (list_of (view c.args.two.now))) _ _
    (sym c.join.ensures ∙ c.in_err-condition.was) c.read_expression.ensures (search rules))
