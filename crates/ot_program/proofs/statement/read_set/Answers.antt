use Rattle.std.proofs.Common.{refl, rules}
use Rattle.std.proofs.lemmas.Result.{err_from_is_err_and}
use Rattle.serde_json.specs.View.{view}
use Rattle.ot_model.specs.declared.stmt.Stmt.{the_lemmas}
use Rattle.ot_program.specs.walk.Statements.{target_of}
use Rattle.ot_program.specs.walk.Sizes.{bindings_of}
use Rattle.ot_program.proofs.Fronts.{put_behind}
use Rattle.ot_program.proofs.Joins.{Fails-then}
use Rattle.ot_program.proofs.statement.read_set.Goals as goal

pub returns-in_err-cell : goal.returns-in_err-cell
returns-in_err-cell c =
    let scope = c.args.scope.now in
    let p = err_from_is_err_and c.from_residual.result c.from_residual.ensures.1 in
    rw (p.1, p.2)
    (Fails-then _ (target_of scope.shape.now (bindings_of scope.variables.now) (view c.args.cell.now) (view c.args.value.now) c.args.counts.now) _ c.in_err-cell.ensures)

pub returns : goal.returns
returns c =
    rw c.in_ok-cell.ensures
    (record { added = _; is = refl; list = put_behind _ _ _ _ c.in_ok-push.ensures.items (search (rules, the_lemmas)) })
