use Rattle.std.proofs.Common.{Ok, ◌∙◌, sym}
use Rattle.std.proofs.lemmas.Result.{err_from_is_err_and}
use Rattle.ot_model.specs.Tree.{Apply}
use Rattle.ot_model.specs.View.{expr_of}
use Rattle.ot_program.proofs.Joins.{join_fails}
use Rattle.ot_program.proofs.value.operation.Goals as goal

pub returns-in_err-one : goal.returns-in_err-one
returns-in_err-one c = λ r s one two.
    let p = err_from_is_err_and c.from_residual.result c.from_residual.ensures.1 in
    rw (p.1, p.2)
    (join_fails expr_of expr_of c.args.one c.args.two r s (λ p. Ok (Apply c.args.op p.0 p.1)) _ (sym c.join.ensures ∙ c.in_err-one.was) one two)
