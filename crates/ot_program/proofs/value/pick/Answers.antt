use Rattle.std.proofs.Common.{Ok, rules, ◌∙◌, sym}
use Rattle.std.proofs.lemmas.Result.{err_from_is_err_and}
use Rattle.ot_model.specs.Tree.{PickFrom}
use Rattle.ot_model.specs.View.{expr_of}
use Rattle.ot_program.proofs.Joins.{join_fails}
use Rattle.ot_program.proofs.value.pick.Goals as goal

pub returns-in_err-section : goal.returns-in_err-section
returns-in_err-section c = λ s chosen.
    let p = err_from_is_err_and c.from_residual.result c.from_residual.ensures.1 in
    rw (p.1, p.2)
    (join_fails (λ x. x) expr_of c.map_err.result c.args.chosen c.args.section s (λ p. Ok (PickFrom p.0 p.1)) _
    (sym c.join.ensures ∙ c.in_err-section.was) (search rules) chosen)
