use Rattle.ot_model.specs.View.{stmts_of}
use Rattle.ot_law_raceless.proofs.laws.checked_races_on_no_way.Goals as goal

pub returns : goal.returns
returns c =
    let checked = c.args.checked.now in
    c.accepted_races_on_no_way.ensures (stmts_of checked.program.body.items) checked.disciplined
